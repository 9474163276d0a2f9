use Rattle.std.proofs.Common.{◌∙◌, ap, Some, length-set}
use Rattle.wh_space_model.specs.declared.states.Mark.TheVariants.{Sharers, Unlisted}
use Rattle.wh_content.proofs.Buckets.{remarked}
use Rattle.wh_content.proofs.Entries.{apart_put}
use Rattle.wh_content.proofs.table.Table.drop_sharer.Goals as goal

pub invariant_of-self : goal.invariant_of-self
invariant_of-self c =
    let a = c.self.inside in
    let marks = a.marks in
    let f = c.args.frame in
    let inv = c.self.invariant in
    let within = rw (← c.self.view_is) at c.requires in
    let found = c.get.ensures.some ∙ ap Some c.in-Sharers.is in
    record {
      few = inv.few;
      many = rw c.set.ensures (simp length-set inv.many);
      apart = rw c.set.ensures (apart_put marks f _ inv.apart within (λ hash has. inv.apart f hash (rw found has)));
      places = inv.places;
      chains = rw c.set.ensures (remarked a.frames f (Sharers c.in-Sharers.hash c.in-Sharers.count) _ marks a.chains within found (λ h x. x) (λ h x. x) inv.chains);
    }

pub invariant_of-self-then-count-gt1-2 : goal.invariant_of-self-then-count-gt1-2
invariant_of-self-then-count-gt1-2 c =
    let a = c.self.inside in
    let marks = a.marks in
    let f = c.args.frame in
    let inv = c.self.invariant in
    let within = rw (← c.self.view_is) at c.requires in
    let found = c.get.ensures.some ∙ ap Some c.in-Unlisted.is in
    record {
      few = inv.few;
      many = rw c.set-in-Unlisted.ensures (simp length-set inv.many);
      apart = rw c.set-in-Unlisted.ensures (apart_put marks f _ inv.apart within (λ hash has. absurd has));
      places = inv.places;
      chains = rw c.set-in-Unlisted.ensures (remarked a.frames f (Unlisted c.in-Unlisted.count) _ marks a.chains within found (λ h x. x) (λ h x. x) inv.chains);
    }
