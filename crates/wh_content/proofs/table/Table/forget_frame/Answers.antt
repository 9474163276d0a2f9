use Rattle.std.proofs.Common.{◌<◌, ◌%◌, inr, refl, length-set, arith}
use Rattle.wh_space_model.specs.declared.states.Mark.TheVariants.{Plain}
use Rattle.wh_content.proofs.Buckets.{remarked, removed}
use Rattle.wh_content.proofs.Entries.{apart_put}
use Rattle.wh_content.proofs.table.Table.forget_frame.Goals as goal

pub invariant_of-self : goal.invariant_of-self
invariant_of-self c =
    let a = c.self.inside in
    let marks = a.marks in
    let f = c.args.frame in
    let inv = c.self.invariant in
    let within = rw (← c.self.view_is) at c.requires in
    let found = c.get.ensures.some in
    let none = rw c.in_default.is at c.hash_of.ensures.none in
    record {
      few = inv.few;
      many = rw c.set.ensures (simp length-set inv.many);
      apart = rw c.set.ensures (apart_put marks f Plain inv.apart within (λ h has. absurd has));
      places = inv.places;
      chains = rw c.set.ensures (remarked a.frames f c.get.result Plain marks a.chains within found (λ h has. absurd has) (λ h has. absurd (none h has)) inv.chains);
    }

pub invariant_of-self-2 : goal.invariant_of-self-2
invariant_of-self-2 c =
    let a = c.self.inside in
    let n = a.frames in
    let marks = a.marks in
    let f = c.args.frame in
    let hash = c.in-Some.hash in
    let inv = c.self.invariant in
    let within = rw (← c.self.view_is) at c.requires in
    let found = c.get.ensures.some in
    let below : hash % n < n = omega (arith, inv.many) in
    record {
      few = inv.few;
      many = rw c.set-2.ensures (simp length-set inv.many);
      apart = rw c.set-2.ensures (apart_put marks f Plain inv.apart within (λ h has. absurd has));
      places = rw c.remove.ensures.removed (simp length-set inv.places);
      chains = rw (c.set-2.ensures, c.remove.ensures.removed) (removed n (hash % n) c.behind-place.result f marks a.chains inv.many
          (omega (arith, inv.many)) below inv.chains (hash, (rw found c.in-Some.ensures.some), refl)
          (c.behind-place.ensures.place n (hash % n) marks inv.chains below (inr c.head_of.ensures))
          c.behind-place.ensures.behind c.behind-place.ensures.within c.behind-place.ensures.last
          c.remove.ensures.falls);
    }
