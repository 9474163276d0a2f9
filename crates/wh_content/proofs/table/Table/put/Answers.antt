use Rattle.std.proofs.Common.{◌<◌, ◌%◌, inr, refl, ◌∙◌, length, length-set, arith}
use Rattle.std.proofs.lemmas.List.{set-set}
use Rattle.wh_space_model.specs.declared.states.Mark.TheVariants.{Plain}
use Rattle.wh_content.proofs.Buckets.{inserted, leads_before}
use Rattle.wh_content.proofs.Entries.{put_within, put_there, apart_put, only_plain}
use Rattle.wh_content.proofs.table.Table.put.Goals as goal

pub insert-requires-clause-last : goal.insert-requires-clause-last
insert-requires-clause-last c =
    let a = c.self.inside in
    let n = a.frames in
    let f = c.args.frame in
    let b = c.args.hash % n in
    let marks = a.marks in
    let inv = c.self.invariant in
    let forgot = c.self.view_is ∙ c.forget_frame.ensures in
    let below : b < n = omega arith in
    leads_before n marks a.chains inv.chains b c.behind-place.result below
    (c.behind-place.ensures.place n b marks inv.chains below (inr c.head_of.ensures)) f
    (put_there c.args.self.now marks f Plain forgot c.requires.within) c.behind-place.ensures.last

pub invariant_of-self : goal.invariant_of-self
invariant_of-self c =
    let a = c.self.inside in
    let n = a.frames in
    let f = c.args.frame in
    let b = c.args.hash % n in
    let old = c.args.self.now in
    let marks = a.marks in
    let inv = c.self.invariant in
    let forgot = c.self.view_is ∙ c.forget_frame.ensures in
    let there = put_within old marks f n Plain forgot inv.many c.requires.within in
    let within : f < length marks = omega (arith, inv.many) in
    let below : b < n = omega arith in
    let behind = c.behind-place.ensures in
    let at = behind.place n b marks inv.chains below (inr c.head_of.ensures) in
    let plain = put_there old marks f Plain forgot c.requires.within in
    let low = leads_before n marks a.chains inv.chains b c.behind-place.result below at f plain behind.last in
    record {
      few = inv.few;
      many = rw c.set.ensures (simp length-set inv.many);
      apart = rw c.set.ensures (apart_put marks f c.args.mark inv.apart within (λ h also. rw forgot (only_plain old f c.args.hash h
          c.args.mark c.requires.within c.requires.alone c.requires.hash also)));
      places = rw c.insert.ensures (simp length-set inv.places);
      chains = rw (c.set.ensures, c.insert.ensures) (inserted n b c.behind-place.result f marks a.chains c.args.mark inv.many there below
          inv.chains plain (c.args.hash, c.requires.hash, refl) at behind.behind behind.within low);
    }

pub returns : goal.returns
returns c = rw (c.set.ensures, c.self.view_is ∙ c.forget_frame.ensures) (set-set c.args.self.now c.args.frame Plain c.args.mark)
