use Rattle.std.proofs.Common.{ℕ, ◌+◌, inl, inr, slice_get, refl, subst, arith}
use Rattle.std.proofs.lemmas.Bool.{cases_eq}
use Rattle.wh_space_model.specs.{HasHash}
use Rattle.wh_content.proofs.Buckets.{in_range, led_on, none_from}
use Rattle.wh_content.proofs.table.Table.look.Goals as goal

pub mark-requires : goal.mark-requires
mark-requires c =
    let a = c.self.inside in
    let marks = a.marks in
    let inv = c.self.invariant in
    let is = led_on a.frames marks a.chains inv.chains _ c.loop-frame.place (omega arith) c.loop-frame.invariant.place
    c.in-Some.frame c.in-Some.ensures.link in
    rw (← c.self.view_is) (omega (arith, in_range a.frames marks inv.many _ c.in-Some.frame is, inv.many))

pub loop-frame-preserved : goal.loop-frame-preserved
loop-frame-preserved c =
    let a = c.self.inside in
    let marks = a.marks in
    let chains = c.self.invariant.chains in
    let frame = c.in-Some.frame in
    let place = c.loop-frame.invariant.place in
    let leads = c.in-Some.ensures.link in
    let mark_is = rw (← c.self.view_is) at c.mark.ensures in
    let has : ℕ → Type 0 = λ f. HasHash (slice_get marks f) c.args.hash in
    record {
      place = inl (led_on a.frames marks a.chains chains _ c.loop-frame.place (omega arith) place frame leads);
      without = λ f low found. elim (cases_eq f frame) [
        | inl same ↦
            c.in_default-entry_under.ensures.none (subst (λ m. HasHash m c.args.hash) mark_is (subst has same found))
        | inr other ↦ none_from a.frames marks a.chains chains _ c.loop-frame.place (omega arith) place (frame + 1)
            c.args.hash refl leads c.loop-frame.invariant.without f (omega arith) found
      ];
    }

pub returns-clause-none : goal.returns-clause-none
returns-clause-none c =
    let a = c.self.inside in
    rw (← c.self.view_is) (λ f. none_from a.frames a.marks a.chains c.self.invariant.chains _ c.loop-frame.place
    (omega arith) c.loop-frame.invariant.place 0 c.args.hash refl c.in_default.ensures.link
    c.loop-frame.invariant.without f (omega arith))
