use Rattle.std.proofs.Common.{◌∙◌, ◌+◌, ◌*◌, ◌<◌, ◌≤◌, inl, inr, length, sym, subst, arith}
use Rattle.wh_overlay.specs.Over.{OverlayState, sees}
use Rattle.wh_overlay.proofs.Seen.{come, noted_over, noted_same, read_grown_page, read_lower_page, read_written_page}
use Rattle.wh_overlay.proofs.overlay.Overlay.read.Goals as goal

pub returns-in-Some-clause-read : goal.returns-in-Some-clause-read
returns-in-Some-clause-read c =
    let o = c.self.inside in
    rw (← c.self.view_is) (λ yes. c.copy_from.ensures
    ∙ sym (read_written_page o.lower.now o.place o.upper c.args.number c.in-Some.at c.args.offset (length c.args.into.now) c.bytes.result.now c.invariant-2.ensures.sound c.self.invariant.at_hand c.invariant.ensures.whole c.invariant.ensures.once
    c.in-Some.ensures.some c.bytes.ensures c.requires.inside))

pub returns-then-number-pages_at-clause-read : goal.returns-then-number-pages_at-clause-read
returns-then-number-pages_at-clause-read c =
    let o = c.self.inside in
    let more = c.pages_at.ensures in
    let past = c.if-number-pages_at.true in
    let within = subst (λ (z : OverlayState). 4096 * c.args.number + c.args.offset + length c.args.into.now ≤ length (sees z)) (sym c.self.view_is) c.requires.within in
    rw (← c.self.view_is) (λ yes. c.clear.ensures
    ∙ sym (read_grown_page o.lower.now o.place o.upper c.args.number c.args.offset (length c.args.into.now) c.invariant-2.ensures.sound c.self.invariant.at_hand c.invariant.ensures.whole c.in_default.ensures.none (omega (arith, more, past))
    c.requires.inside within))

pub returns-clause-read : goal.returns-clause-read
returns-clause-read c =
    let o = c.self.inside in
    let more = c.pages_at.ensures in
    let less = c.if-number-pages_at.false in
    rw (← c.self.view_is) (λ yes. c.peek.ensures.read c.if-not-peek.false
    ∙ sym (read_lower_page o.lower.now o.place o.upper c.args.number c.args.offset (length c.args.into.now) c.invariant-2.ensures.sound c.self.invariant.at_hand c.invariant.ensures.whole c.in_default.ensures.none (omega (arith, more, less))
    c.requires.inside))

pub returns-then-number-pages_at-clause-hand : goal.returns-then-number-pages_at-clause-hand
returns-then-number-pages_at-clause-hand c =
    let o = c.self.inside in
    rw (← c.self.view_is) (inr (
      subst (λ n. n < o.upper.most) c.from.ensures c.if-not-has_mark_for.ensures,
      inr (come o.lower.now o.place o.upper c.args.number c.args.offset (length c.args.into.now) c.invariant-2.ensures.sound c.self.invariant.at_hand c.invariant.ensures.whole c.requires.some
          (let more = c.pages_at.ensures in let past = c.if-number-pages_at.true in omega (arith, more, past))
          (subst (λ (z : OverlayState). 4096 * c.args.number + c.args.offset + length c.args.into.now ≤ length (sees z)) (sym c.self.view_is) c.requires.within)),
    ))

pub invariant_of-self : goal.invariant_of-self
invariant_of-self c =
    let o = c.self.inside in
    let within = subst (λ (z : OverlayState). 4096 * c.args.number + c.args.offset + length c.args.into.now ≤ length (sees z)) (sym c.self.view_is) c.requires.within in
    noted_over o.lower.now o.place o.upper c.note_read.new.self c.args.number c.self.invariant
    (inr (come o.lower.now o.place o.upper c.args.number c.args.offset (length c.args.into.now) c.invariant-2.ensures.sound c.self.invariant.at_hand c.invariant.ensures.whole c.requires.some
    (let more = c.pages_at.ensures in let past = c.if-number-pages_at.true in omega (arith, more, past)) within))
    c.note_read.ensures

pub returns-then-number-pages_at-clause-lower : goal.returns-then-number-pages_at-clause-lower
returns-then-number-pages_at-clause-lower c =
    let o = c.self.inside in
    rw (← c.self.view_is) (noted_same o.lower.now o.place o.page_limit o.upper c.note_read.new.self c.args.number c.note_read.ensures (λ h. (invariant_of-self c, c.invariant-then-number-pages_at.ensures.whole)))

pub invariant_of-self-2 : goal.invariant_of-self-2
invariant_of-self-2 c =
    let o = c.self.inside in
    noted_over o.lower.now o.place o.upper c.note_read-2.new.self c.args.number c.self.invariant (inl c.if-not-peek.ensures.hand) c.note_read-2.ensures

pub returns-clause-lower : goal.returns-clause-lower
returns-clause-lower c =
    let o = c.self.inside in
    rw (← c.self.view_is) (noted_same o.lower.now o.place o.page_limit o.upper c.note_read-2.new.self c.args.number c.note_read-2.ensures (λ h. (invariant_of-self-2 c, c.invariant-3.ensures.whole)))
