use Rattle.std.proofs.Common.{◌≡◌, ◌≢◌, ◌∙◌, ℕ, List, [], length, get_or, ap, refl, sym, subst}
use Rattle.wh_model.specs.Execution.{bytes_at}
use Rattle.wh_reclaim.proofs.SlotBytes.{holds_page, isnt_empty}
use Rattle.wh_reclaim.proofs.reading.read_there.Goals as goal

pub read-requires : goal.read-requires
read-requires g c =
    let has = holds_page c.args.memory.now c.args.place c.args.number c.in-Some.slot c.invariant.ensures.sound c.in-Some.ensures.slot in
    record { there = rw (← c.requires.agrees) has.there }

pub returns-in-Ok-clause-read : goal.returns-in-Ok-clause-read
returns-in-Ok-clause-read g c honest =
    let has = holds_page c.args.memory.now c.args.place c.args.number c.in-Some.slot c.invariant.ensures.sound c.in-Some.ensures.slot in
    let held = c.args.memory.now.slots.held in
    let full = subst (λ held. get_or held c.in-Some.slot [] ≢ []) c.requires.agrees (isnt_empty (get_or held c.in-Some.slot []) has.long) in
    let got = c.in-Ok.ensures.bytes honest full in
    let same : c.peek.new.into ≡ c.args.into.now = c.if-peek.ensures.left refl in
    c.copy_part.ensures
    ∙ ap (λ page. bytes_at page c.args.offset (length c.peek.new.into)) (c.deref.ensures ∙ got ∙ sym (ap (λ held. get_or held c.in-Some.slot []) c.requires.agrees))
    ∙ ap (λ (into : List ℕ). bytes_at (get_or held c.in-Some.slot []) c.args.offset (length into)) same
    ∙ sym (has.has c.args.offset (length c.args.into.now) c.requires.inside)
