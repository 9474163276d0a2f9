use Rattle.std.proofs.Common.{◌∙◌, sym}
use Rattle.wh_reclaim.proofs.Beginning.{begins_fetch, frame_kept, wants_stands}
use Rattle.wh_reclaim.proofs.Sending.{fetching_now}
use Rattle.wh_reclaim.proofs.begin.fetch_begin.Goals as goal

pub reserve-requires : goal.reserve-requires
reserve-requires c = wants_stands c.args.memory.now c.args.place c.in-Some.need (sym c.wanted_step.ensures ∙ c.in-Some.is)

pub fetch_begin-requires-clause-frame : goal.fetch_begin-requires-clause-frame
fetch_begin-requires-clause-frame c =
    frame_kept c.args.memory.now c.args.place c.in-Some.need c.in-Some-swapped_page.page c.reserve.new.memory c.reserve.ensures.reserves c.in-Some-swapped_page.ensures.0
    (λ none. c.if-may_take-eq0.false (c.may_take.ensures ∙ none))

pub returns-clause-begins : goal.returns-clause-begins
returns-clause-begins c =
    let need = c.in-Some.need in
    let stands = wants_stands c.args.memory.now c.args.place need (sym c.wanted_step.ensures ∙ c.in-Some.is) in
    begins_fetch c.args.memory.now c.args.place need c.reserve.new.memory c.in-Some-swapped_page.page c.in-Some-swapped_page.slot c.fetch_begin.new.self
    stands c.reserve.ensures.reserves c.in-Some-swapped_page.ensures.0 c.fetch_begin.ensures

pub returns-clause-out : goal.returns-clause-out
returns-clause-out c =
    fetching_now c.reserve.new.memory c.args.place c.in-Some-swapped_page.page c.in-Some-swapped_page.slot c.fetch_begin.new.self c.invariant.ensures.sound c.in-Some-swapped_page.ensures.1 c.fetch_begin.ensures
