use Rattle.std.proofs.Common.{◌<◌, ◌∙◌, sym, arith}
use Rattle.wh_space_model.specs.{frames_in_all, may_take}
use Rattle.wh_space_model.proofs.Serving.{can_leave}
use Rattle.wh_reclaim.proofs.Beginning.{begins_evict, wants_stands}
use Rattle.wh_reclaim.proofs.Sending.{evicting_now}
use Rattle.wh_reclaim.proofs.begin.evict_begin.Goals as goal

pub reserve-requires : goal.reserve-requires
reserve-requires c = wants_stands c.args.memory.now c.args.place c.in-Some.need (sym c.wanted_step.ensures ∙ c.in-Some.is)

pub returns-clause-begins : goal.returns-clause-begins
returns-clause-begins c =
    let need = c.in-Some.need in
    let s1 = c.reserve.new.memory in
    let stands = wants_stands c.args.memory.now c.args.place need (sym c.wanted_step.ensures ∙ c.in-Some.is) in
    let less : may_take s1 c.args.place < frames_in_all s1 c.args.place need = omega (arith, c.if-from-may_take.false, c.from.ensures, c.may_take.ensures, c.frames_in_all.ensures.count) in
    begins_evict c.args.memory.now c.args.place need s1 c.in-Some-page_to_take.taken.place c.in-Some-page_to_take.taken.page c.evict_begin-slot.result c.evict_begin-slot.new.into c.evict_begin-slot.new.self
    stands c.reserve.ensures.reserves less c.in-Some-page_to_take.ensures c.evict_begin-slot.ensures

pub returns-clause-out : goal.returns-clause-out
returns-clause-out c =
    evicting_now c.reserve.new.memory c.in-Some-page_to_take.taken.place c.in-Some-page_to_take.taken.page c.evict_begin-slot.result c.evict_begin-slot.new.into c.evict_begin-slot.new.self c.invariant.ensures.sound c.evict_begin-slot.ensures

pub evict_begin-slot-requires-clause-can : goal.evict_begin-slot-requires-clause-can
evict_begin-slot-requires-clause-can c = can_leave c.reserve.new.memory c.args.place c.in-Some.need c.in-Some-page_to_take.taken.place c.in-Some-page_to_take.taken.page c.in-Some-page_to_take.ensures
