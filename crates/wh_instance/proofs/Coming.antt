-- What a run comes to, as what a turn does.
use Rattle.std.proofs.Common.{◌≡◌, ◌≢◌, ℕ, min, Option, subst, arith}
use Rattle.wh_model.specs.declared.Trap.{Trap}
use Rattle.wh_model.specs.declared.memory.Need.{Need}
use Rattle.wh_model.proofs.Asked.{one_need}
use Rattle.wh_machine.specs.CallStates.{CallState, Setting, HasConfiguration, AsksFor, AsksNothing}
use Rattle.wh_call.specs.declared.calling.RunEnd.{RunEnd}
use Rattle.wh_call.specs.declared.calling.RunEnd.TheVariants as run
use Rattle.wh_call.specs.Ends.{RunEndsWithin}
use Rattle.wh_instance.specs.declared.computing.TurnOutcome.TheVariants.{Returned, Trapped, Fuel, Frame, Again}
use Rattle.wh_instance.specs.Computed.{AsksUnready, AsksReady, ComputesWithin}

-- ---- the next step

pub asked_alone : {M : Type 0} (w : Setting M) (state : CallState M) (need : Need) → AsksFor w state need → w.ready state.memory need → AsksReady w state
asked_alone w state need asks ready out inst cfg other st x = subst (w.ready state.memory) (one_need inst cfg need other (asks out inst cfg st) x) ready

pub asked_none : {M : Type 0} (w : Setting M) (state : CallState M) → AsksNothing w state → AsksReady w state
asked_none w state none out inst cfg need st x = absurd (none out inst cfg need st x)

-- ---- runs with the lesser of two fuels

pub came_returned : {M : Type 0} (w : Setting M) (before after : CallState M) (fuel q left n : ℕ) (end : RunEnd) (result : Option ℕ) → fuel ≡ min q left → RunEndsWithin w before fuel end n after → end ≡ run.Returned result → ComputesWithin w before q left (Returned result) n after
came_returned w before after fuel q left n end result least went is out inst c st =
    let (s, (low, us, fit, top, leads), store) = subst (λ e. RunEndsWithin w before fuel e n after) is went out inst c st in
    (s, (omega (arith, least, low), (omega (arith, least, low), us, fit, top, leads)), store)

pub came_trapped : {M : Type 0} (w : Setting M) (before after : CallState M) (fuel q left n : ℕ) (end : RunEnd) (trap : Trap) → fuel ≡ min q left → RunEndsWithin w before fuel end n after → end ≡ run.Trapped trap → ComputesWithin w before q left (Trapped trap) n after
came_trapped w before after fuel q left n end trap least went is out inst c st =
    let (s, (low, leads), store) = subst (λ e. RunEndsWithin w before fuel e n after) is went out inst c st in
    (s, (omega (arith, least, low), (omega (arith, least, low), leads)), store)

pub came_to_wait : {M : Type 0} (w : Setting M) (before after : CallState M) (fuel q left n : ℕ) (end : RunEnd) (need : Need) → fuel ≡ min q left → RunEndsWithin w before fuel end n after → end ≡ run.NotReady need → ComputesWithin w before q left (Frame need) n after
came_to_wait w before after fuel q left n end need least went is out inst c st =
    let (s, (low, never, stops), store) = subst (λ e. RunEndsWithin w before fuel e n after) is went out inst c st in
    (s, (omega (arith, least, low), (omega (arith, least, low), never, stops)), store)

-- ---- runs that took all

pub taken : {M : Type 0} (w : Setting M) (before after : CallState M) (fuel n : ℕ) (end : RunEnd) → RunEndsWithin w before fuel end n after → end ≡ run.OutOfFuel → RunEndsWithin w before fuel run.OutOfFuel n after
taken w before after fuel n end went is = subst (λ e. RunEndsWithin w before fuel e n after) is went

pub still_standing : {M : Type 0} (w : Setting M) (before after : CallState M) (fuel n : ℕ) → RunEndsWithin w before fuel run.OutOfFuel n after → HasConfiguration w before → HasConfiguration w after
still_standing w before after fuel n went has =
    let (s, (all, (c, leads, next, is, stands, runs, settled)), store) = went has.out has.inst has.cfg has.stands in
    record { out = has.out; inst = has.inst; cfg = c; stands = stands; settled = settled }

pub came_to_fuel : {M : Type 0} (w : Setting M) (before after : CallState M) (fuel q left n : ℕ) → fuel ≡ min q left → RunEndsWithin w before fuel run.OutOfFuel n after → n ≡ left → ComputesWithin w before q left Fuel n after
came_to_fuel w before after fuel q left n least went used out inst c st =
    let (s, (all, stops), store) = went out inst c st in (s, (omega (arith, least, all), (used, stops)), store)

pub came_to_frame : {M : Type 0} (w : Setting M) (before after : CallState M) (fuel q left n : ℕ) (need : Need) → fuel ≡ min q left → RunEndsWithin w before fuel run.OutOfFuel n after → n ≢ left → AsksUnready w after need → ComputesWithin w before q left (Frame need) n after
came_to_frame w before after fuel q left n need least went more asks out inst c st =
    let (s, (all, (c2, leads, next, is, stands, runs, settled)), store) = went out inst c st in
    (s, (omega (arith, least, all), (omega (arith, least, all, more), asks.1, (c2, leads, (next, asks.0 out inst c2 stands), is, stands, runs, settled))), store)

pub came_to_again : {M : Type 0} (w : Setting M) (before after : CallState M) (fuel q left n : ℕ) → fuel ≡ min q left → RunEndsWithin w before fuel run.OutOfFuel n after → n ≢ left → AsksReady w after → ComputesWithin w before q left Again n after
came_to_again w before after fuel q left n least went more ready out inst c st =
    let (s, (all, (c2, leads, next, is, stands, runs, settled)), store) = went out inst c st in
    (s, (omega (arith, least, all, more), omega (arith, least, all, more), (c2, leads, (next, λ need asks. ready out inst c2 need stands asks), is, stands, runs, settled)), store)
