-- The outcome of a turn of a call that is under way.
use Rattle.std.specs.Prelude.{◌≡◌, ℕ, ◌<◌, ◌≤◌, Option}
use Rattle.wh_model.specs.declared.ValType.{ValType}
use Rattle.wh_model.specs.declared.memory.Need.{Need}
use Rattle.wh_model.specs.Execution.Store.{Instance, Store}
use Rattle.wh_model.specs.Execution.Configuration.{Config}
use Rattle.wh_model.specs.Execution.Reduction.{IsNext}
use Rattle.wh_model.specs.Execution.Asking.{Asks}
use Rattle.wh_machine.specs.CallStates.{CallState, Setting, RepresentsConfig, AsksFor}
use Rattle.wh_call.specs.declared.calling.RunEnd.TheVariants as run
use Rattle.wh_call.specs.Ends.{HasStoreIn, StopsAt, EndsWithin, TakesTo}
use Rattle.wh_instance.specs.declared.computing.TurnOutcome.{TurnOutcome}
use Rattle.wh_instance.specs.declared.computing.TurnOutcome.TheVariants.{Returned, Trapped, Fuel, Frame, Again}

-- ---- the next step

-- whatever the state represents reads or writes these bytes next, and they aren't ready
abbrev pub AsksUnready : {M : Type 0} → Setting M → CallState M → Need → Type 0
AsksUnready w state need = AsksFor w state need × ¬ (w.ready state.memory need)

-- all that it reads or writes next is ready
abbrev pub AsksReady : {M : Type 0} → Setting M → CallState M → Type 0
AsksReady w state =
    (out : Option ValType) (inst : Instance) (cfg : Config) (need : Need) → RepresentsConfig w state out inst cfg
    → Asks inst cfg need → w.ready state.memory need

-- ---- a turn

-- a charged reduction is next, and all that it reads or writes is ready
abbrev pub IsNextReady : (Need → Type 0) → Instance → Config → Type 0
IsNextReady ready inst c = IsNext inst c × ((need : Need) → Asks inst c need → ready need)

-- The outcome of a call with this result in a turn of q charges, with this fuel left, where `leads` says to which configuration n
-- charges lead. Its run ends so within the fuel; or the turn's charges are taken, there is fuel left, and the next reduction is
-- ready.
abbrev pub ComesWithin : {M : Type 0} → Setting M → CallState M → Option ValType → Instance
    → (ℕ → Config → Type 0) → ℕ → ℕ → TurnOutcome → ℕ → Store → Type 0
ComesWithin w after out inst leads q left (Returned result) n s =
    (n ≤ q) × EndsWithin w after out inst leads left (run.Returned result) n s
ComesWithin w after out inst leads q left (Trapped x) n s =
    (n ≤ q) × EndsWithin w after out inst leads left (run.Trapped x) n s
ComesWithin w after out inst leads q left Fuel n s =
    (n ≤ q) × EndsWithin w after out inst leads left run.OutOfFuel n s
ComesWithin w after out inst leads q left (Frame need) n s =
    (n ≤ q) × EndsWithin w after out inst leads left (run.NotReady need) n s
ComesWithin w after out inst leads q left Again n s =
    (n ≡ q) × (n < left) × StopsAt w after out inst leads n s (IsNextReady (w.ready after.memory) inst)

-- whatever configuration the state represents comes to that, and what it leaves is of the same instance
abbrev pub ComputesWithin : {M : Type 0} → Setting M → CallState M → ℕ → ℕ → TurnOutcome → ℕ → CallState M → Type 0
ComputesWithin w before q left came n after =
    (out : Option ValType) (inst : Instance) (c : Config) → RepresentsConfig w before out inst c
    → (s : Store) × ComesWithin w after out inst (TakesTo w inst before.memory c after.memory) q left came n s
    × HasStoreIn w after inst s
