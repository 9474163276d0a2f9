-- What the lines of a script have made so far: modules, instances, and the calls that were asked of them.
use Rattle.std.specs.Prelude.{◌≡◌, ℕ, ◌+◌, ◌<◌, ◌⊎◌, Bool, false, if◌then◌else◌, List, [], ◌∷◌, ◌++◌, map, slice_get, slice_set, Option, Some, None}
use Rattle.wh_model.specs.Format.Syntax.{Module}
use Rattle.wh_model.specs.Execution.Store.{Instance}
use Rattle.wh_model.specs.Execution.Instance.{Piece}
use Rattle.wh_model.specs.Execution.Replay.{Outcome, cancelled, dead, Call, fails}
use Rattle.wh_host_model.specs.Owners.{Params}
use Rattle.wh_script_model.specs.Texts.{CallStatus}
use Rattle.wh_host_model.specs.Owners.{first_open, is_open}

-- a module under its name
pub record NamedModule : Type 0 where
  pub name : List ℕ
  pub m : Module

-- An instance that was admitted: its name, its module, what it was given, what it began with (4.5.4), whether it is
-- released, the calls of its journal, its start being the first, how its start was last said to be, and for which fault
-- of a swap device its first open call stands, if a call of the device has failed for it.
pub record NamedInstance : Type 0 where
  pub name : List ℕ
  pub m : Module
  pub params : Params
  pub inst : Instance
  pub pieces : List Piece
  pub is_released : Bool
  pub calls : List Call
  pub last_printed : Option CallStatus
  pub at_fault : Option ℕ

-- what came of an `invoke`: it was refused with the fault H of this number; or it is the call at a place of the journal
-- of the instance of this number
pub data InvokeOutcome : Type 0 where
  call_rejected : (fault : ℕ) → InvokeOutcome
  call_accepted : (instance place : ℕ) → InvokeOutcome

-- and how it was last said to be
pub record Invoked : Type 0 where
  pub outcome : InvokeOutcome
  pub last_printed : Option CallStatus

-- Modules in the order in which they were kept, instances by their numbers, each `invoke` that has a number, the first
-- being number 1, and the faults of calls of a swap device that drains have met, the last one first.
pub record ScriptState : Type 0 where
  pub modules : List NamedModule
  pub instances : List NamedInstance
  pub invoked : List Invoked
  pub faults_met : List ℕ

abbrev pub empty_script : ScriptState
empty_script = record { modules = []; instances = []; invoked = []; faults_met = [] }

-- ---- by name

abbrev pub HasModule : ScriptState → List ℕ → Module → Type 0
HasModule w name m = (place : ℕ) × (slice_get w.modules place ≡ Some (record { name = name; m = m }))

abbrev pub NoModule : ScriptState → List ℕ → Type 0
NoModule w name = (m : Module) → ¬ (HasModule w name m)

-- the instance of this number has the name
abbrev pub HasInstance : ScriptState → List ℕ → ℕ → NamedInstance → Type 0
HasInstance w name i g = (slice_get w.instances i ≡ Some g) × (g.name ≡ name)

abbrev pub LacksInstance : ScriptState → List ℕ → Type 0
LacksInstance w name = (i : ℕ) (g : NamedInstance) → ¬ (HasInstance w name i g)

abbrev pub with_instance : ScriptState → ℕ → NamedInstance → ScriptState
with_instance w i g = record w { instances = slice_set w.instances i g }

abbrev pub with_invoked : ScriptState → InvokeOutcome → ScriptState
with_invoked w outcome = record w { invoked = w.invoked ++ record { outcome = outcome; last_printed = None } ∷ [] }

-- the sum over all that aren't released
abbrev pub live_sum : (Params → ℕ) → List NamedInstance → ℕ
live_sum amount [] = 0
live_sum amount (g ∷ gs) = if g.is_released then live_sum amount gs else amount g.params + live_sum amount gs

-- ---- open calls

-- with the first open one changed so
abbrev pub with_first_open : (Call → Call) → List Call → List Call
with_first_open change [] = []
with_first_open change (call ∷ calls) =
    if is_open call.outcome then change call ∷ calls else call ∷ with_first_open change calls

abbrev pub open_number : List Call → ℕ
open_number [] = 0
open_number (call ∷ calls) = if is_open call.outcome then 1 + open_number calls else open_number calls

-- how many are open, the start not counted
abbrev pub open_behind : List Call → ℕ
open_behind [] = 0
open_behind (first ∷ calls) = open_number calls

-- the start has trapped or was cancelled
abbrev pub start_failed : List Call → Bool
start_failed [] = false
start_failed (first ∷ calls) = fails first.outcome

abbrev pub ended_so : Outcome → Call → Call
ended_so outcome call = record call { outcome = outcome }

-- The first open call is cancelled. If it is the start, all others end as dead.
abbrev pub cancel_first : List Call → List Call
cancel_first [] = []
cancel_first (first ∷ calls) =
    if is_open first.outcome then ended_so cancelled first ∷ map (ended_so dead) calls
    else first ∷ with_first_open (ended_so cancelled) calls

-- an instance that isn't released has an open call
abbrev pub SomeCallIsOpen : ScriptState → Type 0
SomeCallIsOpen m =
    (i : ℕ) × (g : NamedInstance) × (c : Call) × (slice_get m.instances i ≡ Some g) × (g.is_released ≡ false)
    × (first_open g.calls ≡ Some c)

-- fuel is left, or no charge was taken
abbrev pub MayUseFuel : Call → Type 0
MayUseFuel c = (c.charges < c.fuel) ⊎ (c.charges ≡ 0)

-- and the call may go on: it isn't blocked on a fault of a device, and has fuel left or took no charge
abbrev pub SomeCallMayGo : ScriptState → Type 0
SomeCallMayGo m =
    (i : ℕ) × (g : NamedInstance) × (c : Call) × (slice_get m.instances i ≡ Some g) × (g.is_released ≡ false)
    × (first_open g.calls ≡ Some c) × (g.at_fault ≡ None) × MayUseFuel c
