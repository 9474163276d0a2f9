-- Modules, instances and calls as they come: whether they are taken on, and why not. Each fault is the first that is
-- met. Where memory may run out it may do so where no other fault is met, or for who reads a module.
use Rattle.std.specs.Prelude.{◌≡◌, ℕ, ◌+◌, ◌-◌, ◌<◌, ◌≤◌, ◌⊎◌, Bool, true, false, List, [], ◌∷◌, ◌++◌, length, Option, None, ℤ}
use Rattle.wh_model.specs.declared.faults.FaultKind.{FaultKind}
use Rattle.wh_model.specs.declared.faults.ValidKind.{ValidKind}
use Rattle.wh_model.specs.declared.faults.ImportFault.{ImportFault}
use Rattle.wh_model.specs.Format.Numbering.{fault_number, valid_number, import_number}
use Rattle.wh_model.specs.Format.Syntax.{FuncType, Body, Module}
use Rattle.wh_model.specs.Format.Spelling.{IsBroken}
use Rattle.wh_model.specs.Validity.Valid.{Valid}
use Rattle.wh_model.specs.Validity.Heights.{Fits}
use Rattle.wh_model.specs.Linking.Imports.{IsFirstFault}
use Rattle.wh_model.specs.Linking.Accepting.{IsModule, IsAccepted}
use Rattle.wh_model.specs.Execution.Store.{Value, Instance, Store}
use Rattle.wh_model.specs.Execution.Instance.{Piece, IsInitial, memory_min, segment_bounds, begins}
use Rattle.wh_model.specs.Execution.Replay.{Outcome, returned, pending}
use Rattle.wh_script_model.specs.Lines.{Place}
use Rattle.wh_host_model.specs.Owners.{IsValidFault, AreArguments, ExportsOwn, InvokeFault, no_export, arguments, queue_full, instance_dead, journal_full, rank, most_open, most_calls, start_entry, new_entry}
use Rattle.wh_host_model.specs.Owners.{Params, given_of, AdmitFault, no_module, shares, min_max, frames, swap, instances, memory, segments, admit_rank, most_modules, most_instances}
use Rattle.wh_script_model.specs.Settings.{Settings}
use Rattle.wh_script_model.specs.Texts.{Refusal, broken, invalid, unlinked, no_link_memory, modules_full, no_room, Reply, module_ok, module_refused, admit_ok, admit_refused}
use Rattle.wh_script_model.specs.ScriptState.{NamedInstance, ScriptState, call_rejected, call_accepted, with_instance, with_invoked, live_sum, open_behind, start_failed}

-- ---- modules

-- why bytes aren't kept; which fault of the validator is named, and where, is left open
pub data RejectsModule (w : ScriptState) (bytes : List ℕ) : Refusal → Type 0 where
  is_broken : (kind : FaultKind) {offset : ℕ}
      → IsBroken bytes kind offset → RejectsModule w bytes (broken (fault_number kind) offset)
  is_invalid : {m : Module} (kind : ValidKind) {place : Place}
      → IsModule bytes m → ¬ (Valid m × Fits m) → IsValidFault kind
      → RejectsModule w bytes (invalid (valid_number kind) place)
  is_unlinked : {m : Module} (fault : ImportFault) {place : ℕ}
      → IsModule bytes m → Valid m → Fits m → IsFirstFault m fault place
      → RejectsModule w bytes (unlinked (import_number fault) place)
  is_full : {m : Module} → IsAccepted bytes m → most_modules ≤ length w.modules → RejectsModule w bytes modules_full

-- and where memory may run out
pub data OutOfMemoryForModule (w : ScriptState) (bytes : List ℕ) : Refusal → Type 0 where
  decoder_out_of_memory : {offset : ℕ} → OutOfMemoryForModule w bytes (broken 13 offset)
  validator_out_of_memory : {m : Module} {place : Place} → IsModule bytes m → OutOfMemoryForModule w bytes (invalid 11 place)
  linker_out_of_memory : {m : Module} → IsModule bytes m → Valid m → Fits m → OutOfMemoryForModule w bytes no_link_memory
  host_out_of_memory : {m : Module} → IsAccepted bytes m → length w.modules < most_modules → OutOfMemoryForModule w bytes no_room

-- the reply to a module whose name is free
pub data ReceivesModule (may_run_out : Bool) (w : ScriptState) (name bytes : List ℕ) : Reply → ScriptState → Type 0 where
  module_is_kept : {m : Module} → IsAccepted bytes m → length w.modules < most_modules
      → ReceivesModule may_run_out w name bytes (module_ok name)
      (record w { modules = w.modules ++ record { name = name; m = m } ∷ [] })
  module_isnt_kept : {why : Refusal} → RejectsModule w bytes why
      → ReceivesModule may_run_out w name bytes (module_refused name why) w
  module_out_of_memory : {why : Refusal} → may_run_out ≡ true → OutOfMemoryForModule w bytes why
      → ReceivesModule may_run_out w name bytes (module_refused name why) w

-- ---- instances

-- the fault is met, whatever of the other ones is
abbrev pub MeetsLimit : Settings → ScriptState → Module → Params → AdmitFault → Type 0
MeetsLimit settings w m p no_module = ⊥
MeetsLimit settings w m p shares = (p.shares < 1) ⊎ (1000000 < p.shares)
MeetsLimit settings w m p min_max = (p.min < 2) ⊎ (p.max < p.min) ⊎ (65536 < p.max)
MeetsLimit settings w m p frames = settings.frames < live_sum (λ q. q.min) w.instances + p.min
MeetsLimit settings w m p swap =
    settings.slots < live_sum (λ q. (q.max - q.min) + 1) w.instances + ((p.max - p.min) + 1)
MeetsLimit settings w m p instances = most_instances ≤ live_sum (λ q. 1) w.instances
MeetsLimit settings w m p memory = IsInitial m (given_of p) memory_min
MeetsLimit settings w m p segments = IsInitial m (given_of p) segment_bounds

abbrev pub MeetsNoLimit : Settings → ScriptState → Module → Params → Type 0
MeetsNoLimit settings w m p = (fault : AdmitFault) → ¬ (MeetsLimit settings w m p fault)

abbrev pub IsFirstLimit : Settings → ScriptState → Module → Params → AdmitFault → Type 0
IsFirstLimit settings w m p fault =
    MeetsLimit settings w m p fault
    × ((other : AdmitFault) → admit_rank other < admit_rank fault → ¬ (MeetsLimit settings w m p other))

-- a start with nothing to do has ended at once
abbrev pub first_outcome : List Piece → Option ℕ → Outcome
first_outcome [] None = returned []
first_outcome pieces func = pending

abbrev pub new_instance : (name : List ℕ) → Module → Params → Instance → List Piece → NamedInstance
new_instance name m p inst pieces = record {
  name = name;
  m = m;
  params = p;
  inst = inst;
  pieces = pieces;
  is_released = false;
  calls = (start_entry m.start p.fuel (first_outcome pieces m.start)).call ∷ [];
  last_printed = None;
  at_fault = None;
}

-- the reply to an instance of this module, whose name is free; instances are numbered in order
pub data ReceivesInstance (may_run_out : Bool) (settings : Settings) (w : ScriptState) (name : List ℕ) (m : Module) (p : Params)
    : Reply → ScriptState → Type 0 where
  is_admitted : {inst : Instance} {s : Store} {pieces : List Piece}
      → MeetsNoLimit settings w m p → IsInitial m (given_of p) (begins inst s pieces)
      → ReceivesInstance may_run_out settings w name m p (admit_ok name (length w.instances))
      (record w { instances = w.instances ++ new_instance name m p inst pieces ∷ [] })
  isnt_admitted : (fault : AdmitFault) → IsFirstLimit settings w m p fault
      → ReceivesInstance may_run_out settings w name m p (admit_refused name (admit_rank fault)) w
  admission_out_of_memory : may_run_out ≡ true → MeetsNoLimit settings w m p
      → ReceivesInstance may_run_out settings w name m p (admit_refused name 9) w

-- ---- calls

-- the fault is met, whatever of the other ones is
abbrev pub MeetsBar : NamedInstance → List ℕ → List ℤ → InvokeFault → Type 0
MeetsBar g name given no_export = (x : ℕ) (type : FuncType) (body : Body) → ¬ (ExportsOwn g.m g.inst name x type body)
MeetsBar g name given arguments =
    (x : ℕ) (type : FuncType) (body : Body) (vs : List Value) → ExportsOwn g.m g.inst name x type body
    → ¬ (AreArguments type.params given vs)
MeetsBar g name given queue_full = most_open ≤ open_behind g.calls
MeetsBar g name given instance_dead = start_failed g.calls ≡ true
MeetsBar g name given journal_full = most_calls ≤ length g.calls

abbrev pub MeetsNoBar : NamedInstance → List ℕ → List ℤ → Type 0
MeetsNoBar g name given = (fault : InvokeFault) → ¬ (MeetsBar g name given fault)

abbrev pub IsFirstBar : NamedInstance → List ℕ → List ℤ → InvokeFault → Type 0
IsFirstBar g name given fault =
    MeetsBar g name given fault × ((other : InvokeFault) → rank other < rank fault → ¬ (MeetsBar g name given other))

-- A call of an instance that there is: it is refused, H1 where that is released; or it stands at the end of the
-- journal.
pub data ReceivesCall (may_run_out : Bool) (w : ScriptState) (i : ℕ) (g : NamedInstance) (name : List ℕ) (fuel : ℕ) (given : List ℤ)
    : ScriptState → Type 0 where
  instance_is_gone : g.is_released ≡ true → ReceivesCall may_run_out w i g name fuel given (with_invoked w (call_rejected 1))
  isnt_invoked : (fault : InvokeFault) → g.is_released ≡ false → IsFirstBar g name given fault
      → ReceivesCall may_run_out w i g name fuel given (with_invoked w (call_rejected (rank fault)))
  is_invoked : {x : ℕ} {type : FuncType} {body : Body} (vs : List Value)
      → g.is_released ≡ false → MeetsNoBar g name given → ExportsOwn g.m g.inst name x type body
      → AreArguments type.params given vs
      → ReceivesCall may_run_out w i g name fuel given
      (with_invoked (with_instance w i (record g { calls = g.calls ++ (new_entry x vs given fuel).call ∷ [] }))
      (call_accepted i (length g.calls)))
  call_out_of_memory : may_run_out ≡ true → g.is_released ≡ false → MeetsNoBar g name given
      → ReceivesCall may_run_out w i g name fuel given (with_invoked w (call_rejected 7))
