-- What is kept of an instance, and the outcome of a run over it.
use Rattle.std.specs.Prelude.{◌≡◌, ℕ, List, [], Option, reverse}
use Rattle.wh_model.specs.declared.ValType.{ValType}
use Rattle.wh_model.specs.Format.Syntax.{nothing, FuncType, Body}
use Rattle.wh_model.specs.Validity.Typing.{Context}
use Rattle.wh_model.specs.Execution.Store.{Value, Instance, Store}
use Rattle.wh_model.specs.Execution.Configuration.{called, Config, config}
use Rattle.wh_model.specs.Execution.Reduction.{IsSettled, After}
use Rattle.wh_imports.specs.LinkedState.{LinkedState}
use Rattle.wh_control.specs.Represents.{result_of}
use Rattle.wh_control.specs.declared.store.Store as stored
use Rattle.wh_machine.specs.declared.machine.Machine.{Machine}
use Rattle.wh_machine.specs.Opening.{IsOwnCall}
use Rattle.wh_machine.specs.MachineRuns.{linked_parts, RepresentsInstance}
use Rattle.wh_machine.specs.CallStates.{CallState, Setting, HasConfiguration, RepresentsConfig, setting_of, call_state}
use Rattle.wh_call.specs.declared.calling.RunEnd.{RunEnd}
use Rattle.wh_call.specs.declared.calling.RunEnd.TheVariants as run
use Rattle.wh_call.specs.Ends.{EndsWithin, HasStoreIn}
use Rattle.wh_flatmem.specs.FlatMemoryState.{FlatMemoryState}
use Rattle.wh_alone.specs.declared.outcome.Outcome.{Outcome}
use Rattle.wh_alone.specs.declared.outcome.Outcome.TheVariants.{Returned, Trapped, OutOfFuel}

-- a linked module, the store and the memory of an instance of it, and its machine
pub record Kept : Type 0 where
  pub linked : LinkedState
  pub store : stored.Store
  pub memory : FlatMemoryState
  pub machine : Machine

-- of these four
abbrev pub kept_of : LinkedState → stored.Store → FlatMemoryState → Machine → Kept
kept_of linked store memory machine =
    record { linked = linked; store = store; memory = memory; machine = machine }

-- the setting and the state in which a call runs: all bytes of a flat memory are always ready
abbrev pub flat_setting : LinkedState → ℕ → Setting FlatMemoryState
flat_setting linked limit =
    setting_of linked (λ m. m.bytes) (λ m need. Unit {0}) (λ m m2. m2.limit ≡ m.limit) limit

abbrev pub setting_in : Kept → Setting FlatMemoryState
setting_in k = flat_setting k.linked k.memory.limit

abbrev pub state_in : Kept → CallState FlatMemoryState
state_in k = call_state k.machine k.store k.memory

-- store and memory are those of the instance with this store
abbrev pub HasStore : Kept → Instance → Store → Type 0
HasStore k = HasStoreIn (setting_in k) (state_in k)

-- and the machine represents this configuration of it, of a call with this result
abbrev pub RepresentsAt : Kept → Option ValType → Instance → Config → Type 0
RepresentsAt k = RepresentsConfig (setting_in k) (state_in k)

-- it represents some configuration
abbrev pub RepresentsSomewhere : Kept → Type 0
RepresentsSomewhere k = HasConfiguration (setting_in k) (state_in k)

-- the end of a run that is answered so: over a flat memory none waits for bytes
abbrev pub run_end : Outcome → RunEnd
run_end (Returned result) = run.Returned result
run_end (Trapped x) = run.Trapped x
run_end OutOfFuel = run.OutOfFuel

-- the run doesn't wait for bytes
abbrev pub IsAnswered : RunEnd → Type 0
IsAnswered (run.NotReady need) = ⊥
IsAnswered end = Unit {0}

-- what a configuration of a call with this result comes to within this fuel, by the charges that lead there
abbrev pub EndsBy : Kept → Option ValType → Instance → Config → ℕ → Outcome → ℕ → Store → Type 0
EndsBy k2 out inst c fuel outcome n s =
    EndsWithin (setting_in k2) (state_in k2) out inst (After inst c) fuel (run_end outcome) n s

-- whatever configuration the machine represents comes to that, and what it leaves is of the same instance
abbrev pub ContinuesTo : Kept → ℕ → Outcome → ℕ → Kept → Type 0
ContinuesTo k fuel outcome n k2 =
    (out : Option ValType) (inst : Instance) (c : Config) → RepresentsAt k out inst c → IsSettled inst c
    → (s : Store) × EndsBy k2 out inst c fuel outcome n s × HasStore k2 inst s

-- whatever instance they are of, its invocation (4.5.5) comes to that, and what it leaves is of the same instance
abbrev pub InvocationEnds : Kept → ℕ → List ℕ → ℕ → Outcome → ℕ → Kept → Type 0
InvocationEnds k func args fuel outcome n k2 =
    (c : Context) (inst : Instance) (s : Store) (type : FuncType) (body : Body) (vs : List Value)
    → RepresentsInstance (linked_parts k.linked) k.store k.memory.bytes k.memory.limit c inst s
    → IsOwnCall inst func args type body vs
    → (s2 : Store)
    × EndsBy k2 (result_of type) inst (config s [] (called type body (reverse vs) [] nothing)) fuel outcome n s2
    × HasStore k2 inst s2
