-- The outcome of a run of a call, over any linear memory.
use Rattle.std.specs.Prelude.{◌≡◌, ℕ, ◌<◌, ◌≤◌, List, [], Option, slice_get, map, reverse, true}
use Rattle.std.specs.List.{AllByRecursion}
use Rattle.wh_model.specs.declared.ValType.{ValType}
use Rattle.wh_model.specs.Format.Syntax.{nothing, FuncType, Body}
use Rattle.wh_model.specs.Validity.Typing.{Context, operand}
use Rattle.wh_model.specs.Execution.Store.{Value, type_of, InRange, Instance, Store}
use Rattle.wh_model.specs.Execution.Configuration.{code, called, Config, config, trapped, store_of}
use Rattle.wh_model.specs.Execution.Reduction.{After, IsNext}
use Rattle.wh_model.specs.Execution.Asking.{Asks}
use Rattle.wh_model.specs.Execution.Taking.{Takes}
use Rattle.wh_control.specs.Represents.{bits_of, result_of}
use Rattle.wh_machine.specs.Opening.{IsOwnCall}
use Rattle.wh_machine.specs.MachineRuns.{RepresentsInstance, IsSettledIn}
use Rattle.wh_machine.specs.CallStates.{CallState, Setting, RepresentsConfig}
use Rattle.wh_call.specs.declared.calling.RunEnd.{RunEnd}
use Rattle.wh_call.specs.declared.calling.RunEnd.TheVariants.{Returned, Trapped, OutOfFuel, NotReady}

-- store and memory of the state are those of the instance with this store
abbrev pub HasStoreIn : {M : Type 0} → Setting M → CallState M → Instance → Store → Type 0
HasStoreIn w state inst s =
    (c : Context) × RepresentsInstance w.program state.store (w.bytes state.memory) w.limit c inst s

-- there is such a function and such arguments, of an instance with the store and the memory of the state
pub record CanCall {M : Type 0} (w : Setting M) (state : CallState M) (func : ℕ) (args : List ℕ) : Type 0 where
  pub context : Context
  pub inst : Instance
  pub s : Store
  pub around : RepresentsInstance w.program state.store (w.bytes state.memory) w.limit context inst s
  pub type : FuncType
  pub body : Body
  pub vs : List Value
  pub suits : IsOwnCall inst func args type body vs

-- n charges lead to a configuration with this store, of which this holds, and the state represents it
abbrev pub StopsAt : {M : Type 0} → Setting M → CallState M → Option ValType → Instance → (ℕ → Config → Type 0) → ℕ
    → Store → (Config → Type 0) → Type 0
StopsAt w after out inst leads n s Is =
    (c : Config) × leads n c × Is c × (s ≡ store_of c) × RepresentsConfig w after out inst c
    × (after.machine.running ≡ true) × IsSettledIn w.program after.machine

-- the values are of the result's type, and in its range
abbrev pub AreResults : Option ValType → List Value → Type 0
AreResults out us = (map type_of us ≡ operand out) × AllByRecursion InRange us

-- The outcome of a call with this result within this fuel, where `leads` says to which configuration n charges lead. It is done,
-- with values of the result's type, of which the topmost is the answer; or it traps; or all fuel is taken, and a charged
-- reduction is next; or there is fuel left, and the next reduction reads or writes these bytes, which aren't ready.
abbrev pub EndsWithin : {M : Type 0} → Setting M → CallState M → Option ValType → Instance
    → (ℕ → Config → Type 0) → ℕ → RunEnd → ℕ → Store → Type 0
EndsWithin w after out inst leads fuel (Returned result) n s =
    (n ≤ fuel) × (us : List Value) × AreResults out us × (result ≡ slice_get (map bits_of us) 0)
    × leads n (config s [] (code us nothing))
EndsWithin w after out inst leads fuel (Trapped x) n s = (n ≤ fuel) × leads n (trapped s x)
EndsWithin w after out inst leads fuel OutOfFuel n s =
    (n ≡ fuel) × StopsAt w after out inst leads n s (IsNext inst)
EndsWithin w after out inst leads fuel (NotReady need) n s =
    (n < fuel) × (¬ (w.ready after.memory need))
    × StopsAt w after out inst leads n s (λ c. IsNext inst c × Asks inst c need)

-- n charges lead there from this configuration, the bytes of each being ready when it is taken
abbrev pub TakesTo : {M : Type 0} → Setting M → Instance → M → Config → M → ℕ → Config → Type 0
TakesTo w inst memory c memory2 n c2 = Takes w.bytes w.ready w.keeps inst memory c n memory2 c2

-- whatever configuration the state represents comes to that, and what it leaves is of the same instance
abbrev pub RunEndsWithin : {M : Type 0} → Setting M → CallState M → ℕ → RunEnd → ℕ → CallState M → Type 0
RunEndsWithin w before fuel end n after =
    (out : Option ValType) (inst : Instance) (c : Config) → RepresentsConfig w before out inst c
    → (s : Store) × EndsWithin w after out inst (TakesTo w inst before.memory c after.memory) fuel end n s
    × HasStoreIn w after inst s

-- whatever instance they are of, its invocation (4.5.5), with the uncharged reductions after it, comes to that, and
-- what it leaves is of the same instance
abbrev pub CallEndsWithin : {M : Type 0} → Setting M → CallState M → ℕ → List ℕ → ℕ → RunEnd → ℕ → CallState M → Type 0
CallEndsWithin w before func args fuel end n after =
    (context : Context) (inst : Instance) (s : Store) (type : FuncType) (body : Body) (vs : List Value)
    → RepresentsInstance w.program before.store (w.bytes before.memory) w.limit context inst s
    → IsOwnCall inst func args type body vs
    → (c : Config) × After inst (config s [] (called type body (reverse vs) [] nothing)) 0 c
    × (s2 : Store)
    × EndsWithin w after (result_of type) inst (TakesTo w inst before.memory c after.memory) fuel end n s2
    × HasStoreIn w after inst s2
