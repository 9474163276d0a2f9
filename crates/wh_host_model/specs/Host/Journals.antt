-- What the calls of an instance are, in the order of its journal.
use Rattle.std.specs.Prelude.{◌≡◌, ℕ, ◌≤◌, Bool, true, false, List, [], ◌∷◌, slice_get, Some, None}
use Rattle.std.specs.List.{AllByRecursion}
use Rattle.wh_model.specs.Format.Syntax.{FuncType, Body, Module}
use Rattle.wh_model.specs.Execution.Store.{own, Instance}
use Rattle.wh_model.specs.Execution.Replay.{Outcome, returned, stopped, cancelled, dead, pending, Call, fails}
use Rattle.wh_host_model.specs.Owners.{Entry}
use Rattle.wh_host_model.specs.Host.Turns.{HaveTypes}
use Rattle.wh_host_model.specs.Owners.{most_fuel, AreArguments}

-- it calls a function of the module's own, with arguments as its owner gave them, and fuel that can be counted
pub record IsAsked (inst : Instance) (e : Entry) : Type 0 where
  pub index : ℕ
  pub type : FuncType
  pub body : Body
  pub func : e.call.func ≡ Some index
  pub is_own : slice_get inst.funcs index ≡ Some (own type body)
  pub arguments : AreArguments type.params e.given e.call.args
  pub fuel : e.call.fuel ≤ most_fuel

-- it calls the module's start, if it has one, without arguments
pub record IsStart (m : Module) (e : Entry) : Type 0 where
  pub func : e.call.func ≡ m.start
  pub args : e.call.args ≡ []
  pub given : e.given ≡ []
  pub fuel : e.call.fuel ≤ most_fuel

-- what it returned, if it did, has the types that its function declares; a start without a function returns nothing
abbrev pub ReturnsTyped : Instance → Call → Outcome → Type 0
ReturnsTyped inst call (returned results) =
    (call.func ≡ None → results ≡ []) × (¬ (call.func ≡ None) → HaveTypes inst call results)
ReturnsTyped inst call other = Unit {0}

-- it has ended by itself, or was cancelled
abbrev pub HasEnded : Outcome → Type 0
HasEnded (returned results) = Unit {0}
HasEnded (stopped trap) = Unit {0}
HasEnded cancelled = Unit {0}
HasEnded dead = ⊥
HasEnded pending = ⊥

-- a call that has ended, one that is open, and one after a start that has failed
pub record IsEnded (inst : Instance) (e : Entry) : Type 0 where
  pub asked : IsAsked inst e
  pub ended : HasEnded e.call.outcome
  pub typed : ReturnsTyped inst e.call e.call.outcome

pub record IsOpenCall (inst : Instance) (e : Entry) : Type 0 where
  pub asked : IsAsked inst e
  pub open_yet : e.call.outcome ≡ pending

pub record IsDeadCall (inst : Instance) (e : Entry) : Type 0 where
  pub asked : IsAsked inst e
  pub is_dead : e.call.outcome ≡ dead

-- The calls of an instance, whether it is dead, those that have ended, and those that are open. The first is its
-- start: it is open, and so are all others; or it has ended well, and then calls may have ended, and others be open;
-- or it has trapped or was cancelled, and then the instance is dead, and so are all others.
pub data InOrder (m : Module) (inst : Instance) : Bool → List Entry → List Entry → Type 0 where
  is_starting : {e : Entry} {es : List Entry}
      → IsStart m e → e.call.outcome ≡ pending → AllByRecursion (IsOpenCall inst) es → InOrder m inst false [] (e ∷ es)
  has_started : {e : Entry} {es os : List Entry}
      → IsStart m e → HasEnded e.call.outcome → fails e.call.outcome ≡ false → ReturnsTyped inst e.call e.call.outcome
      → AllByRecursion (IsEnded inst) es → AllByRecursion (IsOpenCall inst) os → InOrder m inst false (e ∷ es) os
  has_died : {e : Entry} {es : List Entry}
      → IsStart m e → HasEnded e.call.outcome → fails e.call.outcome ≡ true → AllByRecursion (IsDeadCall inst) es
      → InOrder m inst true (e ∷ es) []
