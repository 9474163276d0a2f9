-- Which functions are the module's own, and what arguments of a function are.
use Rattle.std.specs.Prelude.{◌≡◌, ℕ, ◌^◌, ◌<◌, List, [], ◌∷◌, Some, slice_get}
use Rattle.wh_model.specs.declared.ValType.{ValType}
use Rattle.wh_model.specs.Format.Syntax.{FuncType, Body}
use Rattle.wh_model.specs.Execution.Numbers.{bits}
use Rattle.wh_model.specs.Validity.Typing.{Context}
use Rattle.wh_model.specs.Execution.Store.{Value, own, Instance}
use Rattle.wh_imports.specs.LinkedState.{LinkedState}
use Rattle.wh_machine.specs.MachineRuns.{IsInstanceOf}
use Rattle.wh_machine.specs.Opening.{IsOwnCall}

-- in each instance of the linked module the function of this index is its own, of this type
abbrev pub IsOwnType : LinkedState → ℕ → FuncType → Type 0
IsOwnType l func type =
    (c : Context) (inst : Instance) → IsInstanceOf l c inst
    → (body : Body) × (slice_get inst.funcs func ≡ Some (own type body))

-- the function of this index is none of the instance's own
abbrev pub HasNoOwn : Instance → ℕ → Type 0
HasNoOwn inst func = (type : FuncType) (body : Body) → ¬ (slice_get inst.funcs func ≡ Some (own type body))

-- nor is it in any instance of the linked module
abbrev pub LacksOwn : LinkedState → ℕ → Type 0
LacksOwn l func = (c : Context) (inst : Instance) → IsInstanceOf l c inst → HasNoOwn inst func

-- one number for each parameter, of the bits of its type
abbrev pub Arguments : List ValType → List ℕ → Type 0
Arguments [] [] = Unit {0}
Arguments (t ∷ ts) (n ∷ ns) = (n < 2 ^ bits t) × Arguments ts ns
Arguments ts ns = ⊥

-- the function of this index is one of the instance's own, and these words are arguments of it
abbrev pub HasCall : Instance → ℕ → List ℕ → Type 0
HasCall inst func args = (type : FuncType) × (body : Body) × (vs : List Value) × IsOwnCall inst func args type body vs
