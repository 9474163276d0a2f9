-- What a request to call a function by name asks for.
use Rattle.std.specs.Prelude.{◌≡◌, ℕ, List, Option, Some, slice_get, map, ℤ}
use Rattle.wh_model.specs.declared.ValType.{ValType}
use Rattle.wh_model.specs.Format.Syntax.{FuncType, Body}
use Rattle.wh_model.specs.Validity.Typing.{Context}
use Rattle.wh_model.specs.Execution.Store.{Value, own, Instance, bits_of}
use Rattle.wh_host_model.specs.Owners.{AreArguments, ExportsOwn}
use Rattle.wh_syntax.specs.View.{view_module}
use Rattle.wh_imports.specs.LinkedState.{LinkedState}
use Rattle.wh_machine.specs.MachineRuns.{IsInstanceOf}

-- ---- names

-- in each instance of the module this function is its own, and exported by the name
abbrev pub NamesOwn : LinkedState → List ℕ → ℕ → Type 0
NamesOwn l name x =
    (c : Context) (inst : Instance) → IsInstanceOf l c inst
    → (type : FuncType) × (body : Body) × ExportsOwn (view_module l.valid.decoded) inst name x type body

-- whichever of an instance's own functions is exported by the name, it was found
abbrev pub NamesOnly : LinkedState → List ℕ → Option ℕ → Type 0
NamesOnly l name found =
    (c : Context) (inst : Instance) (x : ℕ) (type : FuncType) (body : Body) → IsInstanceOf l c inst
    → ExportsOwn (view_module l.valid.decoded) inst name x type body → found ≡ Some x

-- none of an instance's own functions is exported by the name
abbrev pub NamesNone : LinkedState → List ℕ → Type 0
NamesNone l name =
    (c : Context) (inst : Instance) (x : ℕ) (type : FuncType) (body : Body) → IsInstanceOf l c inst
    → ¬ (ExportsOwn (view_module l.valid.decoded) inst name x type body)

-- ---- arguments

-- an instance of the linked module has a function of its own of this index, and these numbers are arguments of it
pub record CanTake (l : LinkedState) (func : ℕ) (given : List ℤ) : Type 0 where
  pub context : Context
  pub inst : Instance
  pub is : IsInstanceOf l context inst
  pub type : FuncType
  pub body : Body
  pub vs : List Value
  pub is_own : slice_get inst.funcs func ≡ Some (own type body)
  pub fits : AreArguments type.params given vs

-- whatever values the numbers are for these parameters, these are their words
abbrev pub AreWords : List ValType → List ℤ → List ℕ → Type 0
AreWords params given words = (vs : List Value) → AreArguments params given vs → map bits_of vs ≡ words

-- whatever values the numbers are as arguments of an instance's own function, these are their words
abbrev pub WordsAre : LinkedState → ℕ → List ℤ → List ℕ → Type 0
WordsAre l func given words =
    (c : Context) (inst : Instance) (type : FuncType) (body : Body) (vs : List Value) → IsInstanceOf l c inst
    → slice_get inst.funcs func ≡ Some (own type body) → AreArguments type.params given vs → map bits_of vs ≡ words
