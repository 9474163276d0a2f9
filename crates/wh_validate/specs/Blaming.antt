-- What a fault names. In a function: one of the module's own, whose body isn't valid or doesn't fit (3.4.1), and an
-- instruction of it. Imported functions count first, and a number past those of 32 bits is named as the greatest. In no
-- function: what is wrong isn't in the bodies.
use Rattle.std.specs.Prelude.{◌≡◌, ℕ, ◌+◌, ◌-◌, ◌^◌, min, List, length, Option, Some, None, slice_get}
use Rattle.wh_model.specs.Format.Syntax.{FuncType, Body, Module}
use Rattle.wh_model.specs.Validity.Typing.{Context}
use Rattle.wh_model.specs.Validity.Valid.{ValidBody, IsContext, imported_funcs, Valid}
use Rattle.wh_model.specs.Validity.Heights.{FitsBody, Fits}
use Rattle.wh_model.specs.declared.faults.ValidKind.{ValidKind}
use Rattle.wh_bodies.specs.BodyFaults.{IsOfBody, HasInstr}

-- ---- in a function

-- the body of the function that is there among the module's own, which has this instruction
pub record IsBadBody (c : Context) (funcs : List ℕ) (bodies : List Body) (at instr : ℕ) : Type 0 where
  pub index : ℕ
  pub type : FuncType
  pub body : Body
  pub named : slice_get funcs at ≡ Some index
  pub typed : slice_get c.types index ≡ Some type
  pub there : slice_get bodies at ≡ Some body
  pub refused : ¬ (ValidBody c type body × FitsBody c type body)
  pub has_instr : HasInstr body instr

-- after `imported` imported functions, with a fault that bodies have
abbrev pub Blames : Context → ℕ → List ℕ → List Body → Option ℕ → ℕ → ValidKind → Type 0
Blames c imported funcs bodies None instr kind = ⊥
Blames c imported funcs bodies (Some func) instr kind =
    IsOfBody kind × (at : ℕ) × (func ≡ min (imported + at) (2 ^ 32 - 1)) × IsBadBody c funcs bodies at instr

-- ---- in no function

-- the module with these bodies in place of its own
abbrev pub with_bodies : Module → List Body → Module
with_bodies m bodies = record m { bodies = bodies }

-- with some bodies in place of its own, as many, the module is valid and fits
abbrev pub HasRightBodies : Module → Type 0
HasRightBodies m =
    (bodies : List Body) × (length bodies ≡ length m.bodies) × Valid (with_bodies m bodies)
    × Fits (with_bodies m bodies)

-- ---- in a module

-- in the context of the module, where a function is named; where none is, no bodies would make the module right
abbrev pub BlamesRightly : Module → Option ℕ → ℕ → ValidKind → Type 0
BlamesRightly m None instr kind = ¬ (HasRightBodies m)
BlamesRightly m (Some func) instr kind =
    (c : Context) × IsContext m c × Blames c (length (imported_funcs m.imports)) m.funcs m.bodies (Some func) instr kind
