-- Which exports a name finds.
use Rattle.std.specs.Prelude.{◌≡◌, ℕ, List, Some, slice_get}
use Rattle.std.specs.String.{string_bytes}
use Rattle.wh_model.specs.declared.ExternKind.TheVariants.{Func}
use Rattle.wh_syntax.specs.declared.module.Export.{Export}

-- it is a function, by this name
abbrev pub IsFuncOf : List ℕ → Export → Type 0
IsFuncOf name e = (e.kind ≡ Func) × (string_bytes e.name ≡ name)

-- one of the exports is a function by this name, with this index
abbrev pub Exports : List Export → List ℕ → ℕ → Type 0
Exports exports name index =
    (at : ℕ) × (e : Export) × (slice_get exports at ≡ Some e) × IsFuncOf name e × (index ≡ e.index)

-- none is
abbrev pub LacksFunc : List Export → List ℕ → Type 0
LacksFunc exports name = (at : ℕ) (e : Export) → slice_get exports at ≡ Some e → ¬ (IsFuncOf name e)
