-- Faults of modules that were decoded: their numbers, which are this project's own, where they lie, and how a check
-- answers.
use Rattle.std.specs.Prelude.{◌≡◌, ◌≢◌, ℕ, ◌<◌, length, Result, Ok, Err}
use Rattle.wh_model.specs.Format.Syntax.{expression, Body}
use Rattle.wh_model.specs.declared.faults.ValidKind.{ValidKind}
use Rattle.wh_model.specs.declared.faults.ValidKind.TheVariants.{BadType, Index, Align, Arity, Const, DuplicateExport, Start, Limits, Height, ConstImmutable, Memory}

-- the faults that a body's instructions can have
abbrev pub IsOfBody : ValidKind → Type 0
IsOfBody Const = ⊥
IsOfBody DuplicateExport = ⊥
IsOfBody Start = ⊥
IsOfBody BadType = Unit {0}
IsOfBody Index = Unit {0}
IsOfBody Align = Unit {0}
IsOfBody Arity = Unit {0}
IsOfBody Limits = Unit {0}
IsOfBody Height = Unit {0}
IsOfBody ConstImmutable = Unit {0}
IsOfBody Memory = Unit {0}

-- the body has this instruction, where opcodes count from 0, `else` and `end` included
abbrev pub HasInstr : Body → ℕ → Type 0
HasInstr b n = n < length (expression b.code)

-- one step, and another one from what it leaves
abbrev pub follow : {A B E : Type 0} → Result A E → (A → Result B E) → Result B E
follow (Ok x) next = next x
follow (Err e) next = Err e

-- A call left `new`, as was to be; or it failed as it had to, unless memory was refused.
abbrev pub Checks : {A B : Type 0} → Result B ValidKind → A → Result A ValidKind → Type 0
Checks (Ok y) new wanted = wanted ≡ Ok new
Checks (Err kind) new wanted = kind ≢ Memory → wanted ≡ Err kind

-- the same of a call that answers something
abbrev pub Yields : {A B : Type 0} → Result B ValidKind → A → Result (B × A) ValidKind → Type 0
Yields (Ok y) new wanted = wanted ≡ Ok (y, new)
Yields (Err kind) new wanted = kind ≢ Memory → wanted ≡ Err kind

-- and of one that leaves two things
abbrev pub YieldsTwo : {A B D : Type 0} → Result B ValidKind → A → D → Result (B × A × D) ValidKind → Type 0
YieldsTwo (Ok y) new more wanted = wanted ≡ Ok (y, new, more)
YieldsTwo (Err kind) new more wanted = kind ≢ Memory → wanted ≡ Err kind
