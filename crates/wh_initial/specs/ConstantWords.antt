-- The words of constant expressions (3.3.7), of globals and of segments: values without their types.
use Rattle.std.specs.Prelude.{◌≡◌, ℕ, ◌^◌, ◌<◌, ◌⊎◌, List, ◌++◌, length, map, slice_index, ℤ}
use Rattle.wh_model.specs.Execution.Numbers.{unsigned}
use Rattle.wh_model.specs.Format.Syntax.{Op, i32_const, i64_const, global_get, Code, nothing, plain}
use Rattle.wh_model.specs.Execution.Instance.{Parameters, Piece}
use Rattle.wh_model.specs.declared.host.HostGlobal.{HostGlobal}
use Rattle.wh_model.specs.Linking.Imports.{value_of}
use Rattle.wh_syntax.specs.declared.instr.Instr.{Instr}
use Rattle.wh_syntax.specs.declared.instr.Instr.TheVariants.{I32Const, I64Const, GlobalGet}
use Rattle.wh_syntax.specs.declared.module.Global.{Global}
use Rattle.wh_syntax.specs.declared.module.Element.{Element}
use Rattle.wh_syntax.specs.declared.module.Data.{Data}
use Rattle.wh_control.specs.Represents.{bits_of}

-- ---- constant expressions

-- the word of a constant, or of one of the globals, which have these words
abbrev pub op_word : List ℕ → Op → ℕ
op_word words (i32_const n) = unsigned 32 n
op_word words (i64_const n) = unsigned 64 n
op_word words (global_get x) = slice_index words x
op_word words _ = 0

-- that of an expression of one instruction
unfoldable pub word_in : List ℕ → Code → ℕ
word_in words (plain op rest) = op_word words op
word_in words _ = 0

-- the expression is one constant, or one of `count` globals
unfoldable pub IsSeen : ℕ → Code → Type 0
IsSeen count e = ((n : ℤ) × (e ≡ plain (i32_const n) nothing))
    ⊎ ((n : ℤ) × (e ≡ plain (i64_const n) nothing))
    ⊎ ((x : ℕ) × (e ≡ plain (global_get x) nothing) × (x < count))

-- the same of an instruction
abbrev pub HasWord : ℕ → Instr → Type 0
HasWord count (I32Const n) = Unit {0}
HasWord count (I64Const n) = Unit {0}
HasWord count (GlobalGet x) = x < count
HasWord count _ = ⊥

abbrev pub word_at : List ℕ → Instr → ℕ
word_at words (I32Const n) = unsigned 32 n
word_at words (I64Const n) = unsigned 64 n
word_at words (GlobalGet x) = slice_index words x
word_at words _ = 0

-- the expression is the offset of a segment
abbrev pub IsOffset : List ℕ → Code → Type 0
IsOffset words e = IsSeen (length words) e × (word_in words e < 2 ^ 32)

-- ---- globals

abbrev pub host_word : Parameters → HostGlobal → ℕ
host_word p g = bits_of (value_of p g)

-- of the imported ones, and after them of the module's own, which see the imported ones alone
abbrev pub global_words : Parameters → List HostGlobal → List Global → List ℕ
global_words p hosts own = map (host_word p) hosts ++ map (λ g. word_in (map (host_word p) hosts) g.init) own

-- ---- segments

abbrev pub element_piece : List ℕ → Element → Piece
element_piece words e = record { at = word_in words e.offset; items = e.init.items }

abbrev pub data_piece : List ℕ → Data → Piece
data_piece words s = record { at = word_in words s.offset; items = s.init.items }
