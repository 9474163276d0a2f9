-- What a constant expression is, as it is read: a word, or one of the globals.
use Rattle.std.specs.Prelude.{◌≡◌, ℕ, ◌<◌, List, slice_index}
use Rattle.wh_model.specs.Format.Syntax.{Code}
use Rattle.wh_syntax.specs.declared.instr.Instr.{Instr}
use Rattle.wh_initial.specs.declared.constants.Constant.{Constant}
use Rattle.wh_initial.specs.declared.constants.Constant.TheVariants.{Word, Global}
use Rattle.wh_initial.specs.ConstantWords.{word_in, IsSeen, HasWord, word_at}

-- its word, where the globals have these
abbrev pub word_as : List ℕ → Constant → ℕ
word_as words (Word n) = n
word_as words (Global x) = slice_index words x

-- if it is a global, it is one of `count`
abbrev pub IsBelow : ℕ → Constant → Type 0
IsBelow count (Word n) = Unit {0}
IsBelow count (Global x) = x < count

-- it is what the instruction is
pub record IsConstantOf (i : Instr) (constant : Constant) : Type 0 where
  pub below : (count : ℕ) → HasWord count i → IsBelow count constant
  pub word : (words : List ℕ) → word_as words constant ≡ word_at words i

-- it is what the expression is
pub record IsReadAs (e : Code) (constant : Constant) : Type 0 where
  pub below : (count : ℕ) → IsSeen count e → IsBelow count constant
  pub word : (words : List ℕ) → word_as words constant ≡ word_in words e
