-- The words of a line, and the numbers among them.
use Rattle.std.specs.Prelude.{◌≡◌, ℕ, ◌≤◌, ◌==◌, if◌then◌else◌, List, [], ◌∷◌, length, drop, ℤ, pos}
use Rattle.std.specs.Str.Parse.{IsNumeral, starts_with_minus, signed_digits_value}
use Rattle.wh_model.specs.declared.ValType.{ValType}
use Rattle.wh_model.specs.Execution.Store.{value}
use Rattle.wh_script_model.specs.Lines.{onto_first}
use Rattle.wh_host_model.specs.Owners.{IsArgument, most_fuel}

-- the words of a line: its bytes up to each space, and those after the last one
abbrev pub words_of : List ℕ → List (List ℕ)
words_of [] = [] ∷ []
words_of (b ∷ bs) = if b == 32 then [] ∷ words_of bs else onto_first b (words_of bs)

-- the word without its `-`, if it has one
abbrev pub without_minus : List ℕ → List ℕ
without_minus word = if starts_with_minus word then drop 1 word else word

-- 1 to 20 decimal digits, the first of which may be zeros
abbrev pub AreDigits : List ℕ → Type 0
AreDigits word = IsNumeral 10 word × (length word ≤ 20)

-- The word is this number: such digits, with a `-` before them or none.
pub record IsNumber (word : List ℕ) (n : ℤ) : Type 0 where
  pub digits : AreDigits (without_minus word)
  pub reads : n ≡ signed_digits_value 10 word

-- a number of 64 bits, without a sign: fuel, shares, or frames
abbrev pub IsCount : List ℕ → ℕ → Type 0
IsCount word n = IsNumber word (pos n) × (n ≤ most_fuel)

-- a number in the range of an argument of the type, signed or unsigned, and the unsigned integer that represents it
abbrev pub IsBits : ValType → List ℕ → ℕ → Type 0
IsBits t word bits = (n : ℤ) × IsNumber word n × IsArgument t n (value t bits)
