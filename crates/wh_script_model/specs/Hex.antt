-- Bytes in hexadecimal.
use Rattle.std.specs.Prelude.{◌≡◌, ℕ, ◌+◌, ◌*◌, ◌≤◌, List, [], ◌∷◌}

-- a hexadecimal digit and its value: `0` to `9`, or `a` to `f` in either case
pub data IsDigit (c n : ℕ) : Type 0 where
  numeral : n ≤ 9 → c ≡ 48 + n → IsDigit c n
  lower : 10 ≤ n → n ≤ 15 → c ≡ 87 + n → IsDigit c n
  upper : 10 ≤ n → n ≤ 15 → c ≡ 55 + n → IsDigit c n

-- the two digits of a byte, the greater one first
abbrev pub IsPair : ℕ → ℕ → ℕ → Type 0
IsPair c d b = (high low : ℕ) × IsDigit c high × IsDigit d low × (b ≡ 16 * high + low)

-- the word is these bytes in hexadecimal, two digits each
abbrev pub IsHex : List ℕ → List ℕ → Type 0
IsHex [] bytes = bytes ≡ []
IsHex (c ∷ []) bytes = ⊥
IsHex (c ∷ d ∷ word) [] = ⊥
IsHex (c ∷ d ∷ word) (b ∷ bytes) = IsPair c d b × IsHex word bytes
