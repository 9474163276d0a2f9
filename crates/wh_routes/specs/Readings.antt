-- How texts spell numbers and digests, and which may name an instance.
use Rattle.std.specs.Prelude.{◌≡◌, ℕ, ◌≤◌, ◌<◌, ◌^◌, Bool, ◌==◌, ◌||◌, IsTrue, List, length, slice_index, All}
use Rattle.std.specs.Char.{is_ascii_alphanumeric}
use Rattle.std.specs.Fmt.{decimal}
use Rattle.std.specs.Str.Parse.{IsNumeral}
use Rattle.hex.specs.Hex.{encode_lower}

-- the text is the number's decimal digits, without zeros in front
pub record SpellsNumber (text : List ℕ) (n : ℕ) : Type 0 where
  pub small : n < 2 ^ 64
  pub spelled : text ≡ decimal n

-- at most 20 decimal digits, without zeros in front
pub record IsPlainNumeral (text : List ℕ) : Type 0 where
  pub digits : IsNumeral 10 text
  pub few : length text ≤ 20
  pub plain : slice_index text 0 ≡ 48 → length text ≡ 1

-- the text is the 64 hexadecimal digits of a SHA-256, whose letters are small
pub record SpellsDigest (text digest : List ℕ) : Type 0 where
  pub sized : length digest ≡ 32
  pub bytes : All (λ b. b < 256) digest
  pub spelled : text ≡ encode_lower digest

-- a letter, a digit, `.`, `_` or `-`
abbrev pub is_instance_name_byte : ℕ → Bool
is_instance_name_byte b = is_ascii_alphanumeric b || b == 46 || b == 95 || b == 45

-- 1 to 64 of these, of which the first is a letter or a digit
pub record IsInstanceName (text : List ℕ) : Type 0 where
  pub some : 0 < length text
  pub short : length text ≤ 64
  pub first : IsTrue (is_ascii_alphanumeric (slice_index text 0))
  pub all : All (λ b. IsTrue (is_instance_name_byte b)) text
