-- Digits in hexadecimal, as they are tested and as they are read.
use Rattle.std.proofs.Common.{◌≡◌, ◌≢◌, ℕ, ◌+◌, ◌*◌, ◌%◌, ◌≤◌, ◌-◌, Bool, true, false, ◌||◌, inl, inr, MatchBool, List, [], ◌∷◌, length, Ok, Some, refl, sym, ap, arith}
use Rattle.std.specs.List.{AllByRecursion, AllPass}
use Rattle.std.specs.Char.{is_ascii_hexdigit}
use Rattle.std.proofs.lemmas.List.Elements.{recursion_from_All, All-from_recursion}
use Rattle.std.specs.Int.{is_in_range}
use Rattle.std.proofs.lemmas.Bool.{or_cases}
use Rattle.std.proofs.lemmas.Bool.Decides.{nat_tests}
use Rattle.hex.specs.Hex.{decode_of, decode_pairs, hex_digit_value}
use Rattle.wh_script_model.specs.{IsDigit, numeral, lower, upper, IsHex}

-- a digit is read as its value
digit_value : (c n : ℕ) → IsDigit c n → hex_digit_value c ≡ Some n
digit_value c n (numeral le e) = grind (arith, nat_tests)
digit_value c n (lower ge le e) = grind (arith, nat_tests)
digit_value c n (upper ge le e) = grind (arith, nat_tests)

digit_passes : (c n : ℕ) → IsDigit c n → is_ascii_hexdigit c ≡ true
digit_passes c n (numeral le e) = grind (arith, nat_tests)
digit_passes c n (lower ge le e) = grind (arith, nat_tests)
digit_passes c n (upper ge le e) = grind (arith, nat_tests)

abbrev AreDigits : List ℕ → Type 0
AreDigits word = AllByRecursion (λ c. is_ascii_hexdigit c ≡ true) word

digits_of : (word bytes : List ℕ) → IsHex word bytes → (length word % 2 ≡ 0) × AreDigits word
digits_of [] bytes h = (refl, tt)
digits_of (c ∷ []) bytes h = elim h [ ]
digits_of (c ∷ d ∷ word) [] h = elim h [ ]
digits_of (c ∷ d ∷ word) (b ∷ bytes) h = let rest = digits_of word bytes h.1 in
    (omega (arith, rest.0), (digit_passes c h.0.0 h.0.2, (digit_passes d h.0.1 h.0.3, rest.1)))

in_range : (lo hi c : ℕ) → is_in_range lo hi c ≡ true → (lo ≤ c) × (c ≤ hi)
in_range lo hi c h = (grind (arith, nat_tests), grind (arith, nat_tests))

is_digit : (c : ℕ) → is_ascii_hexdigit c ≡ true → (n : ℕ) × IsDigit c n
is_digit c h = elim (or_cases (is_in_range 48 57 c || is_in_range 65 70 c) (is_in_range 97 102 c) h) [
  | inl p ↦ elim (or_cases (is_in_range 48 57 c) (is_in_range 65 70 c) p) [
    | inl q ↦ let r = in_range 48 57 c q in (c - 48, numeral (omega (arith, r.0, r.1)) (omega (arith, r.0)))
    | inr q ↦ let r = in_range 65 70 c q in (c - 55, upper (omega (arith, r.0, r.1)) (omega (arith, r.0, r.1)) (omega (arith, r.0)))
  ]
  | inr p ↦ let r = in_range 97 102 c p in (c - 87, lower (omega (arith, r.0, r.1)) (omega (arith, r.0, r.1)) (omega (arith, r.0)))
]

bytes_of : (word : List ℕ) → length word % 2 ≡ 0 → AreDigits word → (bytes : List ℕ) × IsHex word bytes
bytes_of [] even h = ([], refl)
bytes_of (c ∷ []) even h = absurd (omega (arith, even))
bytes_of (c ∷ d ∷ word) even h =
    let rest = bytes_of word (omega (arith, even)) h.1.1 in
    let high = is_digit c h.0 in
    let low = is_digit d h.1.0 in
    ((16 * high.0 + low.0) ∷ rest.0, ((high.0, low.0, high.1, low.1, refl), rest.1))

pub hex_test : (word : List ℕ) (passed : Bool) → length word % 2 ≡ 0 → MatchBool passed (AllPass is_ascii_hexdigit word) (¬ (AllPass is_ascii_hexdigit word))
    → MatchBool passed ((bytes : List ℕ) × IsHex word bytes) ((bytes : List ℕ) → IsHex word bytes → ⊥)
hex_test word true even h = bytes_of word even (recursion_from_All (λ c. is_ascii_hexdigit c ≡ true) word h)
hex_test word false even h = λ bytes is. h (All-from_recursion (λ c. is_ascii_hexdigit c ≡ true) word (digits_of word bytes is).1)

pub odd_no_hex : (word : List ℕ) → length word % 2 ≢ 0 → (bytes : List ℕ) → IsHex word bytes → ⊥
odd_no_hex word odd bytes is = odd (digits_of word bytes is).0

-- what is hexadecimal is read as those bytes
pairs_read : (i : ℕ) (word bytes : List ℕ) → IsHex word bytes → decode_pairs i word ≡ Ok bytes
unfolding decode_pairs
pairs_read i [] bytes h = ap Ok (sym h)
pairs_read i (c ∷ []) bytes h = elim h [ ]
pairs_read i (c ∷ d ∷ word) [] h = elim h [ ]
pairs_read i (c ∷ d ∷ word) (b ∷ bytes) h =
    rw (digit_value c h.0.0 h.0.2, digit_value d h.0.1 h.0.3, pairs_read (i + 2) word bytes h.1) (ap (λ n. Ok (n ∷ bytes)) (omega (arith, h.0.4)))

hex_read : (word bytes : List ℕ) → IsHex word bytes → decode_of word ≡ Ok bytes
hex_read word bytes h = rw (digits_of word bytes h).0 (pairs_read 0 word bytes h)

pub read_same : (word bytes items : List ℕ) → IsHex word bytes → decode_of word ≡ Ok items → items ≡ bytes
read_same word bytes items is read = let e = hex_read word bytes is in cc

pub one_hex : (word a b : List ℕ) → IsHex word a → IsHex word b → a ≡ b
one_hex word a b p q = read_same word b a q (hex_read word a p)
