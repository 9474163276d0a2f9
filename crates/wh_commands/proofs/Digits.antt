-- Words of digits, and the numbers that they are.
use Rattle.std.proofs.Common.{◌≡◌, ◌≢◌, ℕ, zero, suc, ◌<◌, ◌≤◌, ◌^◌, Bool, true, false, List, [], ◌∷◌, length, drop, if◌then◌else◌, FitsSigned, MatchBool, ℤ, pos, negsuc, neg_ℤ, nat_abs, int_lt, refl, ap, ◌∙◌, arith}
use Rattle.std.specs.List.{AllByRecursion, AllPass}
use Rattle.std.specs.Int.{w128, int_rem_euclid}
use Rattle.std.proofs.lemmas.Int.{ints}
use Rattle.wh_model.specs.declared.ValType.TheVariants.{I32, I64}
use Rattle.wh_model.specs.Execution.{unsigned, value}
use Rattle.std.specs.Char.{is_ascii_digit}
use Rattle.std.specs.Str.Parse.{AllDigits, IsNumeral, digits_value, starts_with_minus, without_leading_sign, without_leading_plus, signed_digits_value}
use Rattle.std.proofs.lemmas.Bool.Decides.{nat_tests}
use Rattle.std.proofs.lemmas.List.Elements.{recursion_from_All, All-from_recursion}
use Rattle.std.proofs.lemmas.Str.Parse.{digit_from_value, digits_value_short, numerals_by_value, tells_digits, without_leading_plus_none}
use Rattle.wh_script_model.specs.{IsWord, without_minus, AreDigits, IsNumber, IsBits}

-- ---- digits

digits_from : (word : List ℕ) → AllByRecursion (λ c. is_ascii_digit c ≡ true) word → AllDigits 10 word
digits_from [] h = tt
digits_from (c ∷ cs) h = ((let e = h.0 in grind (arith, nat_tests)), digits_from cs h.1)

digits_to : (word : List ℕ) → AllDigits 10 word → AllByRecursion (λ c. is_ascii_digit c ≡ true) word
digits_to [] h = tt
digits_to (c ∷ cs) h = ((let r = digit_from_value c h.0 in grind (arith, nat_tests)), digits_to cs h.1)

pub digits_test : (word : List ℕ) (passed : Bool) → 0 < length word → length word ≤ 20
    → MatchBool passed (AllPass is_ascii_digit word) (¬ (AllPass is_ascii_digit word))
    → MatchBool passed (AreDigits word) (¬ (AreDigits word))
digits_test word true some few h = ((some, digits_from word (recursion_from_All (λ c. is_ascii_digit c ≡ true) word h)), few)
digits_test word false some few h = λ d. h (All-from_recursion (λ c. is_ascii_digit c ≡ true) word (digits_to word d.0.1))

-- ---- words

ascii_digits : (word : List ℕ) → AllDigits 10 word → AllByRecursion (λ b. b < 128) word
ascii_digits [] h = tt
ascii_digits (c ∷ cs) h = ((let r = digit_from_value c h.0 in omega arith), ascii_digits cs h.1)

spaceless_digits : (word : List ℕ) → AllDigits 10 word → AllByRecursion (λ b. b ≢ 32) word
spaceless_digits [] h = tt
spaceless_digits (c ∷ cs) h = ((let r = digit_from_value c h.0 in omega arith), spaceless_digits cs h.1)

digits_word : (word : List ℕ) → AreDigits word → IsWord word
digits_word word d = record {
  some = d.0.0;
  ascii = All-from_recursion (λ b. b < 128) word (ascii_digits word d.0.1);
  spaceless = All-from_recursion (λ b. b ≢ 32) word (spaceless_digits word d.0.1);
}

minus_word : (c : ℕ) (word : List ℕ) → c ≡ 45 → AreDigits word → IsWord (c ∷ word)
minus_word c word e d = record {
  some = omega arith;
  ascii = All-from_recursion (λ b. b < 128) (c ∷ word) (omega arith, ascii_digits word d.0.1);
  spaceless = All-from_recursion (λ b. b ≢ 32) (c ∷ word) (omega arith, spaceless_digits word d.0.1);
}

word_by : (word : List ℕ) (b : Bool) → starts_with_minus word ≡ b → AreDigits (if b then drop 1 word else word) → IsWord word
word_by [] true e d = absurd (omega (arith, d.0.0))
word_by [] false e d = absurd (omega (arith, d.0.0))
word_by (c ∷ word) true e d = minus_word c word (grind (arith, nat_tests)) d
word_by (c ∷ word) false e d = digits_word (c ∷ word) d

pub number_word : (word : List ℕ) → AreDigits (without_minus word) → IsWord word
number_word word d = word_by word (starts_with_minus word) refl d

-- ---- numbers

below : (word : List ℕ) → AreDigits word → digits_value 10 word < 10 ^ 20
below word d = digits_value_short (numerals_by_value (AllDigits 10) tells_digits) word 20 d.0.1 d.1

fits_by : (n : ℕ) → n < 10 ^ 20 → FitsSigned w128 (pos n) × FitsSigned w128 (neg_ℤ (pos n))
fits_by zero h = (omega arith, omega arith)
fits_by (suc n) h = (omega arith, omega arith)

no_plus : (word : List ℕ) → AreDigits word → without_leading_plus word ≡ word
no_plus [] d = refl
no_plus (c ∷ word) d = let r = digit_from_value c d.0.1.0 in without_leading_plus_none (c ∷ word) (omega arith)

-- the word is read as a number
abbrev pub Reads : List ℕ → Type 0
Reads word = IsNumeral 10 (without_leading_sign word) × FitsSigned w128 (signed_digits_value 10 word)

parsed_by : (word : List ℕ) (b : Bool) → starts_with_minus word ≡ b → AreDigits (if b then drop 1 word else word)
    → Reads word
parsed_by word true e d = rw e (d.0, (fits_by (digits_value 10 (drop 1 word)) (below (drop 1 word) d)).1)
parsed_by word false e d = rw (e, no_plus word d) (d.0, (fits_by (digits_value 10 word) (below word d)).0)

-- what is such digits is read
pub number_reads : (word : List ℕ) → AreDigits (without_minus word) → Reads word
number_reads word d = parsed_by word (starts_with_minus word) refl d

-- ---- ranges

abs_32 : (n : ℤ) → nat_abs (int_rem_euclid n (pos 4294967296)) ≡ unsigned 32 n
unfolding unsigned
abs_32 (pos n) = refl
abs_32 (negsuc n) = refl

abs_64 : (n : ℤ) → nat_abs (int_rem_euclid n (pos 18446744073709551616)) ≡ unsigned 64 n
unfolding unsigned
abs_64 (pos n) = refl
abs_64 (negsuc n) = refl

-- the remainder is what the number represents, where it is in the range
pub bits_32 : (word : List ℕ) (n m r s : ℤ) → IsNumber word n → m ≡ n → s ≡ r → r ≡ int_rem_euclid m (pos 4294967296)
    → int_lt m (negsuc 2147483647) ≡ false → int_lt (pos 4294967295) m ≡ false → IsBits I32 word (nat_abs s)
bits_32 word n m r s is same seen e low high =
    let abs = ap nat_abs (seen ∙ e ∙ ap (λ z. int_rem_euclid z (pos 4294967296)) same) ∙ abs_32 n in
    (n, is, (grind (arith, ints), grind (arith, ints), ap (value I32) abs))

pub bits_64 : (word : List ℕ) (n m r s : ℤ) → IsNumber word n → m ≡ n → s ≡ r
    → r ≡ int_rem_euclid m (pos 18446744073709551616)
    → int_lt m (negsuc 9223372036854775807) ≡ false → int_lt (pos 18446744073709551615) m ≡ false
    → IsBits I64 word (nat_abs s)
bits_64 word n m r s is same seen e low high =
    let abs = ap nat_abs (seen ∙ e ∙ ap (λ z. int_rem_euclid z (pos 18446744073709551616)) same) ∙ abs_64 n in
    (n, is, (grind (arith, ints), grind (arith, ints), ap (value I64) abs))
