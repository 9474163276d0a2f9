-- Decimal numbers.
use Rattle.std.proofs.Common.{◌≡◌, ◌≢◌, ℕ, zero, suc, ◌<◌, ◌≤◌, ◌^◌, Bool, true, false, List, [], ◌∷◌, length, get_or, MatchBool, Result, Ok, Err, IsUtf8, sym, ap, subst, ◌∙◌, arith}
use Rattle.std.specs.List.{AllByRecursion, AllPass}
use Rattle.std.specs.Char.{is_ascii_digit}
use Rattle.std.specs.Fmt.{decimal}
use Rattle.std.specs.Str.Parse.{AllDigits, IsNumeral, digits_value, ParsesUnsigned}
use Rattle.std.proofs.lemmas.Bool.Decides.{nat_tests}
use Rattle.std.proofs.lemmas.Fmt.{decimal_is_IsNumeral, decimal-digits_value, decimal_digit, first_decimal, length-decimal-le}
use Rattle.std.proofs.lemmas.List.Elements.{recursion_from_All, All-from_recursion}
use Rattle.std.proofs.lemmas.Str.{IsUtf8-from_ascii}
use Rattle.std.proofs.lemmas.Str.Ascii.{IsAscii-from_all}
use Rattle.std.proofs.lemmas.Str.Parse.{digit_from_value, IsNumeralModel, numerals_by_value, tells_digits, parse_plain}
use Rattle.wh_routes.specs.Readings.{SpellsNumber, IsPlainNumeral}

digits_from : (text : List ℕ) → AllByRecursion (λ c. is_ascii_digit c ≡ true) text → AllDigits 10 text
digits_from [] h = tt
digits_from (c ∷ cs) h = ((let e = h.0 in grind (arith, nat_tests)), digits_from cs h.1)

digits_to : (text : List ℕ) → AllDigits 10 text → AllByRecursion (λ c. is_ascii_digit c ≡ true) text
digits_to [] h = tt
digits_to (c ∷ cs) h = ((let r = digit_from_value c h.0 in grind (arith, nat_tests)), digits_to cs h.1)

-- what is left to test of a text whose first byte and length were looked at
pub digits_test : (text : List ℕ) (passed : Bool) → 0 < length text → length text ≤ 20 → (get_or text 0 0 ≡ 48 → length text ≡ 1)
    → MatchBool passed (AllPass is_ascii_digit text) (¬ (AllPass is_ascii_digit text))
    → MatchBool passed (IsPlainNumeral text) (¬ (IsPlainNumeral text))
digits_test text true some few plain h = record {
  digits = (some, digits_from text (recursion_from_All (λ c. is_ascii_digit c ≡ true) text h));
  few = few;
  plain = plain;
}
digits_test text false some few plain h =
    λ d. h (All-from_recursion (λ c. is_ascii_digit c ≡ true) text (digits_to text d.digits.1))

ascii_digits : (text : List ℕ) → AllDigits 10 text → AllByRecursion (λ b. b < 128) text
ascii_digits [] h = tt
ascii_digits (c ∷ cs) h = ((let r = digit_from_value c h.0 in omega arith), ascii_digits cs h.1)

pub digits_utf8 : (text : List ℕ) → IsNumeral 10 text → IsUtf8 text
digits_utf8 text d = IsUtf8-from_ascii text (IsAscii-from_all text (All-from_recursion (λ b. b < 128) text (ascii_digits text d.1)))

own : IsNumeralModel (AllDigits 10) (digits_value 10)
own = numerals_by_value (AllDigits 10) tells_digits

no_zero : (n : ℕ) → n < 2 ^ 64 → get_or (decimal n) 0 0 ≡ 48 → length (decimal n) ≡ 1
no_zero zero small first = ap length (decimal_digit 0 (omega arith))
no_zero (suc n) small first = absurd (let h = first_decimal (suc n) (omega arith) small in omega arith)

pub plain_decimal : (n : ℕ) → n < 2 ^ 64 → IsPlainNumeral (decimal n)
plain_decimal n small = record {
  digits = (decimal_is_IsNumeral n small).0;
  few = length-decimal-le 20 n (omega arith) (omega arith) small;
  plain = no_zero n small;
}

-- what is spelled is written so
pub plain_spelled : (text : List ℕ) (n : ℕ) → SpellsNumber text n → IsPlainNumeral text
plain_spelled text n h = subst IsPlainNumeral (sym h.spelled) (plain_decimal n h.small)

value_spelled : (text : List ℕ) (n : ℕ) → SpellsNumber text n → digits_value 10 text ≡ n
value_spelled text n h = ap (digits_value 10) h.spelled ∙ (decimal_is_IsNumeral n h.small).1

no_plus : (text : List ℕ) → IsPlainNumeral text → get_or text 0 0 ≢ 43
no_plus [] d = λ e. absurd (omega (arith, d.digits.0))
no_plus (c ∷ cs) d = let r = digit_from_value c d.digits.1.0 in λ e. absurd (omega arith)

pub parsed_some : {E : Type 0} (text t : List ℕ) (r : Result ℕ E) (n : ℕ) → t ≡ text → IsPlainNumeral text
    → ParsesUnsigned 64 10 t r → r ≡ Ok n → SpellsNumber text n
parsed_some {E} text t r n same d h e =
    let o = subst (ParsesUnsigned {E = E} 64 10 text) e (subst (λ x. ParsesUnsigned {E = E} 64 10 x r) same h) in
    let p = parse_plain own {E = E} 64 text (Ok n) o (no_plus text d) in
    record {
      small = subst (λ v. v < 2 ^ 64) (sym p.1) p.0.2;
      spelled = sym (ap decimal p.1 ∙ decimal-digits_value own text d.digits.1 d.digits.0 d.plain p.0.2);
    }

pub parsed_none : {E : Type 0} (text t : List ℕ) (r : Result ℕ E) (x : E) → t ≡ text
    → ParsesUnsigned 64 10 t r → r ≡ Err x → (n : ℕ) → ¬ (SpellsNumber text n)
parsed_none {E} text t r x same h e n is =
    let d = plain_spelled text n is in
    let o = subst (ParsesUnsigned {E = E} 64 10 text) e (subst (λ y. ParsesUnsigned {E = E} 64 10 y r) same h) in
    parse_plain own {E = E} 64 text (Err x) o (no_plus text d)
    (d.digits.1, d.digits.0, subst (λ v. v < 2 ^ 64) (sym (value_spelled text n is)) is.small)

pub not_utf8 : (text : List ℕ) → ¬ (IsUtf8 text) → (n : ℕ) → ¬ (SpellsNumber text n)
not_utf8 text not n is = not (digits_utf8 text (plain_spelled text n is).digits)
