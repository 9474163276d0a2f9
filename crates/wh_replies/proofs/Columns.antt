-- Numbers that are aligned to the right.
use Rattle.std.proofs.Common.{◌≡◌, ◌==◌, false, ℕ, zero, suc, ◌-◌, ◌^◌, List, [], ◌∷◌, ◌++◌, length, replicate, refl, ap, arith, append-nil}
use lib.Utf8.{encode as encode_utf8}
use Rattle.std.specs.List.{repeat}
use Rattle.std.specs.Fmt.{decimal, padded_integral, styled_decimal, format_spec, char_count}
use Rattle.wh_script_model.specs.{column}

pads : (k : ℕ) → repeat {A = ℕ} k (32 ∷ []) ≡ replicate k 32
pads zero = refl
pads (suc k) = ap (λ rest. 32 ∷ rest) (pads k)

lined : (p q : ℕ) (digits : List ℕ) → p ≡ q
    → (repeat {A = ℕ} p (32 ∷ []) ++ [] ++ [] ++ []) ++ (digits ++ repeat {A = ℕ} (p - p) (32 ∷ []))
    ≡ replicate q 32 ++ digits
lined p q digits e =
    let none : p - p ≡ 0 = omega arith in
    rw none (rw (append-nil digits, append-nil (repeat {A = ℕ} p (32 ∷ [])), append-nil (repeat {A = ℕ} p (32 ∷ [])), append-nil (repeat {A = ℕ} p (32 ∷ [])), pads p, e))

-- n places, and spaces before a number that needs fewer
pub column_of : (width n : ℕ) → (width == 0) ≡ false
    → styled_decimal (format_spec 32 3 0 width (2 ^ 64 - 1)) n ≡ column width n
unfolding padded_integral char_count encode_utf8
column_of width n some =
    rw some (lined (width - length (decimal n) - 0 - 0) (width - length (decimal n)) (decimal n) (omega arith))
