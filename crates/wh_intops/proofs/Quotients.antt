-- What the machine's divisions give, in the terms of the definitions.
use Rattle.std.proofs.Common.{◌≡◌, ℕ, zero, suc, ◌-◌, ◌/◌, ◌%◌, ◌^◌, ◌<◌, ◌≤◌, ◌≢◌, ◌⊎◌, Bool, true, false, T, ℤ, pos, negsuc, neg_ℤ, ◌-ℤ◌, ◌*ℤ◌, ◌≤ℤ◌, ◌<ℤ◌, w64, to_z, of_z, SFits, Ok, Err, refl, sym, ap, ap₂, ◌∙◌, arith, ⊎_elim, ne_eqb, pow_pos}
use Rattle.std.proofs.Math.IntN.{*ℤ_comm}
use Rattle.std.proofs.Math.Nat.{div-le_self, div-one, eq-or-lt_of_le, div-lt_self, mod_def, pos_of_ne-zero}
use Rattle.std.proofs.lemmas.Bool.{cases_lt, cond-true}
use Rattle.std.proofs.lemmas.Int.{ints, quot-rem, to_z-of_z}
use Rattle.std.specs.Prelude.{int_div, int_rem, int_lt}
use Rattle.wh_model.proofs.Numbers.{signed-low, signed-high, signed-bounds, bits-pos}
use Rattle.wh_model.specs.Execution.{bits, signed, unsigned, quotient, idiv_s, irem_u, irem_s}
use Rattle.wh_model.specs.declared.Trap.TheVariants.{DivideByZero, Overflow}
use Rattle.wh_model.specs.declared.ValType.{ValType}
use Rattle.wh_model.specs.declared.ValType.TheVariants.{I32, I64}
use Rattle.wh_intops.proofs.Words.{within-word, signed-fits}

-- ---- by 0

pub div_s-zero : (t : ValType) (a b : ℕ) → b ≡ 0 → Err DivideByZero ≡ idiv_s (bits t) a b
unfolding idiv_s
div_s-zero t a b e = rw e refl

pub rem_u-zero : (a b : ℕ) → b ≡ 0 → Err DivideByZero ≡ irem_u a b
unfolding irem_u
rem_u-zero a b e = rw e refl

pub rem_s-zero : (t : ValType) (a b : ℕ) → b ≡ 0 → Err DivideByZero ≡ irem_s (bits t) a b
unfolding irem_s
rem_s-zero t a b e = rw e refl

-- ---- quotients of signed numbers

-- two signed numbers that aren't the least and -1 have a signed quotient
quot-bounds : (h : ℕ) (x y : ℤ) → 0 < h → neg_ℤ (pos h) ≤ℤ x → x <ℤ pos h → (x ≡ neg_ℤ (pos h) → y ≡ negsuc 0 → ⊥) → (neg_ℤ (pos h) ≤ℤ int_div x y) × (int_div x y <ℤ pos h)
quot-bounds h (pos a) (pos b) some low high apart = let q = div-le_self a b in (omega (arith, ints), omega (arith, ints))
quot-bounds h (pos a) (negsuc b) some low high apart = let q = div-le_self a (suc b) in (omega (arith, ints), omega (arith, ints))
quot-bounds h (negsuc a) (pos b) some low high apart = let q = div-le_self (suc a) b in (omega (arith, ints), omega (arith, ints))
quot-bounds h (negsuc a) (negsuc zero) some low high apart =
    let q = div-one (suc a) in
    let within : suc a ≤ h = omega (arith, ints) in
    let below : suc a < h = ⊎_elim (λ e. absurd (apart (ap (λ n. neg_ℤ (pos n)) e) refl)) (λ l. l) (eq-or-lt_of_le within) in
    (omega (arith, ints), omega (arith, ints))
quot-bounds h (negsuc a) (negsuc (suc b)) some low high apart =
    let q : suc a / suc (suc b) < suc a = div-lt_self (omega arith) (omega arith) in (omega (arith, ints), omega (arith, ints))

-- the least number by -1
pub overflows : (t : ValType) (a b : ℕ) → b ≢ 0 → signed (bits t) a ≡ neg_ℤ (pos (2 ^ (bits t - 1))) → signed (bits t) b ≡ negsuc 0 → Err Overflow ≡ idiv_s (bits t) a b
unfolding idiv_s quotient
overflows I32 a b nonzero least minus_one = rw (ne_eqb b 0 nonzero, least, minus_one) refl
overflows I64 a b nonzero least minus_one = rw (ne_eqb b 0 nonzero, least, minus_one) refl

is_true : (b : Bool) → T b → b ≡ true
is_true true h = refl
is_true false h = absurd h

module _ (t : ValType) (a b : ℕ) (left : a < 2 ^ bits t) (apart : signed (bits t) a ≡ neg_ℤ (pos (2 ^ (bits t - 1))) → signed (bits t) b ≡ negsuc 0 → ⊥) where
  quotient-bounds : (neg_ℤ (pos (2 ^ (bits t - 1))) ≤ℤ quotient (bits t) a b) × (quotient (bits t) a b <ℤ pos (2 ^ (bits t - 1)))
  unfolding quotient
  quotient-bounds =
      let range = signed-bounds (bits t) a (bits-pos t) left in
      quot-bounds (2 ^ (bits t - 1)) (signed (bits t) a) (signed (bits t) b) (pow_pos (bits t - 1)) range.0 range.1 apart

  quotient-fits : SFits w64 (quotient (bits t) a b)
  quotient-fits = within-word t (quotient (bits t) a b) quotient-bounds.0 quotient-bounds.1

  divides : b ≢ 0 → Ok (unsigned (bits t) (quotient (bits t) a b)) ≡ idiv_s (bits t) a b
  unfolding idiv_s
  divides nonzero =
      let fits = is_true (int_lt (quotient (bits t) a b) (pos (2 ^ (bits t - 1)))) quotient-bounds.1.lt in
      rw (ne_eqb b 0 nonzero) (sym (cond-true (int_lt (quotient (bits t) a b) (pos (2 ^ (bits t - 1)))) (Ok (unsigned (bits t) (quotient (bits t) a b))) (Err Overflow) fits))

-- a word that is not 0 represents a number that is not 0
nonzero-high : (t : ValType) (b : ℕ) → b < 2 ^ bits t → 0 < b → 0 < of_z w64 (negsuc (2 ^ bits t - suc b))
nonzero-high I32 b fits some = omega arith
nonzero-high I64 b fits some = omega arith

pub nonzero-word : (t : ValType) (b : ℕ) → b < 2 ^ bits t → b ≢ 0 → 0 < of_z w64 (signed (bits t) b)
nonzero-word t b fits nonzero = ⊎_elim
    (λ low. rw (signed-low (bits t) b low) (pos_of_ne-zero nonzero))
    (λ high. rw (signed-high (bits t) b high fits) (nonzero-high t b fits (pos_of_ne-zero nonzero)))
    (cases_lt b (2 ^ (bits t - 1)))

-- ---- what the code computes from the signed numbers x and y, which the machine keeps

kept : (t : ValType) (a : ℕ) (x : ℤ) → a < 2 ^ bits t → x ≡ signed (bits t) a → to_z w64 (of_z w64 x) ≡ signed (bits t) a
kept t a x fits e = ap (λ z. to_z w64 (of_z w64 z)) e ∙ to_z-of_z w64 (signed (bits t) a) (signed-fits t a fits)

-- what the code's tests say: x is not the least number, or y is not -1
module _ (t : ValType) (a b : ℕ) (x y least : ℤ) (left : a < 2 ^ bits t) (right : b < 2 ^ bits t) (nonzero : b ≢ 0)
    (dividend : x ≡ signed (bits t) a) (divisor : y ≡ signed (bits t) b) (lowest : least ≡ neg_ℤ (pos (2 ^ (bits t - 1))))
    (tests : ((of_z w64 x ≡ of_z w64 least) × (of_z w64 y ≡ 2 ^ 64 - 1 → ⊥)) ⊎ (of_z w64 x ≡ of_z w64 least → ⊥)) where
  apart : signed (bits t) a ≡ neg_ℤ (pos (2 ^ (bits t - 1))) → signed (bits t) b ≡ negsuc 0 → ⊥
  apart e f = ⊎_elim
      (λ (h : (of_z w64 x ≡ of_z w64 least) × (of_z w64 y ≡ 2 ^ 64 - 1 → ⊥)). h.1 (ap (of_z w64) (divisor ∙ f)))
      (λ other. other (ap (of_z w64) (dividend ∙ e ∙ sym lowest)))
      tests

  computed : int_div (to_z w64 (of_z w64 x)) (to_z w64 (of_z w64 y)) ≡ quotient (bits t) a b
  unfolding quotient
  computed = ap₂ int_div (kept t a x left dividend) (kept t b y right divisor)

  -- what the machine asks of a signed division
  pub div_s-asks : (0 < of_z w64 y) × SFits w64 (int_div (to_z w64 (of_z w64 x)) (to_z w64 (of_z w64 y)))
  div_s-asks = (rw divisor (nonzero-word t b right nonzero), rw computed (quotient-fits t a b left apart))

  pub div_s-is : (word : ℕ) → word ≡ unsigned (bits t) (to_z w64 (of_z w64 (int_div (to_z w64 (of_z w64 x)) (to_z w64 (of_z w64 y))))) → Ok word ≡ idiv_s (bits t) a b
  div_s-is word result =
      let same = to_z-of_z w64 (quotient (bits t) a b) (quotient-fits t a b left apart) in
      ap (λ n. Ok n) (result ∙ ap (λ q. unsigned (bits t) (to_z w64 (of_z w64 q))) computed ∙ ap (unsigned (bits t)) same) ∙ divides t a b left apart nonzero

pub ruleset quotients = (overflows, div_s-asks, div_s-is, div_s-zero)

-- ---- remainders

pub rem_u-word : (a b : ℕ) → b ≢ 0 → Ok (a % b) ≡ irem_u a b
unfolding irem_u
rem_u-word a b nonzero = rw (ne_eqb b 0 nonzero) (ap (λ n. Ok n) (mod_def a b))

-- the dividend less the divisor times the quotient
rem-is : (x y : ℤ) → x -ℤ y *ℤ int_div x y ≡ int_rem x y
rem-is x y = let e = quot-rem x y in let c = *ℤ_comm y (int_div x y) in rw c (omega (arith, ints))

rem_s-word : (t : ValType) (a b : ℕ) → b ≢ 0 → Ok (unsigned (bits t) (int_rem (signed (bits t) a) (signed (bits t) b))) ≡ irem_s (bits t) a b
unfolding irem_s quotient
rem_s-word t a b nonzero = rw (ne_eqb b 0 nonzero) (ap (λ z. Ok (unsigned (bits t) z)) (sym (rem-is (signed (bits t) a) (signed (bits t) b))))

-- the same of what the code computes: r is the remainder of x by y
pub rem_s-is : (t : ValType) (a b : ℕ) (x y r : ℤ) (word : ℕ) → a < 2 ^ bits t → b < 2 ^ bits t → b ≢ 0 → x ≡ signed (bits t) a → y ≡ signed (bits t) b → SFits w64 r
    → r ≡ int_rem (to_z w64 (of_z w64 x)) (to_z w64 (of_z w64 y)) → word ≡ unsigned (bits t) (to_z w64 (of_z w64 r)) → Ok word ≡ irem_s (bits t) a b
rem_s-is t a b x y r word left right nonzero dividend divisor fits remainder result =
    let kept_left = kept t a x left dividend in
    let kept_right = kept t b y right divisor in
    let same = to_z-of_z w64 r fits in
    let main = rem_s-word t a b nonzero in
    cc

pub ruleset remainders = (rem_u-zero, rem_u-word, rem_s-zero, rem_s-is, nonzero-word)
