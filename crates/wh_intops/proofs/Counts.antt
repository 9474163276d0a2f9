-- The counts of bits, which the definitions state by places, are std's, which go from digit to digit.
use Rattle.std.proofs.Common.{◌≡◌, ℕ, zero, suc, ◌+◌, ◌*◌, ◌/◌, ◌%◌, ◌^◌, ◌<◌, ◌⊎◌, Bool, true, false, refl, sym, ap, ap₂, ◌∙◌, arith, ⊎_elim, mod-lt}
use Rattle.std.proofs.Math.Nat.{div-one, div-div-eq-div-mul, pow-succ', zero-div, zero-lt-suc}
use Rattle.std.proofs.lemmas.Bool.{cases_lt}
use Rattle.std.proofs.lemmas.Bool.Decides.{nat_tests}
use Rattle.std.proofs.lemmas.Nat.{mod-pow-add, shr_below, ones-le}
use Rattle.std.proofs.Common.{add-one, zero-add, one-add, inl, inr, eq-eqb, ne_eqb}
use Rattle.std.specs.Int.Count.{ones, ones_step, count_leading_zeros, count_trailing_zeros, under}
use Rattle.std.specs.Prelude.{◌==◌, if◌then◌else◌}
use Rattle.wh_model.specs.Execution.{bits, count_below, iclz, ictz, ipopcnt}
use Rattle.wh_model.specs.declared.ValType.{ValType}
use Rattle.wh_model.specs.declared.ValType.TheVariants.{I32, I64}

-- ---- the numbers below n that pass a test

count_below-first : (n : ℕ) (p : ℕ → Bool) → count_below (suc n) p ≡ (if p 0 then 1 else 0) + count_below n (λ k. p (suc k))
unfolding count_below
count_below-first zero p = omega arith
count_below-first (suc n) p = let ih = count_below-first n p in omega arith

count_below-same : (n : ℕ) (p q : ℕ → Bool) → ((k : ℕ) → p k ≡ q k) → count_below n p ≡ count_below n q
unfolding count_below
count_below-same zero p q same = refl
count_below-same (suc n) p q same = ap₂ (λ c b. c + (if b then 1 else 0)) (count_below-same n p q same) (same n)

count_below-all : (n : ℕ) (p : ℕ → Bool) → ((k : ℕ) → p k ≡ true) → count_below n p ≡ n
unfolding count_below
count_below-all zero p all = refl
count_below-all (suc n) p all = ap₂ (λ c b. c + (if b then 1 else 0)) (count_below-all n p all) (all n) ∙ omega arith

count_below-none : (n : ℕ) (p : ℕ → Bool) → ((k : ℕ) → p k ≡ false) → count_below n p ≡ 0
unfolding count_below
count_below-none zero p none = refl
count_below-none (suc n) p none = ap₂ (λ c b. c + (if b then 1 else 0)) (count_below-none n p none) (none n)

-- the digit at the place after k is the half's digit at k
half-shr : (i k : ℕ) → i / 2 ^ suc k ≡ i / 2 / 2 ^ k
half-shr i k = ap (λ x. i / x) (pow-succ' 2 k) ∙ sym (div-div-eq-div-mul i 2 (2 ^ k))

half-lt : (i N : ℕ) → i < 2 ^ suc N → i / 2 < 2 ^ N
half-lt i N fits = shr_below i N 1 (rw add-one fits)

-- ---- zeros at the high end

positive-test : (i : ℕ) → (suc i / 1 == 0) ≡ false
positive-test i = let e = div-one (suc i) in ne_eqb (suc i / 1) 0 (λ f. absurd (omega arith))

iclz-is : (N i : ℕ) → i < 2 ^ N → iclz N i ≡ count_leading_zeros N i
unfolding iclz count_leading_zeros
iclz-is zero i fits = unfold count_below in refl
iclz-is (suc N) zero fits = count_below-all (suc N) (λ k. 0 / 2 ^ k == 0) (λ k. ap (λ x. x == 0) (zero-div (2 ^ k)))
iclz-is (suc N) (suc i) fits =
    count_below-first N (λ k. suc i / 2 ^ k == 0)
    ∙ ap₂ (λ b c. (if b then 1 else 0) + c) (positive-test i) (count_below-same N (λ k. suc i / 2 ^ suc k == 0) (λ k. suc i / 2 / 2 ^ k == 0) (λ k. ap (λ x. x == 0) (half-shr (suc i) k)))
    ∙ zero-add (iclz N (suc i / 2)) ∙ iclz-is N (suc i / 2) (half-lt (suc i) N fits)

-- ---- zeros at the low end

low-digits : (i k : ℕ) → i % 2 ^ (suc k + 1) ≡ i / 2 % 2 ^ (k + 1) * 2 + i % 2
low-digits i k = ap (λ n. i % 2 ^ n) (omega arith) ∙ mod-pow-add i (k + 1) 1

even-test : (i k : ℕ) → i % 2 ≡ 0 → (i % 2 ^ (suc k + 1) == 0) ≡ (i / 2 % 2 ^ (k + 1) == 0)
even-test i k even = let e = low-digits i k in grind (arith, nat_tests)

odd-test : (i k : ℕ) → i % 2 ≡ 1 → (i % 2 ^ (suc k + 1) == 0) ≡ false
odd-test i k odd = let e = low-digits i k in ne_eqb (i % 2 ^ (suc k + 1)) 0 (λ f. absurd (omega arith))

digit_cases : (d : ℕ) → d < 2 → (d ≡ 0) ⊎ (d ≡ 1)
digit_cases d h = ⊎_elim (λ e. inl (omega arith)) (λ e. inr (omega arith)) (cases_lt d 1)

ictz-even : (N i : ℕ) → i % 2 ≡ 0 → ictz (suc N) i ≡ suc (ictz N (i / 2))
unfolding ictz
ictz-even N i even =
    count_below-first N (λ k. i % 2 ^ (k + 1) == 0)
    ∙ ap₂ (λ b c. (if b then 1 else 0) + c) (eq-eqb (i % 2 ^ (0 + 1)) 0 even) (count_below-same N (λ k. i % 2 ^ (suc k + 1) == 0) (λ k. i / 2 % 2 ^ (k + 1) == 0) (λ k. even-test i k even))
    ∙ one-add (ictz N (i / 2))

ictz-odd : (N i : ℕ) → i % 2 ≡ 1 → ictz (suc N) i ≡ 0
unfolding ictz
ictz-odd N i odd =
    count_below-first N (λ k. i % 2 ^ (k + 1) == 0)
    ∙ ap₂ (λ b c. (if b then 1 else 0) + c) (ne_eqb (i % 2 ^ (0 + 1)) 0 (λ f. absurd (omega arith))) (count_below-none N (λ k. i % 2 ^ (suc k + 1) == 0) (λ k. odd-test i k odd))

ictz-is : (N i : ℕ) → ictz N i ≡ count_trailing_zeros N i
unfolding count_trailing_zeros
ictz-is zero i = unfold ictz count_below in refl
ictz-is (suc N) i = ⊎_elim
    (λ even. ictz-even N i even ∙ ap suc (ictz-is N (i / 2)) ∙ sym (ap (λ d. under d (count_trailing_zeros N (i / 2))) even))
    (λ odd. ictz-odd N i odd ∙ sym (ap (λ d. under d (count_trailing_zeros N (i / 2))) odd))
    (digit_cases (i % 2) (mod-lt i (zero-lt-suc 1)))

-- ---- bits that are 1

lowest-bit : (i : ℕ) → (if i / 1 % 2 == 1 then 1 else 0) ≡ i % 2
lowest-bit i = rw div-one (⊎_elim
    (λ e. ap (λ d. if d == 1 then 1 else 0) e ∙ sym e)
    (λ e. ap (λ d. if d == 1 then 1 else 0) e ∙ sym e)
    (digit_cases (i % 2) (mod-lt i (zero-lt-suc 1))))

ipopcnt-is : (N i : ℕ) → i < 2 ^ N → ipopcnt N i ≡ ones i
unfolding ipopcnt
ipopcnt-is zero i fits = let none = ones-le 0 i fits in unfold count_below in (omega arith)
ipopcnt-is (suc N) i fits =
    count_below-first N (λ k. i / 2 ^ k % 2 == 1)
    ∙ ap₂ (λ b c. b + c) (lowest-bit i) (count_below-same N (λ k. i / 2 ^ suc k % 2 == 1) (λ k. i / 2 / 2 ^ k % 2 == 1) (λ k. ap (λ x. x % 2 == 1) (half-shr i k)))
    ∙ ap (λ c. i % 2 + c) (ipopcnt-is N (i / 2) (half-lt i N fits)) ∙ sym (ones_step i)

-- ---- what the machine counts

pub clz-I32 : (t : ValType) (i : ℕ) → t ≡ I32 → i < 2 ^ bits t → count_leading_zeros 32 i ≡ iclz (bits t) i
clz-I32 I32 i e fits = sym (iclz-is 32 i fits)
clz-I32 I64 i e fits = cc

pub clz-I64 : (t : ValType) (i : ℕ) → t ≡ I64 → i < 2 ^ bits t → count_leading_zeros 64 i ≡ iclz (bits t) i
clz-I64 I32 i e fits = cc
clz-I64 I64 i e fits = sym (iclz-is 64 i fits)

pub ctz-I32 : (t : ValType) (i : ℕ) → t ≡ I32 → count_trailing_zeros 32 i ≡ ictz (bits t) i
ctz-I32 I32 i e = sym (ictz-is 32 i)
ctz-I32 I64 i e = cc

pub ctz-I64 : (t : ValType) (i : ℕ) → t ≡ I64 → count_trailing_zeros 64 i ≡ ictz (bits t) i
ctz-I64 I32 i e = cc
ctz-I64 I64 i e = sym (ictz-is 64 i)

pub popcnt-word : (t : ValType) (i : ℕ) → i < 2 ^ bits t → ones i ≡ ipopcnt (bits t) i
popcnt-word t i fits = sym (ipopcnt-is (bits t) i fits)

pub ruleset counts = (clz-I32, clz-I64, ctz-I32, ctz-I64, popcnt-word)
