-- What the machine's shifts and rotations give, in the terms of the definitions.
use Rattle.std.proofs.Common.{◌≡◌, ℕ, suc, ◌+◌, ◌-◌, ◌*◌, ◌/◌, ◌%◌, ◌^◌, ◌<◌, ◌≤◌, ℤ, w32, w64, to_z, of_z, SFits, ap, ap₂, ◌∙◌, subst, arith, ⊎_elim, add-zero, mod-lt, mod-eq_of_lt, pow_pos, pow-add, lt_of_le_of_lt, lit<}
use Rattle.std.proofs.Math.Nat.{add_comm, mul-mod_left, div-le_self, div-eq_of_lt, div-eq_of_lt-le, sub-zero, mod_self, mul-one, div-one, mod-one, eq-zero-or-pos}
use Rattle.std.proofs.lemmas.Bool.{cases_lt}
use Rattle.std.proofs.lemmas.Int.{to_z-of_z}
use Rattle.std.proofs.lemmas.Nat.{mod-pow-add, shl-shr, shr_below, shr_high, div-add-mod', or_shifted, or_comm}
use Rattle.std.specs.Int.{int_shr, rotate_left, rotate_right}
use Rattle.std.specs.Int.Bits.{or_self}
use Rattle.std.specs.Int.Signed.{mag_shr}
use Rattle.std.specs.Prelude.{bit_or}
use Rattle.wh_model.proofs.Numbers.{signed-low, signed-high, pow-half, bits-pos}
use Rattle.wh_model.specs.Execution.{bits, signed, unsigned, ishl, ishr_s, irotl, irotr}
use Rattle.wh_model.specs.declared.ValType.{ValType}
use Rattle.wh_model.specs.declared.ValType.TheVariants.{I32, I64}
use Rattle.wh_intops.proofs.Words.{mod-word, signed-fits}

-- ---- shifts

pub shl-word : (t : ValType) (a b : ℕ) → (a * 2 ^ (b % bits t)) % 2 ^ 64 % 2 ^ bits t ≡ ishl (bits t) a b
unfolding ishl
shl-word t a b = mod-word t (a * 2 ^ (b % bits t))

-- the shift of a negative number that rounds down keeps the j high bits, after k copies of the sign
negative-shr : (j k a : ℕ) → a < 2 ^ (j + k) → 2 ^ (j + k) - 1 - (2 ^ (j + k) - suc a) / 2 ^ k ≡ (2 ^ k - 1) * 2 ^ j + a / 2 ^ k
negative-shr j k a fits =
    let high : a / 2 ^ k < 2 ^ j = shr_below a j k fits in
    let low = mod-lt a (pow_pos k) in
    let split = div-add-mod' a (2 ^ k) in
    let whole = pow-add 2 j k in
    let d = 2 ^ j - 1 - a / 2 ^ k in
    let above : d + a / 2 ^ k + 1 ≡ 2 ^ j = omega arith in
    let scaled = ap (λ x. x * 2 ^ k) above in
    let ones : 2 ^ k - 1 + 1 ≡ 2 ^ k = omega arith in
    let copies = ap (λ x. x * 2 ^ j) ones in
    let under : 2 ^ (j + k) - suc a ≡ d * 2 ^ k + (2 ^ k - 1 - a % 2 ^ k) = omega arith in
    let shifted : (2 ^ (j + k) - suc a) / 2 ^ k ≡ d = rw under (shr_high d k (2 ^ k - 1 - a % 2 ^ k) (omega arith)) in
    omega arith

-- the shift that rounds down is k copies of the sign bit before the high bits
module _ (N k a : ℕ) (some : 0 < N) (within : k < N) (fits : a < 2 ^ N) where
  shr-low : a < 2 ^ (N - 1) → unsigned N (int_shr (signed N a) k) ≡ a / 2 ^ (N - 1) * (2 ^ k - 1) * 2 ^ (N - k) + a / 2 ^ k
  unfolding unsigned
  shr-low low =
      let small : a / 2 ^ k < 2 ^ N = lt_of_le_of_lt (div-le_self a (2 ^ k)) fits in
      ap (λ z. unsigned N (int_shr z k)) (signed-low N a low) ∙ mod-eq_of_lt small
      ∙ rw (div-eq_of_lt low) (omega arith)

  shr-high : 2 ^ (N - 1) ≤ a → unsigned N (int_shr (signed N a) k) ≡ a / 2 ^ (N - 1) * (2 ^ k - 1) * 2 ^ (N - k) + a / 2 ^ k
  unfolding unsigned
  shr-high high =
      let parts : N - k + k ≡ N = omega arith in
      let half : 2 ^ N ≡ 2 ^ (N - 1) + 2 ^ (N - 1) = pow-half N some in
      let sign : a / 2 ^ (N - 1) ≡ 1 = div-eq_of_lt-le (2 ^ (N - 1)) (omega arith) (omega arith) in
      let small : (2 ^ N - suc a) / 2 ^ k < 2 ^ N = lt_of_le_of_lt (div-le_self (2 ^ N - suc a) (2 ^ k)) (omega arith) in
      let main = subst (λ m. a < 2 ^ m → 2 ^ m - 1 - (2 ^ m - suc a) / 2 ^ k ≡ (2 ^ k - 1) * 2 ^ (N - k) + a / 2 ^ k) parts (negative-shr (N - k) k a) fits in
      ap (λ z. unsigned N (int_shr z k)) (signed-high N a high fits) ∙ ap (λ x. 2 ^ N - 1 - x) (mod-eq_of_lt small) ∙ main
      ∙ rw sign (omega arith)

  shr-signed : unsigned N (int_shr (signed N a) k) ≡ a / 2 ^ (N - 1) * (2 ^ k - 1) * 2 ^ (N - k) + a / 2 ^ k
  shr-signed = ⊎_elim shr-low shr-high (cases_lt a (2 ^ (N - 1)))

shr_s-word : (t : ValType) (a b : ℕ) → a < 2 ^ bits t → unsigned (bits t) (int_shr (signed (bits t) a) (b % bits t)) ≡ ishr_s (bits t) a b
unfolding ishr_s
shr_s-word t a b fits = shr-signed (bits t) (b % bits t) a (bits-pos t) (mod-lt b (bits-pos t)) fits

-- a shift to the right makes no number larger
shr-fits : (z : ℤ) (k : ℕ) → SFits w64 z → SFits w64 (int_shr z k)
shr-fits z k fits = record { sfits = lt_of_le_of_lt (mag_shr z (2 ^ k)) fits.sfits }

-- the same of what the code computes: x is the operand, k the count
pub shr_s-is : (t : ValType) (a b : ℕ) (x : ℤ) (k word : ℕ) → a < 2 ^ bits t → x ≡ signed (bits t) a → k ≡ b % bits t
    → word ≡ unsigned (bits t) (to_z w64 (of_z w64 (int_shr (to_z w64 (of_z w64 x)) k))) → word ≡ ishr_s (bits t) a b
shr_s-is t a b x k word left number count result =
    let fits = signed-fits t a left in
    result ∙ ap₂ (λ y n. unsigned (bits t) (to_z w64 (of_z w64 (int_shr (to_z w64 (of_z w64 y)) n)))) number count
    ∙ ap (λ y. unsigned (bits t) (to_z w64 (of_z w64 (int_shr y (b % bits t))))) (to_z-of_z w64 (signed (bits t) a) fits)
    ∙ ap (unsigned (bits t)) (to_z-of_z w64 (int_shr (signed (bits t) a) (b % bits t)) (shr-fits (signed (bits t) a) (b % bits t) fits))
    ∙ shr_s-word t a b left

-- ---- rotations

-- a shift to the left within j + k bits keeps the j low bits
block : (j k a : ℕ) → (a * 2 ^ k) % 2 ^ (j + k) ≡ a % 2 ^ j * 2 ^ k
block j k a = mod-pow-add (a * 2 ^ k) j k ∙ ap₂ (λ x y. x % 2 ^ j * 2 ^ k + y) (shl-shr a k) (mul-mod_left a (2 ^ k)) ∙ add-zero (a % 2 ^ j * 2 ^ k)

-- the j low bits before the k high ones, as the machine puts them together, in either order
rotated : (j k a : ℕ) → a < 2 ^ (j + k) → bit_or ((a * 2 ^ k) % 2 ^ (j + k)) (a / 2 ^ j) ≡ a % 2 ^ j * 2 ^ k + a / 2 ^ j
rotated j k a fits =
    let high : a / 2 ^ j < 2 ^ k = shr_below a k j (rw add_comm fits) in
    rw (block j k a) (or_shifted (a % 2 ^ j) k (a / 2 ^ j) high)

rotated' : (j k a : ℕ) → a < 2 ^ (j + k) → bit_or (a / 2 ^ j) ((a * 2 ^ k) % 2 ^ (j + k)) ≡ a % 2 ^ j * 2 ^ k + a / 2 ^ j
rotated' j k a fits = or_comm (a / 2 ^ j) ((a * 2 ^ k) % 2 ^ (j + k)) ∙ rotated j k a fits

-- std's rotations, by a count k below the number of bits
module _ (N k a : ℕ) (within : k < N) (fits : a < 2 ^ N) where
  rotate_left-zero : k ≡ 0 → bit_or ((a * 2 ^ k) % 2 ^ N) (a / 2 ^ ((N - k) % N)) ≡ a % 2 ^ (N - k) * 2 ^ k + a / 2 ^ (N - k)
  rotate_left-zero zero_count =
      rw (zero_count, sub-zero, mod_self, mul-one a, mod-eq_of_lt fits, div-one, or_self) (rw (div-eq_of_lt fits) (omega arith))

  rotate_left-some : 0 < k → bit_or ((a * 2 ^ k) % 2 ^ N) (a / 2 ^ ((N - k) % N)) ≡ a % 2 ^ (N - k) * 2 ^ k + a / 2 ^ (N - k)
  rotate_left-some some =
      let parts : N - k + k ≡ N = omega arith in
      let rest : N - k < N = omega arith in
      rw (mod-eq_of_lt rest)
      (subst (λ m. a < 2 ^ m → bit_or ((a * 2 ^ k) % 2 ^ m) (a / 2 ^ (N - k)) ≡ a % 2 ^ (N - k) * 2 ^ k + a / 2 ^ (N - k)) parts (rotated (N - k) k a) fits)

  rotate_left-is : bit_or ((a * 2 ^ (k % N)) % 2 ^ N) (a / 2 ^ ((N - k % N) % N)) ≡ a % 2 ^ (N - k) * 2 ^ k + a / 2 ^ (N - k)
  rotate_left-is = rw (mod-eq_of_lt within) (⊎_elim rotate_left-zero rotate_left-some (eq-zero-or-pos k))

  rotate_right-zero : k ≡ 0 → bit_or (a / 2 ^ k) ((a * 2 ^ ((N - k) % N)) % 2 ^ N) ≡ a % 2 ^ k * 2 ^ (N - k) + a / 2 ^ k
  rotate_right-zero zero_count =
      rw (zero_count, sub-zero, mod_self, mul-one, mod-eq_of_lt fits, div-one, or_self) (rw mod-one (omega arith))

  rotate_right-some : 0 < k → bit_or (a / 2 ^ k) ((a * 2 ^ ((N - k) % N)) % 2 ^ N) ≡ a % 2 ^ k * 2 ^ (N - k) + a / 2 ^ k
  rotate_right-some some =
      let parts : k + (N - k) ≡ N = omega arith in
      let rest : N - k < N = omega arith in
      rw (mod-eq_of_lt rest)
      (subst (λ m. a < 2 ^ m → bit_or (a / 2 ^ k) ((a * 2 ^ (N - k)) % 2 ^ m) ≡ a % 2 ^ k * 2 ^ (N - k) + a / 2 ^ k) parts (rotated' k (N - k) a) fits)

  rotate_right-is : bit_or (a / 2 ^ (k % N)) ((a * 2 ^ ((N - k % N) % N)) % 2 ^ N) ≡ a % 2 ^ k * 2 ^ (N - k) + a / 2 ^ k
  rotate_right-is = rw (mod-eq_of_lt within) (⊎_elim rotate_right-zero rotate_right-some (eq-zero-or-pos k))

pub rotl-I32 : (t : ValType) (a b k : ℕ) → t ≡ I32 → a < 2 ^ bits t → k ≡ b % bits t → rotate_left w32 a k ≡ irotl (bits t) a b
unfolding irotl
rotl-I32 I32 a b k e fits count = rw count (rotate_left-is 32 (b % 32) a (mod-lt b (lit< tt)) fits)
rotl-I32 I64 a b k e fits count = cc

pub rotl-I64 : (t : ValType) (a b k : ℕ) → t ≡ I64 → a < 2 ^ bits t → k ≡ b % bits t → rotate_left w64 a k ≡ irotl (bits t) a b
unfolding irotl
rotl-I64 I32 a b k e fits count = cc
rotl-I64 I64 a b k e fits count = rw count (rotate_left-is 64 (b % 64) a (mod-lt b (lit< tt)) fits)

pub rotr-I32 : (t : ValType) (a b k : ℕ) → t ≡ I32 → a < 2 ^ bits t → k ≡ b % bits t → rotate_right w32 a k ≡ irotr (bits t) a b
unfolding irotr
rotr-I32 I32 a b k e fits count = rw count (rotate_right-is 32 (b % 32) a (mod-lt b (lit< tt)) fits)
rotr-I32 I64 a b k e fits count = cc

pub rotr-I64 : (t : ValType) (a b k : ℕ) → t ≡ I64 → a < 2 ^ bits t → k ≡ b % bits t → rotate_right w64 a k ≡ irotr (bits t) a b
unfolding irotr
rotr-I64 I32 a b k e fits count = cc
rotr-I64 I64 a b k e fits count = rw count (rotate_right-is 64 (b % 64) a (mod-lt b (lit< tt)) fits)

pub ruleset shifts = (shl-word, shr_s-is)

pub ruleset rotations = (rotl-I32, rotl-I64, rotr-I32, rotr-I64)
