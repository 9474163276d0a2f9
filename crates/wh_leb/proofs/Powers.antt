-- Bounds of what seven more bits make.
use Rattle.std.proofs.Common.{◌≡◌, ℕ, ◌+◌, ◌-◌, ◌*◌, ◌%◌, ◌^◌, ◌≤◌, ◌<◌, min, ap, ◌∙◌, arith}
use Rattle.std.proofs.Math.Pow.{pow_mono}
use Rattle.std.proofs.lemmas.Nat.{pow-add}

pub seven_more : (bits : ℕ) → 7 < bits → 2 ^ bits ≡ 128 * 2 ^ (bits - 7)
seven_more bits lt =
    let e : bits ≡ 7 + (bits - 7) = omega arith in
    ap (λ (k : ℕ). 2 ^ k) e ∙ pow-add 2 7 (bits - 7)

pub joined_fits : (bits b high : ℕ) → 7 < bits → b < 256 → high < 2 ^ (bits - 7) → b - 128 + 128 * high < 2 ^ bits
joined_fits bits b high lt byte h = rw (seven_more bits lt) (omega arith)

pub joined_64 : (bits b high : ℕ) → 7 < bits → bits ≤ 64 → b < 256 → high < 2 ^ (bits - 7) → b - 128 + 128 * high < 2 ^ 64
joined_64 bits b high lt le byte h = omega (arith, joined_fits bits b high lt byte h, pow_mono {i = bits} {j = 64} le)

pub last_fits : (bits b m : ℕ) → m ≡ min bits 7 → b < (1 * 2 ^ m) % 18446744073709551616 → b < 2 ^ bits
last_fits bits b m e h =
    let le : m ≤ bits = omega arith in
    omega (arith, pow_mono {i = m} {j = bits} le)

-- a signed number of seven bits fewer
pub half_more : (bits : ℕ) → 7 < bits → 2 ^ (bits - 1) ≡ 128 * 2 ^ (bits - 7 - 1)
half_more bits lt =
    let e : bits - 1 ≡ 7 + (bits - 7 - 1) = omega arith in
    ap (λ (k : ℕ). 2 ^ k) e ∙ pow-add 2 7 (bits - 7 - 1)

pub half_wide : (bits : ℕ) → bits ≤ 64 → 2 ^ (bits - 1) ≤ 9223372036854775808
half_wide bits le = pow_mono {i = bits - 1} {j = 63} (omega arith)

pub half_last : (bits m : ℕ) → 0 < bits → m ≡ min bits 7 → 2 ^ (m - 1) ≤ 2 ^ (bits - 1)
half_last bits m some e = pow_mono {i = m - 1} {j = bits - 1} (omega arith)

pub half_byte : (bits m : ℕ) → 0 < bits → m ≡ min bits 7 → 2 ^ (m - 1) ≤ 64
half_byte bits m some e = pow_mono {i = m - 1} {j = 6} (omega arith)
