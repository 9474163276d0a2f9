-- Fractions compared by cross products.
use Rattle.std.proofs.Common.{ℕ, ◌+◌, ◌*◌, ◌-◌, ◌<◌, ◌≤◌, zero, suc, arith}
use Rattle.std.proofs.Math.Nat.{mul-pos, zero-mul, sub-zero, zero-lt-suc, lt_of_mul-lt-mul_right, mul-lt-mul_of_pos_right, mul-le-mul_right, mul_right_comm}

-- by cross products: the first is below the second, and the second at most the third
pub cross_lt : (s1 w1 s2 w2 s3 w3 : ℕ) → s1 * w2 < s2 * w1 → s2 * w3 ≤ s3 * w2 → 0 < w3 → s1 * w3 < s3 * w1
cross_lt s1 w1 s2 w2 s3 w3 below most some =
    let left : (s1 * w2) * w3 < (s2 * w1) * w3 = mul-lt-mul_of_pos_right below some in
    let right : (s2 * w3) * w1 ≤ (s3 * w2) * w1 = mul-le-mul_right w1 most in
    lt_of_mul-lt-mul_right w2 (omega (arith, mul_right_comm s1 w2 w3, mul_right_comm s2 w1 w3, mul_right_comm s3 w2 w1))

-- some pages, each at a price, have a price
pub some_price : (a p t d : ℕ) → 0 < p → 0 < t → 0 < d → 0 < a * t + (p - a) * d
some_price zero p t d pages touched idle = rw (zero-mul, sub-zero) (omega (arith, mul-pos pages idle))
some_price (suc a) p t d pages touched idle = omega (arith, mul-pos (zero-lt-suc a) touched)
