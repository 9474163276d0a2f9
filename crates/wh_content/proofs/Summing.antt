-- Sums over marks.
use Rattle.std.proofs.Common.{◌≡◌, ℕ, zero, suc, ◌*◌, ◌<◌, ◌≤◌, ◌^◌, List, [], ◌∷◌, length, replicate, slice_set, refl, arith}
use Rattle.std.specs.List.{All}
use Rattle.wh_space_model.specs.{tally}
use Rattle.wh_space_model.specs.declared.states.Mark.{Mark}
use Rattle.wh_space_model.specs.declared.states.Mark.TheVariants.{Plain, Hint, Sharers, Unlisted}
use Rattle.wh_content.specs.Counts.{is_shared, sharers_in}

shared_one : (m : Mark) → is_shared m ≤ 1
shared_one Plain = omega arith
shared_one (Hint hash i p) = omega arith
shared_one (Sharers hash n) = omega arith
shared_one (Unlisted n) = omega arith

pub shared_most : (ms : List Mark) → tally is_shared ms ≤ length ms
shared_most [] = omega arith
shared_most (m ∷ ms) = let one = shared_one m in let rest = shared_most ms in omega (arith, one, rest)

pub sharers_most : (ms : List Mark) → All (λ m. sharers_in m < 2 ^ 32) ms → tally sharers_in ms ≤ length ms * 4294967295
sharers_most [] small = omega arith
sharers_most (m ∷ ms) small =
    let one : sharers_in m < 4294967296 = small zero m (omega arith) in
    let rest = sharers_most ms (λ k d below. small (suc k) d (omega (arith, below))) in
    omega (arith, one, rest)

pub none_plain : (w : Mark → ℕ) (n : ℕ) → w Plain ≡ 0 → tally w (replicate n Plain) ≡ 0
none_plain w zero none = refl
none_plain w (suc n) none = let rest = none_plain w n none in omega (arith, none, rest)

pub plain_small : (n : ℕ) → All (λ m. sharers_in m < 2 ^ 32) (replicate n Plain)
plain_small zero k d below = absurd (omega (arith, below))
plain_small (suc n) zero d below = omega arith
plain_small (suc n) (suc k) d below = plain_small n k d (omega (arith, below))

pub set_small : (ms : List Mark) (i : ℕ) (x : Mark) → All (λ m. sharers_in m < 2 ^ 32) ms → sharers_in x < 2 ^ 32 → All (λ m. sharers_in m < 2 ^ 32) (slice_set ms i x)
set_small [] i x small one k d below = absurd (omega (arith, below))
set_small (m ∷ ms) zero x small one zero d below = one
set_small (m ∷ ms) zero x small one (suc k) d below = small (suc k) d (omega (arith, below))
set_small (m ∷ ms) (suc i) x small one zero d below = small zero d (omega arith)
set_small (m ∷ ms) (suc i) x small one (suc k) d below = set_small ms i x (λ k d below. small (suc k) d (omega (arith, below))) one k d (omega (arith, below))
