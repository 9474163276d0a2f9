-- Sums over lists, and how often a number stands in one.
use Rattle.std.proofs.Common.{◌≡◌, ◌≢◌, ℕ, ◌+◌, ◌<◌, ◌≤◌, ◌++◌, List, [], ◌∷◌, length, zero, suc, refl, arith, inl, inr}
use Rattle.std.proofs.lemmas.Bool.Decides.{nat_tests}
use Rattle.std.proofs.lemmas.Bool.{cases_lt}
use Rattle.wh_space_model.specs.{tally, one_if}

pub tally-append : {X : Type 0} (w : X → ℕ) (xs ys : List X) → tally w (xs ++ ys) ≡ tally w xs + tally w ys
tally-append w [] ys = omega arith
tally-append w (x ∷ xs) ys = omega (arith, tally-append w xs ys)

pub one_same : (f g : ℕ) → f ≡ g → one_if f g ≡ 1
one_same f g h = grind (arith, nat_tests)

pub one_other : (f g : ℕ) → f ≢ g → one_if f g ≡ 0
one_other f g h = grind (arith, nat_tests)

-- how often the numbers below n stand in a list
counts_below : ℕ → List ℕ → ℕ
counts_below zero xs = 0
counts_below (suc n) xs = counts_below n xs + tally (one_if n) xs

-- each of n numbers at most once
counts_at_most : (n : ℕ) (xs : List ℕ) → ((f : ℕ) → tally (one_if f) xs ≤ 1) → counts_below n xs ≤ n
unfolding counts_below
counts_at_most zero xs once = omega arith
counts_at_most (suc n) xs once = omega (arith, counts_at_most n xs once, once n)

-- one more number counts where it is below n
counts_out : (n x : ℕ) (xs : List ℕ) → n ≤ x → counts_below n (x ∷ xs) ≡ counts_below n xs
unfolding counts_below
counts_out zero x xs out = refl
counts_out (suc n) x xs out = omega (arith, counts_out n x xs (omega arith), one_other n x (λ e. omega arith))

counts_in : (n x : ℕ) (xs : List ℕ) → x < n → counts_below n (x ∷ xs) ≡ counts_below n xs + 1
unfolding counts_below
counts_in zero x xs below = absurd (omega arith)
counts_in (suc n) x xs below =
    elim (cases_lt x n) [
      | inl less ↦ omega (arith, counts_in n x xs less, one_other n x (λ e. omega arith))
      | inr most ↦ omega (arith, counts_out n x xs most, one_same n x (omega arith))
    ]

counts_none : (n : ℕ) → counts_below n [] ≡ 0
unfolding counts_below
counts_none zero = refl
counts_none (suc n) = omega (arith, counts_none n)

-- where each number of the list is below n, all are counted
counts_all : (n : ℕ) (xs : List ℕ) → ((f : ℕ) → n ≤ f → tally (one_if f) xs ≡ 0) → counts_below n xs ≡ length xs
counts_all n [] none = counts_none n
counts_all n (x ∷ xs) none =
    let rest = counts_all n xs (λ f out. omega (arith, none f out)) in
    elim (cases_lt x n) [
      | inl less ↦ omega (arith, rest, counts_in n x xs less)
      | inr out ↦ absurd (omega (arith, none x out, one_same x x refl))
    ]

-- a list in which each number stands at most once, and only numbers below n, has at most n numbers
pub length-le_from_once : (n : ℕ) (xs : List ℕ) → ((f : ℕ) → tally (one_if f) xs ≤ 1) → ((f : ℕ) → n ≤ f → tally (one_if f) xs ≡ 0) → length xs ≤ n
length-le_from_once n xs once none = omega (arith, counts_all n xs none, counts_at_most n xs once)
