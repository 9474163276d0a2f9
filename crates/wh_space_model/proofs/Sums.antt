-- Sums over numbers and over lists.
use Rattle.std.proofs.Common.{◌≡◌, ℕ, ◌+◌, ◌<◌, ◌≤◌, inl, inr, List, [], ◌∷◌, Some, length, slice_get, slice_set, get_or, zero, suc, refl, arith}
use Rattle.std.proofs.lemmas.Bool.Decides.{nat_tests}
use Rattle.std.proofs.lemmas.Bool.{cases_lt}
use Rattle.wh_space_model.specs.{tally, one_if, below, page_at, put}
use Rattle.wh_space_model.proofs.Tally.{one_other}

pub below_le : (n : ℕ) (v w : ℕ → ℕ) → ((k : ℕ) → k < n → v k ≤ w k) → below n v ≤ below n w
below_le zero v w each = omega arith
below_le (suc n) v w each = let rest = below_le n v w (λ k less. each k (omega arith)) in let one = each n (omega arith) in omega arith

pub below_plus : (n : ℕ) (v w : ℕ → ℕ) → below n (λ k. v k + w k) ≡ below n v + below n w
below_plus zero v w = refl
below_plus (suc n) v w = let rest = below_plus n v w in omega arith

pub below_zero : (n : ℕ) → below n (λ k. 0) ≡ 0
below_zero zero = refl
below_zero (suc n) = let rest = below_zero n in omega arith

pub below_count : (n : ℕ) → below n (λ k. 1) ≡ n
below_count zero = refl
below_count (suc n) = let rest = below_count n in omega arith

below_out : (n x : ℕ) → n ≤ x → below n (λ k. one_if k x) ≡ 0
below_out zero x out = refl
below_out (suc n) x out = let rest = below_out n x (omega arith) in let no = one_other n x (λ e. omega arith) in omega arith

-- a number is counted once at most
pub below_one : (n x : ℕ) → below n (λ k. one_if k x) ≤ 1
below_one zero x = omega arith
below_one (suc n) x =
    elim (cases_lt x n) [
      | inl less ↦ let rest = below_one n x in let no = one_other n x (λ e. omega arith) in omega arith
      | inr most ↦ let rest = below_out n x most in (grind (arith, nat_tests, rest))
    ]

-- sums over numbers and a list may be taken in either order
pub below_tally : {X : Type 0} (n : ℕ) (g : ℕ → X → ℕ) (xs : List X) → below n (λ k. tally (g k) xs) ≡ tally (λ x. below n (λ k. g k x)) xs
below_tally n g [] = below_zero n
below_tally n g (x ∷ xs) = let rest = below_tally n g xs in let parts = below_plus n (λ k. g k x) (λ k. tally (g k) xs) in omega arith

pub tally_le : {X : Type 0} (v w : X → ℕ) (xs : List X) → ((x : X) → v x ≤ w x) → tally v xs ≤ tally w xs
tally_le v w [] each = omega arith
tally_le v w (x ∷ xs) each = let rest = tally_le v w xs each in let one = each x in omega arith

pub tally_plus : {X : Type 0} (v w : X → ℕ) (xs : List X) → tally (λ x. v x + w x) xs ≡ tally v xs + tally w xs
tally_plus v w [] = refl
tally_plus v w (x ∷ xs) = let rest = tally_plus v w xs in omega arith

pub tally_ones : {X : Type 0} (xs : List X) → tally (λ x. 1) xs ≡ length xs
tally_ones [] = refl
tally_ones (x ∷ xs) = let rest = tally_ones xs in omega arith

-- of the numbers below n, a list has no more than its length
pub below_list : (n : ℕ) (xs : List ℕ) → below n (λ k. tally (one_if k) xs) ≤ length xs
below_list n xs =
    let swap = below_tally n (λ k x. one_if k x) xs in
    let each = tally_le (λ x. below n (λ k. one_if k x)) (λ x. 1) xs (λ x. below_one n x) in
    let ones = tally_ones xs in
    omega arith

pub get_tally : {X : Type 0} (w : X → ℕ) (xs : List X) (i : ℕ) (x : X) → slice_get xs i ≡ Some x → w x ≤ tally w xs
get_tally w [] i x h = cc
get_tally w (y ∷ xs) zero x h = let e : y ≡ x = cc in rw e (omega arith)
get_tally w (y ∷ xs) (suc i) x h = let k = get_tally w xs i x h in omega arith

pub set_tally : {X : Type 0} (w : X → ℕ) (xs : List X) (i : ℕ) (x y : X) → slice_get xs i ≡ Some x → tally w (slice_set xs i y) + w x ≡ tally w xs + w y
set_tally w [] i x y h = cc
set_tally w (z ∷ xs) zero x y h = let e : z ≡ x = cc in rw e (omega arith)
set_tally w (z ∷ xs) (suc i) x y h = let k = set_tally w xs i x y h in omega arith

pub put_tally : {X : Type 0} (w : X → ℕ) (xss : List (List X)) (i p : ℕ) (x y : X) → page_at xss i p ≡ Some x → tally (tally w) (put xss i p y) + w x ≡ tally (tally w) xss + w y
put_tally w [] i p x y h = cc
put_tally w (xs ∷ xss) zero p x y h = let k = set_tally w xs p x y h in omega arith
put_tally w (xs ∷ xss) (suc i) p x y h = let k = put_tally w xss i p x y h in omega arith

-- two lists side by side: what w gives for each of the first is at most what m gives for the second's
pub beside : {X Y : Type 0} (none : X) (w : X → ℕ) (m : Y → ℕ) (xs : List X) (ys : List Y) → length xs ≡ length ys
    → ((i : ℕ) (y : Y) → slice_get ys i ≡ Some y → w (get_or xs i none) ≤ m y) → tally w xs ≤ tally m ys
beside none w m [] [] same each = omega arith
beside none w m [] (y ∷ ys) same each = absurd (omega arith)
beside none w m (x ∷ xs) [] same each = absurd (omega arith)
beside none w m (x ∷ xs) (y ∷ ys) same each =
    let one : w x ≤ m y = each 0 y refl in
    let rest = beside none w m xs ys (omega arith) (λ i z at. each (suc i) z at) in
    omega arith
