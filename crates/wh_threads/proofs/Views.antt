-- Sums over what the passes of a ruled structure know.
use Rattle.std.proofs.Common.{◌≡◌, ℕ, zero, suc, ◌+◌, ◌≤◌, List, [], ◌∷◌, ◌++◌, set, sym, ap, arith}
use mathlib.Core.Option.{some, some-ne-none, some-injective}
use lib.ListN.{get_elem?}
use Rattle.std.specs.List.{sum_by}
use Rattle.std.proofs.lemmas.List.Sums.{sum_by-cons, sum_by-append}

-- one view changes
pub sum_by-view : {V : Type 0} (f : V → ℕ) (views : List V) (pass : ℕ) (v w : V) → get_elem? views pass ≡ some v
    → sum_by f (set views pass w) + f v ≡ sum_by f views + f w
sum_by-view f [] pass v w at = absurd (some-ne-none v (sym at))
sum_by-view f (x ∷ xs) zero v w at =
    let same : f x ≡ f v = ap f (some-injective x v at) in
    omega (arith, same, sum_by-cons f x xs, sum_by-cons f w xs)
sum_by-view f (x ∷ xs) (suc pass) v w at =
    omega (arith, sum_by-view f xs pass v w at, sum_by-cons f x xs, sum_by-cons f x (set xs pass w))

-- one view more
pub sum_by-new : {V : Type 0} (f : V → ℕ) (views : List V) (w : V) → sum_by f (views ++ w ∷ []) ≡ sum_by f views + f w
sum_by-new f views w = omega (arith, sum_by-append f views (w ∷ []), sum_by-cons f w [])

-- one view has no more than all
pub sum_by-one : {V : Type 0} (f : V → ℕ) (views : List V) (pass : ℕ) (v : V) → get_elem? views pass ≡ some v
    → f v ≤ sum_by f views
sum_by-one f [] pass v at = absurd (some-ne-none v (sym at))
sum_by-one f (x ∷ xs) zero v at =
    let same : f x ≡ f v = ap f (some-injective x v at) in omega (arith, same, sum_by-cons f x xs)
sum_by-one f (x ∷ xs) (suc pass) v at = omega (arith, sum_by-one f xs pass v at, sum_by-cons f x xs)
