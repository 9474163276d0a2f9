-- Facts of elements and their places.
use Rattle.std.proofs.Common.{◌≡◌, ℕ, zero, suc, List, [], ◌∷◌, ◌++◌, Some, inl, inr, ◌⊎◌, ⊎_elim, slice_get, length, refl, ap}
use Rattle.wh_workers.specs.EachAt.{EachAt}

get_new : {X : Type 0} (xs : List X) (x : X) (i : ℕ) (y : X) → slice_get (xs ++ x ∷ []) i ≡ Some y
    → (slice_get xs i ≡ Some y) ⊎ ((i ≡ length xs) × (x ≡ y))
get_new [] x zero y at = inr (refl, cc)
get_new [] x (suc i) y at = cc
get_new (z ∷ xs) x zero y at = inl at
get_new (z ∷ xs) x (suc i) y at = ⊎_elim (λ a. inl a) (λ b. inr (ap suc b.0, b.1)) (get_new xs x i y at)

-- one element more
pub Each-new : {H : Type 0} (xs ys : List H) (h : H) (P : ℕ → H → Type 0) → ys ≡ xs ++ h ∷ [] → EachAt xs P
    → P (length xs) h → EachAt ys P
Each-new xs ys h P is all last = λ i y at.
    ⊎_elim (λ a. all i y a) (λ b. rw (b.0, ← b.1) last) (get_new xs h i y (rw (← is) at))
