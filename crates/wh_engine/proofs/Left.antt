-- What is kept of all, and where.
use Rattle.std.proofs.Common.{◌≡◌, ℕ, zero, suc, ◌⊎◌, inl, inr, Bool, true, false, not, cond, List, [], ◌∷◌, ◌++◌, slice_get, slice_set, Some, refl, subst}
use Rattle.std.specs.List.{filter}
use Rattle.std.proofs.lemmas.Option.{none-some, same_Some}
use Rattle.wh_engine.specs.RepresentedScript.{LeavesOut, none_there, keeps_it, leaves_it}

-- one that is kept is one of all
pub is_of_all : {A : Type 0} {over : A → Bool} {kept all : List A} → LeavesOut over kept all → (at : ℕ) (x : A) → slice_get kept at ≡ Some x
    → (j : ℕ) × (slice_get all j ≡ Some x)
is_of_all none_there at x e = absurd (none-some x e)
is_of_all (keeps_it r) zero x e = (0, e)
is_of_all (keeps_it r) (suc at) x e = let d = is_of_all r at x e in (suc d.0, d.1)
is_of_all (leaves_it passes r) at x e = let d = is_of_all r at x e in (suc d.0, d.1)

-- one of all is kept, or passes the test
abbrev pub IsKeptOrOver : {A : Type 0} → (A → Bool) → List A → A → Type 0
IsKeptOrOver over kept x = ((at : ℕ) × (slice_get kept at ≡ Some x)) ⊎ (over x ≡ true)

one_on : {A : Type 0} (over : A → Bool) (kept : List A) (y x : A) → IsKeptOrOver over kept x → IsKeptOrOver over (y ∷ kept) x
one_on over kept y x (inl p) = inl (suc p.0, p.1)
one_on over kept y x (inr o) = inr o

pub kept_or_over : {A : Type 0} {over : A → Bool} {kept all : List A} → LeavesOut over kept all → (j : ℕ) (x : A) → slice_get all j ≡ Some x
    → IsKeptOrOver over kept x
kept_or_over none_there j x e = absurd (none-some x e)
kept_or_over (keeps_it r) zero x e = inl (0, e)
kept_or_over {over = over} (keeps_it {x = y} {kept = kept} r) (suc j) x e = one_on over kept y x (kept_or_over r j x e)
kept_or_over {over = over} (leaves_it {x = y} passes r) zero x e = inr (subst (λ z. over z ≡ true) (same_Some y x e) passes)
kept_or_over (leaves_it passes r) (suc j) x e = kept_or_over r j x e

-- one more comes to both
pub one_more_kept : {A : Type 0} {over : A → Bool} {kept all : List A} (x : A) → LeavesOut over kept all → LeavesOut over (kept ++ x ∷ []) (all ++ x ∷ [])
one_more_kept x none_there = keeps_it none_there
one_more_kept x (keeps_it r) = keeps_it (one_more_kept x r)
one_more_kept x (leaves_it passes r) = leaves_it passes (one_more_kept x r)

-- one that is kept is changed, there and among all
pub one_changed : {A : Type 0} {over : A → Bool} {kept all : List A} → LeavesOut over kept all → (at : ℕ) (x y : A) → slice_get kept at ≡ Some x
    → (j : ℕ) × (slice_get all j ≡ Some x) × LeavesOut over (slice_set kept at y) (slice_set all j y)
one_changed none_there at x y e = absurd (none-some x e)
one_changed (keeps_it r) zero x y e = (0, e, keeps_it r)
one_changed (keeps_it r) (suc at) x y e = let d = one_changed r at x y e in (suc d.0, d.1, keeps_it d.2)
one_changed (leaves_it passes r) at x y e = let d = one_changed r at x y e in (suc d.0, d.1, leaves_it passes d.2)

-- those that pass are let go
pub let_go : {A : Type 0} {over : A → Bool} {kept all : List A} → LeavesOut over kept all → LeavesOut over (filter (λ x. not (over x)) kept) all
let_go none_there = none_there
let_go {over = over} (keeps_it {x = x} {kept = kept} {all = all} r) =
    let so : (over x ≡ over x) → LeavesOut over (filter (λ y. not (over y)) (x ∷ kept)) (x ∷ all) =
    elim (over x) as (λ b. (over x ≡ b) → LeavesOut over (cond (not b) (x ∷ filter (λ y. not (over y)) kept) (filter (λ y. not (over y)) kept)) (x ∷ all)) [
      | true ↦ λ e. leaves_it e (let_go r)
      | false ↦ λ e. keeps_it (let_go r)
    ] in
    so refl
let_go (leaves_it passes r) = leaves_it passes (let_go r)
