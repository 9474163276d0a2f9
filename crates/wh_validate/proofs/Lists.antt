-- Properties of each element of a list.
use Rattle.std.proofs.Common.{◌≡◌, ℕ, zero, suc, ◌<◌, List, [], ◌∷◌, length, get_or, ◌+◌, ◌⊎◌, inl, inr, ⊎_elim, slice_get, map, take, Some, refl, sym, ap, subst, ◌∙◌, arith, All}
use Rattle.std.specs.List.{AllByRecursion}

-- of a list with one element at most
pub one_all : {X : Type 0} (P : X → Type 0) (xs : List X) (d : X) → length xs < 2 → P (get_or xs 0 d) → All P xs
one_all P [] d short p = λ k e lt. absurd (omega (arith, lt))
one_all P (x ∷ []) d short p = first
  where
    first : (k : ℕ) (e : _) → k < 1 → P (get_or (x ∷ []) k e)
    first zero e lt = p
    first (suc k) e lt = absurd (omega (arith, lt))
one_all P (x ∷ y ∷ xs) d short p = absurd (omega (arith, short))

-- where an item stands
pub item_at : {X Y : Type 0} (f : X → Y) (xs : List X) (i : ℕ) → i < length xs → (y : Y) × (slice_get (map f xs) i ≡ Some y)
item_at f [] i lt = absurd (omega (arith, lt))
item_at f (x ∷ xs) zero lt = (f x, refl)
item_at f (x ∷ xs) (suc i) lt = item_at f xs i (omega (arith, lt))

pub item_below : {X Y : Type 0} (f : X → Y) (xs : List X) (i : ℕ) (y : Y) → slice_get (map f xs) i ≡ Some y → i < length xs
item_below f [] i y e = absurd (cc e)
item_below f (x ∷ xs) zero y e = omega arith
item_below f (x ∷ xs) (suc i) y e = let h = item_below f xs i y e in omega (arith, h)

pub take_whole : {X : Type 0} (xs : List X) → take (length xs) xs ≡ xs
take_whole [] = refl
take_whole (x ∷ xs) = ap (λ w. x ∷ w) (take_whole xs)

-- of each element, by place and by recursion
pub each_recursion : {X : Type 0} (P Q : X → Type 0) → ((x : X) → P x → Q x) → (xs : List X) → All P xs → AllByRecursion Q xs
each_recursion P Q f [] all = tt
each_recursion P Q f (x ∷ xs) all = (f x (all 0 x (omega arith)), each_recursion P Q f xs (λ k d lt. all (suc k) d (omega (arith, lt))))

by_place : {X : Type 0} (P : X → Type 0) (x : X) (xs : List X) → P x → All P xs → All P (x ∷ xs)
by_place P x xs p rest zero d lt = p
by_place P x xs p rest (suc k) d lt = rest k d (omega (arith, lt))

pub recursion_each : {X : Type 0} (P Q : X → Type 0) → ((x : X) → Q x → P x) → (xs : List X) → AllByRecursion Q xs → All P xs
recursion_each P Q f [] all = λ k d lt. absurd (omega (arith, lt))
recursion_each P Q f (x ∷ xs) all = by_place P x xs (f x all.0) (recursion_each P Q f xs all.1)

pub get_mapped : {X Y : Type 0} (f : X → Y) (xs : List X) (i : ℕ) (d : X) → i < length xs → slice_get (map f xs) i ≡ Some (f (get_or xs i d))
get_mapped f [] i d lt = absurd (omega (arith, lt))
get_mapped f (x ∷ xs) zero d lt = refl
get_mapped f (x ∷ xs) (suc i) d lt = get_mapped f xs i d (omega (arith, lt))

pub get_there : {X : Type 0} (xs : List X) (i : ℕ) (d : X) → i < length xs → slice_get xs i ≡ Some (get_or xs i d)
get_there [] i d lt = absurd (omega (arith, lt))
get_there (x ∷ xs) zero d lt = refl
get_there (x ∷ xs) (suc i) d lt = get_there xs i d (omega (arith, lt))

-- ---- one element more

split_last : (j k : ℕ) → j < k + 1 → (j < k) ⊎ (j ≡ k)
split_last zero zero h = inr refl
split_last zero (suc k) h = inl (omega arith)
split_last (suc j) zero h = absurd (omega (arith, h))
split_last (suc j) (suc k) h = ⊎_elim (λ p. inl (omega (arith, p))) (λ p. inr (ap suc p)) (split_last j k (omega (arith, h)))

same_default : {X : Type 0} (xs : List X) (k : ℕ) (a b : X) → k < length xs → get_or xs k a ≡ get_or xs k b
same_default [] k a b lt = absurd (omega (arith, lt))
same_default (x ∷ xs) zero a b lt = refl
same_default (x ∷ xs) (suc k) a b lt = same_default xs k a b (omega (arith, lt))

pub each_more : {X : Type 0} (P : X → Type 0) (xs : List X) (k : ℕ) (x : X) → x ≡ get_or xs k x → k < length xs → P x → ((j : ℕ) (d : X) → j < k → P (get_or xs j d)) → (j : ℕ) (d : X) → j < k + 1 → P (get_or xs j d)
each_more P xs k x at lt p before j d h =
    ⊎_elim (λ less. before j d less) (λ same. subst (λ i. P (get_or xs i d)) (sym same) (subst P (at ∙ same_default xs k x d lt) p)) (split_last j k h)
