-- Faults that are split among pairs.
use Rattle.std.proofs.Common.{◌≡◌, ℕ, zero, suc, List, [], ◌∷◌, Option, Some, None, get_or, slice_set, refl, subst, rules}
use Rattle.std.specs.List.{AllZip}
use Rattle.wh_script_model.specs.{AreMixed, none_left, one_own, one_other, ZipAmid}

pub mixed_others : (all : List ℕ) → AreMixed [] all all
mixed_others [] = none_left
mixed_others (f ∷ all) = one_other (mixed_others all)

pub mixed_nothing : (own others : List ℕ) → AreMixed own others [] → (own ≡ []) × (others ≡ [])
mixed_nothing _ _ none_left = (refl, refl)

-- pairs that need none of the faults
pub zip_none : {A B : Type 0} (P : A → B → Type 0) (R : List ℕ → A → B → Type 0) → ((a : A) (b : B) → P a b → R [] a b)
    → (faults : List ℕ) (xs : List A) (ys : List B) → AllZip P xs ys → ZipAmid R faults xs ys
zip_none P R so faults [] [] h = tt
zip_none P R so faults [] (y ∷ ys) h = absurd h
zip_none P R so faults (x ∷ xs) [] h = absurd h
zip_none P R so faults (x ∷ xs) (y ∷ ys) h = ([], faults, mixed_others faults, so x y h.0, zip_none P R so faults xs ys h.1)

pub zip_amid_so : {A B : Type 0} (R S : List ℕ → A → B → Type 0) → ((own : List ℕ) (a : A) (b : B) → R own a b → S own a b)
    → (faults : List ℕ) (xs : List A) (ys : List B) → ZipAmid R faults xs ys → ZipAmid S faults xs ys
zip_amid_so R S so faults [] [] h = tt
zip_amid_so R S so faults [] (y ∷ ys) h = absurd h
zip_amid_so R S so faults (x ∷ xs) [] h = absurd h
zip_amid_so R S so faults (x ∷ xs) (y ∷ ys) h = (h.0, h.1, h.2, so h.0 x y h.3, zip_amid_so R S so h.1 xs ys h.4)

-- a fault that no pair takes
pub zip_more : {A B : Type 0} (R : List ℕ → A → B → Type 0) (f : ℕ) (faults : List ℕ) (xs : List A) (ys : List B)
    → ZipAmid R faults xs ys → ZipAmid R (f ∷ faults) xs ys
zip_more R f faults [] [] h = tt
zip_more R f faults [] (y ∷ ys) h = absurd h
zip_more R f faults (x ∷ xs) [] h = absurd h
zip_more R f faults (x ∷ xs) (y ∷ ys) h = (h.0, f ∷ h.1, one_other h.2, h.3, zip_more R f h.1 xs ys h.4)

-- one of the second list changes
pub zip_amid_set : {A B : Type 0} (R S : List ℕ → A → Option B → Type 0) (t t2 : B) → ((own : List ℕ) (a : A) (o : Option B) → R own a o → S own a o)
    → ((own : List ℕ) (a : A) → R own a (Some t) → S own a (Some t2)) → (faults : List ℕ) (xs : List A) (ys : List (Option B)) (i : ℕ) → get_or ys i None ≡ Some t
    → ZipAmid R faults xs ys → ZipAmid S faults xs (slice_set ys i (Some t2))
zip_amid_set R S t t2 so changed faults [] [] i there h = tt
zip_amid_set R S t t2 so changed faults [] (y ∷ ys) i there h = absurd h
zip_amid_set R S t t2 so changed faults (x ∷ xs) [] i there h = absurd h
zip_amid_set R S t t2 so changed faults (x ∷ xs) (y ∷ ys) zero there h = search (rules, zip_amid_so)
zip_amid_set R S t t2 so changed faults (x ∷ xs) (y ∷ ys) (suc i) there h =
    (h.0, h.1, h.2, so h.0 x y h.3, zip_amid_set R S t t2 so changed h.1 xs ys i there h.4)

-- and takes one more fault
pub zip_given : {A B : Type 0} (R S : List ℕ → A → Option B → Type 0) (f : ℕ) (t t2 : B) → ((own : List ℕ) (a : A) (o : Option B) → R own a o → S own a o)
    → ((own : List ℕ) (a : A) → R own a (Some t) → S (f ∷ own) a (Some t2)) → (faults : List ℕ) (xs : List A) (ys : List (Option B)) (i : ℕ) → get_or ys i None ≡ Some t
    → ZipAmid R faults xs ys → ZipAmid S (f ∷ faults) xs (slice_set ys i (Some t2))
zip_given R S f t t2 so changed faults [] [] i there h = tt
zip_given R S f t t2 so changed faults [] (y ∷ ys) i there h = absurd h
zip_given R S f t t2 so changed faults (x ∷ xs) [] i there h = absurd h
zip_given R S f t t2 so changed faults (x ∷ xs) (y ∷ ys) zero there h =
    (f ∷ h.0, h.1, one_own h.2, changed h.0 x (subst (R h.0 x) there h.3), zip_amid_so R S so h.1 xs ys h.4)
zip_given R S f t t2 so changed faults (x ∷ xs) (y ∷ ys) (suc i) there h =
    (h.0, f ∷ h.1, one_other h.2, so h.0 x y h.3, zip_given R S f t t2 so changed h.1 xs ys i there h.4)
