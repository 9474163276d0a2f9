-- Where a name stands.
use Rattle.std.proofs.Common.{arith, ◌≡◌, ◌≢◌, ◌⊎◌, ◌∙◌, ℕ, zero, suc, ◌+◌, ◌<◌, List, [], ◌∷◌, ◌++◌, length, take, slice_get, Bool, true, false, cond, Option, Some, None, option_map, bytes_eq, refl, sym, ap, inl, inr, ⊎_elim}
use Rattle.std.proofs.lemmas.Option.{same_Some}
use Rattle.std.proofs.lemmas.Slice.Eq.{bytes_eq-Decides}
use Rattle.wh_names.specs.NamePlaces.{place_of_name, AreNamedOnce}

-- the place of a name, first in a list or behind its first
abbrev at_or_behind : Bool → Option ℕ → Option ℕ
at_or_behind b o = cond b (Some 0) (option_map (λ k. k + 1) o)

stays_none : (b : Bool) (o : Option ℕ) → at_or_behind b o ≡ None → (b ≡ false) × (o ≡ None)
stays_none true o e = absurd (cc e)
stays_none false None e = (refl, refl)
stays_none false (Some k) e = absurd (cc e)

is_at : (b : Bool) (o : Option ℕ) (k : ℕ) → at_or_behind b o ≡ Some k
    → ((b ≡ true) × (k ≡ 0)) ⊎ ((j : ℕ) × (o ≡ Some j) × (k ≡ suc j))
is_at true o k e = inl (refl, sym (same_Some 0 k e))
is_at false None k e = absurd (cc e)
is_at false (Some j) k e = inr (j, refl, (let same = same_Some (j + 1) k e in omega (arith, same)))

is_false : (b : Bool) → (b ≡ true → ⊥) → b ≡ false
is_false true never = absurd (never refl)
is_false false never = refl

-- ---- what a place says

pub none_there : (names : List (List ℕ)) (name : List ℕ) → place_of_name names name ≡ None → (k : ℕ)
    → slice_get names k ≢ Some name
none_there [] name e k has = absurd (cc has)
none_there (x ∷ names) name e zero has =
    let split = stays_none (bytes_eq x name) (place_of_name names name) e in
    let is = (bytes_eq-Decides x name).1 (same_Some x name has) in
    absurd (cc (split.0, is))
none_there (x ∷ names) name e (suc k) has =
    none_there names name (stays_none (bytes_eq x name) (place_of_name names name) e).1 k has

pub found : (names : List (List ℕ)) (name : List ℕ) (k : ℕ) → place_of_name names name ≡ Some k → slice_get names k ≡ Some name
found [] name k e = absurd (cc e)
found (x ∷ names) name k e =
    ⊎_elim
    (λ is. ap (slice_get (x ∷ names)) is.1 ∙ ap (λ y. Some y) ((bytes_eq-Decides x name).0 is.0))
    (λ is. ap (slice_get (x ∷ names)) is.2 ∙ found names name is.0 is.1)
    (is_at (bytes_eq x name) (place_of_name names name) k e)

-- ---- which place it is

pub place_none : (names : List (List ℕ)) (name : List ℕ) → ((k : ℕ) → slice_get names k ≢ Some name)
    → place_of_name names name ≡ None
place_none [] name none = refl
place_none (x ∷ names) name none =
    let not_first : bytes_eq x name ≡ false =
    is_false (bytes_eq x name) (λ e. none 0 (ap (λ y. Some y) ((bytes_eq-Decides x name).0 e))) in
    ap (λ b. at_or_behind b (place_of_name names name)) not_first
    ∙ ap (option_map (λ k. k + 1)) (place_none names name (λ k. none (suc k)))

pub place_first : (names : List (List ℕ)) (name : List ℕ) (k : ℕ) → ((i : ℕ) → i < k → slice_get names i ≢ Some name)
    → slice_get names k ≡ Some name → place_of_name names name ≡ Some k
place_first [] name k none has = absurd (cc has)
place_first (x ∷ names) name zero none has =
    ap (λ b. at_or_behind b (place_of_name names name)) ((bytes_eq-Decides x name).1 (same_Some x name has))
place_first (x ∷ names) name (suc k) none has =
    let not_first : bytes_eq x name ≡ false =
    is_false (bytes_eq x name) (λ e. none 0 (omega arith) (ap (λ y. Some y) ((bytes_eq-Decides x name).0 e))) in
    let later = place_first names name k (λ i less. none (suc i) (omega arith)) has in
    let next : k + 1 ≡ suc k = omega arith in
    ap (λ b. at_or_behind b (place_of_name names name)) not_first
    ∙ ap (option_map (λ j. j + 1)) later
    ∙ ap (λ j. Some j) next

-- ---- names that stand once

pub place_is : (names : List (List ℕ)) (name : List ℕ) (k : ℕ) → AreNamedOnce names → slice_get names k ≡ Some name
    → place_of_name names name ≡ Some k
place_is names name k apart has =
    place_first names name k (λ i less there. let same = apart name i k there has in omega (arith, same, less)) has

was_there : {A : Type 0} (xs : List A) (y x : A) (i : ℕ) → slice_get (xs ++ y ∷ []) i ≡ Some x
    → (slice_get xs i ≡ Some x) ⊎ ((y ≡ x) × (i ≡ length xs))
was_there [] y x zero e = inr (cc e, refl)
was_there [] y x (suc i) e = absurd (cc e)
was_there (z ∷ xs) y x zero e = inl e
was_there (z ∷ xs) y x (suc i) e = further (was_there xs y x i e)
  where
    further : (slice_get xs i ≡ Some x) ⊎ ((y ≡ x) × (i ≡ length xs))
        → (slice_get xs i ≡ Some x) ⊎ ((y ≡ x) × (suc i ≡ length (z ∷ xs)))
    further (inl h) = inl h
    further (inr h) = inr (h.0, omega (arith, h.1))

pub apart_more : (names : List (List ℕ)) (name : List ℕ) → AreNamedOnce names → place_of_name names name ≡ None
    → AreNamedOnce (names ++ name ∷ [])
apart_more names name apart free other i k has also =
    ⊎_elim
    (λ first. ⊎_elim
    (λ second. apart other i k first second)
    (λ second. absurd (none_there names name free i (first ∙ ap (λ y. Some y) (sym second.0))))
    (was_there names name other k also))
    (λ first. ⊎_elim
    (λ second. absurd (none_there names name free k (second ∙ ap (λ y. Some y) (sym first.0))))
    (λ second. first.1 ∙ sym second.1)
    (was_there names name other k also))
    (was_there names name other i has)

in_whole : {A : Type 0} (n : ℕ) (xs : List A) (i : ℕ) (x : A) → slice_get (take n xs) i ≡ Some x → slice_get xs i ≡ Some x
in_whole zero xs i x e = absurd (cc e)
in_whole (suc n) [] i x e = e
in_whole (suc n) (y ∷ xs) zero x e = e
in_whole (suc n) (y ∷ xs) (suc i) x e = in_whole n xs i x e

pub apart_take : (names : List (List ℕ)) (n : ℕ) → AreNamedOnce names → AreNamedOnce (take n names)
apart_take names n apart other i k has also =
    apart other i k (in_whole n names i other has) (in_whole n names k other also)
