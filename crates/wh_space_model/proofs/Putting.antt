-- Lists of lists in which one element is another now, and sums over them.
use Rattle.std.proofs.Common.{◌≡◌, ◌≢◌, ℕ, ◌+◌, ◌<◌, ◌≤◌, ◌==◌, ◌⊎◌, cond, List, [], ◌∷◌, Some, length, slice_get, slice_set, get_or, zero, suc, refl, ap, arith}
use Rattle.std.proofs.lemmas.Bool.Decides.{nat_tests}
use Rattle.wh_space_model.specs.{tally, one_if, pinned_by, page_at, put, count, count_of}
use Rattle.wh_space_model.specs.declared.states.Page.{Page}
use Rattle.wh_space_model.proofs.Sums.{get_tally, set_tally}

pub here_or : (n p : ℕ) → (p ≡ n) ⊎ (p ≢ n)
here_or n p = grind (arith, nat_tests)

pub cond_here : {X : Type 0} (i : ℕ) (a b : X) → cond (i == i) a b ≡ a
cond_here i a b = grind (arith, nat_tests)

pub cond_other : {X : Type 0} (i j : ℕ) (a b : X) → j ≢ i → cond (i == j) a b ≡ b
cond_other i j a b other = grind (arith, nat_tests)

pub pinned_here : (i : ℕ) (pages frames : List ℕ) → pinned_by (Some (record { place = i; pages = pages; frames = frames })) i ≡ pages
pinned_here i pages frames = cond_here i pages []

pub pinned_other : (i j p : ℕ) (pages frames : List ℕ) → j ≢ i → tally (one_if p) (pinned_by (Some (record { place = i; pages = pages; frames = frames })) j) ≡ 0
pinned_other i j p pages frames other = let e : pinned_by (Some (record { place = i; pages = pages; frames = frames })) j ≡ [] = cond_other i j pages [] other in rw e refl

-- another page than the one that was put
put_row : {X : Type 0} (xs : List X) (p q : ℕ) (x : X) → q ≢ p → slice_get (slice_set xs p x) q ≡ slice_get xs q
put_row [] p q x other = refl
put_row (y ∷ xs) zero zero x other = absurd (other refl)
put_row (y ∷ xs) zero (suc q) x other = refl
put_row (y ∷ xs) (suc p) zero x other = refl
put_row (y ∷ xs) (suc p) (suc q) x other = put_row xs p q x (λ e. other (ap suc e))

pub put_other_row : {X : Type 0} (xss : List (List X)) (j p i : ℕ) (x : X) → i ≢ j → get_or (put xss j p x) i [] ≡ get_or xss i []
put_other_row [] j p i x other = refl
put_other_row (xs ∷ xss) zero p zero x other = absurd (other refl)
put_other_row (xs ∷ xss) zero p (suc i) x other = refl
put_other_row (xs ∷ xss) (suc j) p zero x other = refl
put_other_row (xs ∷ xss) (suc j) p (suc i) x other = put_other_row xss j p i x (λ e. other (ap suc e))

pub put_other : {X : Type 0} (xss : List (List X)) (j p q : ℕ) (x : X) → q ≢ p → page_at (put xss j p x) j q ≡ page_at xss j q
put_other [] j p q x other = refl
put_other (xs ∷ xss) zero p q x other = put_row xs p q x other
put_other (xs ∷ xss) (suc j) p q x other = put_other xss j p q x other

pub put_this : {X : Type 0} (xss : List (List X)) (j p : ℕ) (x y : X) → page_at xss j p ≡ Some x → page_at (put xss j p y) j p ≡ Some y
put_this [] j p x y h = cc
put_this (xs ∷ xss) zero p x y h = go xs p h where
  go : {X : Type 0} {x y : X} (xs : List X) (p : ℕ) → slice_get xs p ≡ Some x → slice_get (slice_set xs p y) p ≡ Some y
  go [] p h = cc
  go (z ∷ xs) zero h = refl
  go (z ∷ xs) (suc p) h = go xs p h
put_this (xs ∷ xss) (suc j) p x y h = put_this xss j p x y h

pub row_put : (w : Page → ℕ) (xss : List (List Page)) (j p : ℕ) (x y : Page) → page_at xss j p ≡ Some x → count_of w (put xss j p y) j + w x ≡ count_of w xss j + w y
row_put w [] j p x y h = cc
row_put w (xs ∷ xss) zero p x y h = set_tally w xs p x y h
row_put w (xs ∷ xss) (suc j) p x y h = row_put w xss j p x y h

pub get_pages : (w : Page → ℕ) (xss : List (List Page)) (i p : ℕ) (x : Page) → page_at xss i p ≡ Some x → w x ≤ count w xss
get_pages w [] i p x h = cc
get_pages w (xs ∷ xss) zero p x h = let k = get_tally w xs p x h in omega arith
get_pages w (xs ∷ xss) (suc i) p x h = let k = get_pages w xss i p x h in omega arith

pub set_same : {X : Type 0} (xs : List X) (i : ℕ) (y : X) → i < length xs → slice_get (slice_set xs i y) i ≡ Some y
set_same [] i y h = absurd (omega arith)
set_same (z ∷ xs) zero y h = refl
set_same (z ∷ xs) (suc i) y h = set_same xs i y (omega arith)

pub set_other : {X : Type 0} (xs : List X) (i j : ℕ) (y : X) → j ≢ i → slice_get (slice_set xs i y) j ≡ slice_get xs j
set_other [] i j y n = refl
set_other (z ∷ xs) zero zero y n = absurd (n refl)
set_other (z ∷ xs) zero (suc j) y n = refl
set_other (z ∷ xs) (suc i) zero y n = refl
set_other (z ∷ xs) (suc i) (suc j) y n = set_other xs i j y (λ e. n (ap suc e))

pub there_of : {X : Type 0} (xs : List X) (k : ℕ) (x : X) → slice_get xs k ≡ Some x → k < length xs
there_of [] k x h = cc
there_of (y ∷ xs) zero x h = omega arith
there_of (y ∷ xs) (suc k) x h = let r = there_of xs k x h in omega arith

pub is_page : {X : Type 0} (t : List (List X)) (j p : ℕ) (x : X) → page_at t j p ≡ Some x → (j < length t) × (p < length (get_or t j []))
is_page [] j p x h = cc
is_page (xs ∷ t) zero p x h = (omega arith, there_of xs p x h)
is_page (xs ∷ t) (suc j) p x h = let r = is_page t j p x h in (omega (arith, r.0), r.1)

pub get_or_is : {X : Type 0} (xs : List X) (i : ℕ) (x none : X) → slice_get xs i ≡ Some x → get_or xs i none ≡ x
get_or_is [] i x none h = cc
get_or_is (y ∷ xs) zero x none h = let e : y ≡ x = cc in cc
get_or_is (y ∷ xs) (suc i) x none h = get_or_is xs i x none h
