-- How many frames a step wants, and that what is wanted beyond its own pages is saved by sharing.
use Rattle.std.proofs.Common.{◌≡◌, ℕ, ◌+◌, ◌-◌, ◌/◌, ◌%◌, ◌≤◌, ◌⊎◌, inl, inr, cond, nat_lt, true, false, Bool, List, [], ◌∷◌, Option, Some, None, length, slice_get, get_or, zero, suc, refl, arith, rules}
use Rattle.std.proofs.lemmas.Bool.Decides.{nat_tests}
use Rattle.wh_model.specs.declared.memory.Need.{Need}
use Rattle.wh_space_model.specs.{tally, Space, sharers, below, among, copies, pages_from, pages_of_need, frames_to_write, at, page_at, shares, resident, swapped, untouched, count, count_of}
use Rattle.wh_space_model.specs.declared.states.Page.{Page}
use Rattle.wh_space_model.specs.declared.states.Page.TheVariants.{Untouched, Private, Shared, Leaving, LeavingShared, Coming, Swapped}
use Rattle.wh_space_model.proofs.Sums.{below_le}

-- one page, or this one and the next, or none
unfoldable pub OneOrTwo : List ℕ → Type 0
OneOrTwo ps = (ps ≡ []) ⊎ (((p : ℕ) × (ps ≡ p ∷ [])) ⊎ ((p : ℕ) × (ps ≡ p ∷ (p + 1) ∷ [])))

one_or_two : (b : Bool) (p : ℕ) → OneOrTwo (cond b (p ∷ (p + 1) ∷ []) (p ∷ []))
unfolding OneOrTwo
one_or_two true p = inr (inr (p, refl))
one_or_two false p = inr (inl (p, refl))

few_from : (first length : ℕ) → OneOrTwo (pages_from first length)
unfolding OneOrTwo
few_from first zero = inl refl
few_from first (suc more) = one_or_two (nat_lt 4096 (first % 4096 + suc more)) (first / 4096)

pub few_pages : (need : Need) → OneOrTwo (pages_of_need need)
few_pages need = few_from need.at need.length

-- a step has two pages at most
pub two_at_most : (ps : List ℕ) → OneOrTwo ps → length ps ≤ 2
unfolding OneOrTwo
two_at_most ps (inl e) = rw e (omega arith)
two_at_most ps (inr (inl (p, e))) = rw e (omega arith)
two_at_most ps (inr (inr (p, e))) = rw e (omega arith)

at_tally : (w : Page → ℕ) (xs : List Page) (p : ℕ) → at w (slice_get xs p) ≤ tally w xs
at_tally w [] p = omega arith
at_tally w (x ∷ xs) zero = omega arith
at_tally w (x ∷ xs) (suc p) = let k = at_tally w xs p in omega arith

-- two pages of a table are counted in it
two_tally : (w : Page → ℕ) (xs : List Page) (p : ℕ) → at w (slice_get xs p) + at w (slice_get xs (suc p)) ≤ tally w xs
two_tally w [] p = omega arith
two_tally w (x ∷ xs) zero = let k = at_tally w xs 0 in omega arith
two_tally w (x ∷ xs) (suc p) = let k = two_tally w xs p in omega arith

row_tally : (w : Page → ℕ) (tables : List (List Page)) (i : ℕ) → tally w (get_or tables i []) ≤ count w tables
row_tally w [] i = omega arith
row_tally w (xs ∷ tables) zero = omega arith
row_tally w (xs ∷ tables) (suc i) = let k = row_tally w tables i in omega arith

-- the pages of a step are among those of its instance
pub among_row : (kind : Page → ℕ) (s : Space) (i : ℕ) (ps : List ℕ) → OneOrTwo ps → among kind s i ps ≤ count_of kind s.tables i
unfolding OneOrTwo
among_row kind s i ps (inl e) = rw e (omega arith)
among_row kind s i ps (inr (inl (p, e))) = let k = at_tally kind (get_or s.tables i []) p in rw e (omega arith)
among_row kind s i ps (inr (inr (p, e))) = let k = two_tally kind (get_or s.tables i []) p in rw e (let same : suc p ≡ p + 1 = omega arith in let l = rw same at k in omega arith)

pub among_all : (kind : Page → ℕ) (s : Space) (i : ℕ) (ps : List ℕ) → OneOrTwo ps → among kind s i ps ≤ count kind s.tables
among_all kind s i ps few = let a = among_row kind s i ps few in let b = row_tally kind s.tables i in omega arith

-- a page is one of swapped, untouched and resident at most
one_kind : (x : Option Page) → (at swapped x + at untouched x) + at resident x ≤ 1
one_kind None = omega arith
one_kind (Some Untouched) = omega arith
one_kind (Some (Private f)) = omega arith
one_kind (Some (Shared f)) = omega arith
one_kind (Some (Leaving f)) = omega arith
one_kind (Some (LeavingShared f)) = omega arith
one_kind (Some (Coming f)) = omega arith
one_kind (Some (Swapped f)) = omega arith

pub kinds_of : (s : Space) (i : ℕ) (ps : List ℕ) → OneOrTwo ps → (among swapped s i ps + among untouched s i ps) + among resident s i ps ≤ 2
unfolding OneOrTwo
kinds_of s i ps (inl e) = rw e (omega arith)
kinds_of s i ps (inr (inl (p, e))) = let k = one_kind (page_at s.tables i p) in rw e (omega arith)
kinds_of s i ps (inr (inr (p, e))) = let k = one_kind (page_at s.tables i p) in let l = one_kind (page_at s.tables i (p + 1)) in rw e (omega arith)

copies_saved : (written sharing : ℕ) → written ≤ sharing → copies written sharing ≤ sharing - 1
copies_saved written sharing most = grind (arith, nat_tests)

-- what copies a step wants of shared frames, sharing has saved
pub copies_room : (s : Space) (i : ℕ) (ps : List ℕ) → OneOrTwo ps
    → below (length s.pool.frames) (λ f. copies (among (shares f) s i ps) (sharers s f)) ≤ below (length s.pool.frames) (λ f. sharers s f - 1)
copies_room s i ps few = search (rules, below_le, copies_saved, among_all)

cond_le : (b : Bool) (n : ℕ) → cond b n 0 ≤ n
cond_le true n = omega arith
cond_le false n = omega arith

pub frames_to_write_room : (s : Space) (i : ℕ) (need : Need)
    → frames_to_write s i need ≤ among untouched s i (pages_of_need need) + below (length s.pool.frames) (λ f. sharers s f - 1)
frames_to_write_room s i need = search (rules, few_pages, copies_room, cond_le)
