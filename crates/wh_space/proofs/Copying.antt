-- Pages that are lent, one after the other.
use Rattle.std.proofs.Common.{◌≡◌, ◌≢◌, ℕ, zero, suc, ◌+◌, ◌*◌, ◌<◌, ◌≤◌, inl, inr, List, [], ◌∷◌, replicate, Option, Some, None, length, get_or, slice_get, refl, sym, ap, subst, ◌∙◌, arith, rules}
use Rattle.std.proofs.lemmas.Bool.{cases_lt}
use Rattle.wh_space_model.specs.declared.states.Page.{Page}
use Rattle.wh_space_model.specs.declared.states.Page.TheVariants.{Untouched, Private, Shared, Leaving, LeavingShared, Coming, Swapped}
use Rattle.wh_space_model.specs.{stays, IsAway, Lends, LendsFirst, LendsPage, Claimed, Occupant, Space, Enters, IsSound, page_at, put, untouched}
use Rattle.wh_space_model.proofs.Forked.{entered_row}
use Rattle.wh_space_model.proofs.Putting.{here_or, put_other, put_other_row}
use Rattle.wh_space_model.proofs.Rooms.{get_there}
use Rattle.wh_space_model.proofs.Rows.{past_there}
use Rattle.wh_space.specs.Lendable.{MayLend}
use Rattle.wh_space.specs.Merges.{HasFewPages}

put_apart : (t : List (List Page)) (i p k q : ℕ) (x : Page) → q ≢ p → page_at (put t i p x) k q ≡ page_at t k q
put_apart t i p k q x other = search (rules, here_or, put_other, put_other_row)

-- other pages stay, and frames and slots are as many
pub record LendsOne (s : Space) (p : ℕ) (s2 : Space) : Type 0 where
  pub pages : (k q : ℕ) → q ≢ p → page_at s2.tables k q ≡ page_at s.tables k q
  pub few : HasFewPages s → HasFewPages s2

one_page : (s : Space) (i j p : ℕ) (page : Page) (s2 : Space) → LendsPage s i j p page s2 → LendsOne s p s2
one_page s i j p Untouched s2 is = subst (LendsOne s p) (sym is) (record { pages = λ k q other. refl; few = λ h. h })
one_page s i j p (Private f) s2 is = search (rules, put_apart)
one_page s i j p (Shared f) s2 is = subst (LendsOne s p) (sym is) (record { pages = λ k q other. put_apart s.tables j p k q (Shared f) other; few = λ h. h })
one_page s i j p (Leaving f) s2 is = absurd is
one_page s i j p (LeavingShared f) s2 is = absurd is
one_page s i j p (Coming k) s2 is = absurd is
one_page s i j p (Swapped k) s2 is = absurd is

-- after the first n of m pages the others are still to be lent
pub record IsLending (s : Space) (i j n m : ℕ) (s2 : Space) : Type 0 where
  pub lends : LendsFirst s i j n s2
  pub few : HasFewPages s2
  pub here : (p : ℕ) → n ≤ p → p < m → MayLend s2 i p
  pub onto : (p : ℕ) → n ≤ p → p < m → page_at s2.tables j p ≡ Some Untouched

next_lent : (s : Space) (i j n m : ℕ) (mid s2 : Space) → IsLending s i j n m mid → Lends mid i j n s2 → IsLending s i j (suc n) m s2
next_lent s i j n m mid s2 old l =
    let one = one_page mid i j n l.page s2 l.lends in
    record {
      lends = (mid, old.lends, l);
      few = one.few old.few;
      here = λ p low less. (let was = old.here p (omega (arith, low)) less in (was.0, one.pages i p (λ e. (let bad = e in omega (arith, low, bad))) ∙ was.1, was.2));
      onto = λ p low less. one.pages j p (λ e. (let bad = e in omega (arith, low, bad))) ∙ old.onto p (omega (arith, low)) less;
    }

pub lending_on : (s : Space) (i j n m : ℕ) (mid s2 : Space) → IsLending s i j n m mid → Lends mid i j n s2 → IsLending s i j (n + 1) m s2
lending_on s i j n m mid s2 old l = let e : suc n ≡ n + 1 = omega arith in subst (λ k. IsLending s i j k m s2) e (next_lent s i j n m mid s2 old l)

-- ---- before the first

untouched_at : (m p : ℕ) → p < m → slice_get (replicate m Untouched) p ≡ Some Untouched
untouched_at zero p less = absurd (omega (arith, less))
untouched_at (suc m) zero less = refl
untouched_at (suc m) (suc p) less = untouched_at m p (omega (arith, less))

pub whole_table : (s : Space) (i : ℕ) → IsSound s → (n : ℕ) × (length (get_or s.tables i []) ≡ 16 * n)
whole_table s i sound = elim (cases_lt i (length s.occupants)) [
  | inl within ↦ (let o = get_there s.occupants i within in of o.0 (sound.occupants.have i o.0 o.1))
  | inr past ↦ (0, ap length (past_there s.tables i (let l = sound.occupants.tables in omega (arith, past, l))))
] where
  of : (o : Option Occupant) → Rattle.wh_space_model.specs.Sound.HasTable o (get_or s.tables i []) → (n : ℕ) × (length (get_or s.tables i []) ≡ 16 * n)
  of None empty = (0, ap length empty)
  of (Some t) has = has.7

page_in : (xs : List Page) (p : ℕ) → p < length xs → (page : Page) × (slice_get xs p ≡ Some page)
page_in [] p less = absurd (omega (arith, less))
page_in (x ∷ xs) zero less = (x, refl)
page_in (x ∷ xs) (suc p) less = page_in xs p (omega (arith, less))

here_page : (n : ℕ) → ¬ (n ≡ 0) → 1 ≤ n
here_page zero some = absurd (some refl)
here_page (suc n) some = omega arith

pub record MayLendAll (i j n : ℕ) (s : Space) : Type 0 where
  pub here : (p : ℕ) → p < n → MayLend s i p
  pub onto : (p : ℕ) → p < n → page_at s.tables j p ≡ Some Untouched
  pub few : HasFewPages s

pub may_lend_all : (s : Space) (i j : ℕ) (c : Claimed) (size : ℕ) (mid : Space) → IsSound s → j ≢ i → HasFewPages s → ¬ (IsAway s i) → length (get_or s.tables i []) ≡ 16 * size → Enters s j c size mid → MayLendAll i j (16 * size) mid
may_lend_all s i j c size mid sound apart few here long enters =
    let rows = entered_row s i j c size mid sound apart enters in
    let pool = ap (λ (a : Space). a.pool) enters.leaves in
    let slots = ap (λ (a : Space). a.slots) enters.leaves in
    record {
      here = λ p less.
          (let page = page_in (get_or s.tables i []) p (omega (arith, less, long)) in
          (page.0, ap (λ xs. slice_get xs p) rows.0 ∙ page.1, here_page (untouched page.0 + stays page.0) (λ none. here (p, page.0, page.1, none))));
      onto = λ p less. ap (λ xs. slice_get xs p) rows.1 ∙ untouched_at (16 * size) p less;
      few = rw (pool, slots) few;
    }
