-- What each instance brings to the choice of the page that leaves.
use Rattle.std.proofs.Common.{◌≡◌, ◌∙◌, inl, inr, ℕ, ◌+◌, ◌<◌, ◌≤◌, ◌⊎◌, is_some, not, Bool, true, List, [], ◌∷◌, Option, Some, None, length, get_or, map, slice_get, zero, suc, refl, sym, subst, arith, rules}
use Rattle.std.specs.Prelude.{MatchBool}
use Rattle.wh_space_model.specs.declared.states.Page.{Page}
use Rattle.wh_space_model.specs.declared.states.Page.TheVariants.{Untouched, Private, Shared, Leaving, LeavingShared, Coming, Swapped}
use Rattle.wh_space_model.specs.{IsTouched, touchers_in, CanBeTaken, CanLeave, stays, Occupant, Space, occupant_at, page_at, resident, frame_of}
use Rattle.wh_space_model.proofs.Putting.{there_of}
use Rattle.wh_space.specs.declared.occupant_entry.OccupantEntry.{OccupantEntry}
use Rattle.wh_pages.specs.Seeking.{IsFirstFrom}
use Rattle.wh_tables.specs.Tables.{IsSoughtAt}
use Rattle.wh_tables.proofs.Keeping.{frame_stands}
use Rattle.wh_tables.proofs.Touching.{touchers_with_page}
use Rattle.wh_space.specs.Claiming.{MightBeTaken, MightLeave}
use Rattle.wh_space.specs.Parts.{occupant_of}

-- ---- pages that are counted

some_is : {X : Type 0} {x y : X} → Some x ≡ Some y → x ≡ y
some_is e = cc

pub either : (q n : ℕ) → (q < n) ⊎ (n ≤ q)
either q n = grind arith

-- ---- who is there

pub occupant_there : (xs : List (Option OccupantEntry)) (j : ℕ) (x : Option OccupantEntry) → j < length xs → x ≡ get_or xs j x → slice_get (map occupant_of xs) j ≡ Some (occupant_of x)
occupant_there [] j x less is = absurd (omega arith)
occupant_there (y ∷ xs) zero x less is = let e : x ≡ y = is in rw e refl
occupant_there (y ∷ xs) (suc j) x less is = occupant_there xs j x (omega arith) is

pub same_occupant : {o : Option (Option Occupant)} {t u : Occupant} → o ≡ Some (Some t) → o ≡ Some (Some u) → u ≡ t
same_occupant first second = let e : Some (Some _) ≡ Some (Some _) = sym second ∙ first in cc

-- whether no page of it is leaving
pub no_leaver : (s : Space) (i : ℕ) (t : Occupant) (none : Bool) → is_some t.leaves ≡ not none → occupant_at s i t
    → MatchBool none ((u : Occupant) × occupant_at s i u × (u.leaves ≡ None)) (¬ ((u : Occupant) × occupant_at s i u × (u.leaves ≡ None)))
no_leaver s i t none is there = search rules

-- ---- the page that is given

-- what can leave is a page
pub leaving_within : (s : Space) (i q : ℕ) → CanLeave s i q → q < length (get_or s.tables i [])
leaving_within s i q can = search (rules, there_of)

-- a page that was touched or not
touched_or : (s : Space) (i q : ℕ) → IsTouched s i q ⊎ (¬ IsTouched s i q)
touched_or s i q = search rules

all_touched : (s : Space) (i q : ℕ) → ¬ MightLeave s i true q → CanLeave s i q → IsTouched s i q
all_touched s i q none can = elim (touched_or s i q) [ inl touched ↦ touched | inr idle ↦ absurd (none (can, λ so. idle)) ]

-- what can leave stands on a frame
stays_resident : (x : Page) → stays x ≡ 1 → resident x ≡ 1
stays_resident Untouched e = absurd (omega (arith, e))
stays_resident (Private f) e = refl
stays_resident (Shared f) e = refl
stays_resident (Leaving f) e = absurd (omega (arith, e))
stays_resident (LeavingShared f) e = absurd (omega (arith, e))
stays_resident (Coming k) e = absurd (omega (arith, e))
stays_resident (Swapped k) e = absurd (omega (arith, e))

pub sought_leaving : (s : Space) (i : ℕ) (idle : Bool) (q : ℕ) → MightLeave s i idle q → IsSoughtAt s.tables s.touched i idle q
sought_leaving s i idle q might = search rules

pub sought_there : (s : Space) (i : ℕ) (idle : Bool) (q : ℕ) → IsSoughtAt s.tables s.touched i idle q → q < length (get_or s.tables i [])
sought_there s i idle q sought = there_of (get_or s.tables i []) q sought.page sought.there

-- none before this page might leave, and none from it on stands on a frame
pub none_left : (s : Space) (i : ℕ) (idle : Bool) (from : ℕ) → ((q : ℕ) → q < from → ¬ MightLeave s i idle q) → IsFirstFrom (IsSoughtAt s.tables s.touched i idle) from None → IsFirstFrom (MightLeave s i idle) 0 None
none_left s i idle from passed none = λ q at might. elim (either q from) [ inl below ↦ passed q below might | inr more ↦ none q more (sought_leaving s i idle q might) ]

-- the next one can leave
pub next_leaves : (s : Space) (i : ℕ) (idle : Bool) (from p : ℕ) → ((q : ℕ) → q < from → ¬ MightLeave s i idle q) → IsFirstFrom (IsSoughtAt s.tables s.touched i idle) from (Some p) → CanLeave s i p
    → IsFirstFrom (MightLeave s i idle) 0 (Some p)
next_leaves s i idle from p passed next can =
    (((can, next.0.0.untouched), omega arith), λ q at below might. elim (either q from) [ inl lower ↦ passed q lower might | inr more ↦ next.1 q more below (sought_leaving s i idle q might) ])

-- or it can't
pub next_passed : (s : Space) (i : ℕ) (idle : Bool) (from p : ℕ) → ((q : ℕ) → q < from → ¬ MightLeave s i idle q) → IsFirstFrom (IsSoughtAt s.tables s.touched i idle) from (Some p) → ¬ CanLeave s i p
    → (q : ℕ) → q < p + 1 → ¬ MightLeave s i idle q
next_passed s i idle from p passed next unable = λ q below might. elim (either q from) [
  | inl lower ↦ passed q lower might
  | inr more ↦ elim (either q p) [
    | inl lower ↦ next.1 q more lower (sought_leaving s i idle q might)
    | inr same ↦ unable (subst (CanLeave s i) (omega arith) might.0)
  ]
]

-- all pages are passed
pub all_passed : (s : Space) (i : ℕ) (idle : Bool) (from : ℕ) → length (get_or s.tables i []) ≤ from → ((q : ℕ) → q < from → ¬ MightLeave s i idle q) → IsFirstFrom (MightLeave s i idle) 0 None
all_passed s i idle from far passed = λ q at might. (let less = leaving_within s i q might.0 in passed q (omega arith) might)

-- ---- the page that is taken

-- what is looked for among what might be: the first from here on, or none
pub none_of : (P Q : ℕ → Type 0) → ((q : ℕ) → P q → Q q) → (from : ℕ) → ((q : ℕ) → q < from → ¬ P q) → IsFirstFrom Q from None → IsFirstFrom P 0 None
none_of P Q is from passed none = λ q at might. elim (either q from) [ inl below ↦ passed q below might | inr more ↦ none q more (is q might) ]

pub one_of : (P Q : ℕ → Type 0) → ((q : ℕ) → P q → Q q) → (from p : ℕ) → ((q : ℕ) → q < from → ¬ P q) → IsFirstFrom Q from (Some p) → P p → IsFirstFrom P 0 (Some p)
one_of P Q is from p passed next here = ((here, omega arith), λ q at below might. elim (either q from) [ inl lower ↦ passed q lower might | inr more ↦ next.1 q more below (is q might) ])

pub passed_of : (P Q : ℕ → Type 0) → ((q : ℕ) → P q → Q q) → (from p : ℕ) → ((q : ℕ) → q < from → ¬ P q) → IsFirstFrom Q from (Some p) → ¬ P p → (q : ℕ) → q < p + 1 → ¬ P q
passed_of P Q is from p passed next unable = search rules

-- a touched page stands on a frame that is touched
touched_there : (s : Space) (i p f : ℕ) (page : Page) → page_at s.tables i p ≡ Some page → frame_of page ≡ Some f → IsTouched s i p → 1 ≤ touchers_in s.tables s.touched f
touched_there s i p f page there on touched =
    let change = touchers_with_page s.tables s.touched i p f page Untouched true there touched in
    let one = frame_stands f page on in
    omega arith

stays_on : (page : Page) → stays page ≡ 1 → (f : ℕ) × (frame_of page ≡ Some f)
stays_on Untouched e = absurd (omega (arith, e))
stays_on (Private f) e = (f, refl)
stays_on (Shared f) e = (f, refl)
stays_on (Leaving f) e = absurd (omega (arith, e))
stays_on (LeavingShared f) e = absurd (omega (arith, e))
stays_on (Coming k) e = absurd (omega (arith, e))
stays_on (Swapped k) e = absurd (omega (arith, e))

pub sought_taking : (s : Space) (i : ℕ) (idle : Bool) (q : ℕ) → MightBeTaken s i idle q → IsSoughtAt s.tables s.touched i idle q
sought_taking s i idle q might = search (rules, stays_on, stays_resident, frame_stands, touched_there)

pub taking_within : (s : Space) (i q : ℕ) → CanBeTaken s i q → q < length (get_or s.tables i [])
taking_within s i q can = leaving_within s i q can.0

pub all_taken : (s : Space) (i : ℕ) (idle : Bool) (from : ℕ) → length (get_or s.tables i []) ≤ from → ((q : ℕ) → q < from → ¬ MightBeTaken s i idle q) → IsFirstFrom (MightBeTaken s i idle) 0 None
all_taken s i idle from far passed = λ q at might. (let less = taking_within s i q might.0 in passed q (omega arith) might)
