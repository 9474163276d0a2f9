-- How many pages there are: no more than frames and slots.
use Rattle.std.proofs.Common.{◌≡◌, ◌≢◌, ◌+◌, ◌-◌, ◌^◌, ◌<◌, ◌≤◌, ◌∙◌, ℕ, inl, inr, List, [], ◌∷◌, Option, Some, None, get_or, length, slice_set, zero, suc, refl, sym, ap, subst, arith}
use Rattle.std.proofs.lemmas.List.{length-set}
use Rattle.wh_space_model.specs.declared.plain.InstId.{InstId}
use Rattle.wh_space_model.specs.declared.states.Page.{Page}
use Rattle.wh_space_model.specs.{tally, occupant_number, Occupant, Space, of_occupant, HasTable, IsSound}
use Rattle.wh_space_model.proofs.Putting.{get_or_is, here_or, there_of}
use Rattle.wh_space_model.proofs.Rooms.{get_there}
use Rattle.wh_space_model.proofs.Sums.{beside, set_tally, tally_plus}
use Rattle.wh_tables.specs.Line.{IsAbove}
use Rattle.wh_space.specs.Merges.{HasFewPages}
use Rattle.wh_space.specs.Numbered.{IsNextInstance}
use Rattle.wh_scan.specs.Pass.{ScansMerging, pages_before}
use Rattle.wh_scan.proofs.ByNumber.{IsPassUpTo, next_before, pass_next, scans_up_to, there_with_pages}
use Rattle.wh_scan.proofs.Passing.{scans_occupants, scans_rows}

-- ---- lists of numbers

abbrev zeros : {X : Type 0} → List X → List ℕ
zeros [] = []
zeros (x ∷ xs) = 0 ∷ zeros xs

zeros_long : {X : Type 0} (xs : List X) → length (zeros xs) ≡ length xs
zeros_long [] = refl
zeros_long (x ∷ xs) = let rest = zeros_long xs in omega arith

zeros_none : {X : Type 0} (xs : List X) (i : ℕ) → get_or (zeros xs) i 0 ≡ 0
zeros_none [] i = refl
zeros_none (x ∷ xs) zero = refl
zeros_none (x ∷ xs) (suc i) = zeros_none xs i

zeros_sum : {X : Type 0} (xs : List X) → tally (λ (n : ℕ). n) (zeros xs) ≡ 0
zeros_sum [] = refl
zeros_sum (x ∷ xs) = let rest = zeros_sum xs in omega arith

set_here : (xs : List ℕ) (i y : ℕ) → i < length xs → get_or (slice_set xs i y) i 0 ≡ y
set_here [] i y within = absurd (omega arith)
set_here (x ∷ xs) zero y within = refl
set_here (x ∷ xs) (suc i) y within = set_here xs i y (omega arith)

set_there : (xs : List ℕ) (i j y : ℕ) → j ≢ i → get_or (slice_set xs i y) j 0 ≡ get_or xs j 0
set_there [] i j y other = refl
set_there (x ∷ xs) zero zero y other = absurd (other refl)
set_there (x ∷ xs) zero (suc j) y other = refl
set_there (x ∷ xs) (suc i) zero y other = refl
set_there (x ∷ xs) (suc i) (suc j) y other = set_there xs i j y (λ e. other (ap suc e))

-- ---- pages by place

-- So many pages were counted: of each instance with a number up to this one all or fewer, and none of those above it.
pub record AreCounted (s : Space) (after : Option ℕ) (count : ℕ) : Type 0 where
  pub rows : List ℕ
  pub as_many : length rows ≡ length s.occupants
  pub is : tally (λ (n : ℕ). n) rows ≡ count
  pub each : (i : ℕ) → get_or rows i 0 ≤ length (get_or s.tables i [])
  pub none : (i : ℕ) → IsAbove after (occupant_number s i) → get_or rows i 0 ≡ 0

pub none_counted : (s : Space) → AreCounted s None 0
none_counted s = record {
  rows = zeros s.occupants;
  as_many = zeros_long s.occupants;
  is = zeros_sum s.occupants;
  each = λ i. (let e = zeros_none s.occupants i in omega arith);
  none = λ i above. zeros_none s.occupants i;
}

further_above : (after : Option ℕ) (m n : ℕ) → IsAbove after m → m < n → IsAbove after n
further_above None m n above less = tt
further_above (Some k) m n above less = omega arith

-- those of the next one
pub next_counted : (s : Space) (after : Option ℕ) (count : ℕ) (next : InstId) → IsSound s → AreCounted s after count → IsNextInstance s after next
    → AreCounted s (Some next.number) (count + length (get_or s.tables next.place []))
next_counted s after count next sound were is =
    let row = length (get_or s.tables next.place []) in
    let t = there_with_pages s next.place sound is.later.0 in
    let within = there_of s.occupants next.place (Some t.0) t.1 in
    let long = were.as_many in
    let inside : next.place < length were.rows = omega arith in
    let there = get_there were.rows next.place inside in
    let none : there.0 ≡ 0 = sym (get_or_is were.rows next.place there.0 0 there.1) ∙ were.none next.place is.later.1 in
    let sum = set_tally (λ (n : ℕ). n) were.rows next.place there.0 row there.1 in
    let old = were.is in
    let number = is.number in
    record {
      rows = slice_set were.rows next.place row;
      as_many = length-set were.rows next.place row ∙ were.as_many;
      is = omega arith;
      each = λ i. elim (here_or next.place i) [
        | inl same ↦ (let e = set_here were.rows next.place row inside in rw same (omega arith))
        | inr other ↦ (let e = set_there were.rows next.place i row other in let most = were.each i in omega arith)
      ];
      none = λ i above.
          (let other : i ≢ next.place = (λ same. (let e = ap (occupant_number s) same in omega arith)) in
          set_there were.rows next.place i row other ∙ were.none i (further_above after (occupant_number s next.place) (occupant_number s i) is.later.1 (omega arith)));
    }

-- ---- there are no more than frames and slots

may_have : (o : Option Occupant) (table : List Page) → HasTable o table → length table ≤ of_occupant (λ t. t.min) o + of_occupant (λ t. (t.max - t.min) + 1) o
may_have None table has = rw has (omega arith)
may_have (Some t) table has = let a = has.2 in let b = has.1 in omega arith

pub few_counted : (s : Space) (after : Option ℕ) (count : ℕ) → IsSound s → HasFewPages s → AreCounted s after count → count < 2 ^ 32
few_counted s after count sound few are =
    let bound : Option Occupant → ℕ = λ o. of_occupant (λ t. t.min) o + of_occupant (λ t. (t.max - t.min) + 1) o in
    let most = beside 0 (λ (n : ℕ). n) bound are.rows s.occupants are.as_many
    (λ i o at. (let row = are.each i in let may = may_have o (get_or s.tables i []) (sound.occupants.have i o at) in omega arith)) in
    let parts = tally_plus (of_occupant (λ t. t.min)) (of_occupant (λ t. (t.max - t.min) + 1)) s.occupants in
    let sum = are.is in
    let frames = sound.admissible.0 in
    let slots = sound.admissible.1 in
    omega arith

-- ---- the pass goes on

pub offered_next : (hashes : List ℕ → ℕ) (s : Space) (after : Option ℕ) (offered merged : ℕ) (mid : Space) (next : InstId) (count more : ℕ) (s2 : Space) → IsSound s → IsPassUpTo hashes s after offered merged mid × AreCounted s after offered
    → IsNextInstance mid after next → ScansMerging hashes mid (pages_before next.place (length (get_or mid.tables next.place []))) more s2 → count ≡ length (get_or mid.tables next.place [])
    → IsPassUpTo hashes s (Some next.number) (offered + count) (merged + more) s2 × AreCounted s (Some next.number) (offered + count)
offered_next hashes s after offered merged mid next count more s2 sound was is scans many =
    let pass = was.0 in
    let before = scans_up_to hashes s after offered merged mid pass in
    let row : length (get_or mid.tables next.place []) ≡ length (get_or s.tables next.place []) = scans_rows hashes s pass.pages mid next.place sound before in
    let next_is = next_before s mid after next (scans_occupants hashes s pass.pages mid before) (λ i. scans_rows hashes s pass.pages mid i sound before) is in
    let same : offered + length (get_or s.tables next.place []) ≡ offered + count = ap (λ n. offered + n) (sym (many ∙ row)) in (
      subst (λ n. IsPassUpTo hashes s (Some next.number) n (merged + more) s2) same (pass_next hashes s after offered merged more mid next s2 sound pass is scans),
      subst (λ n. AreCounted s (Some next.number) n) same (next_counted s after offered next sound was.1 next_is),
    )
