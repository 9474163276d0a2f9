-- Sums over those who have places, when one comes, changes or goes.
use Rattle.std.proofs.Common.{◌≡◌, ◌⊎◌, inl, inr, ℕ, ◌+◌, ◌-◌, ◌<◌, ◌≤◌, ◌++◌, List, [], ◌∷◌, Option, Some, None, length, get_or, map, slice_get, slice_set, zero, suc, refl, sym, ◌∙◌, ap, subst, arith}
use Rattle.std.proofs.lemmas.Bool.{cases_lt}
use Rattle.std.proofs.lemmas.Bool.Decides.{nat_tests}
use Rattle.std.proofs.lemmas.List.{length-map}
use Rattle.wh_space_model.specs.{tally, of_occupant, Occupant, with_row}
use Rattle.wh_space.specs.declared.occupant_entry.OccupantEntry.{OccupantEntry}
use Rattle.wh_space.specs.Occupancy.{AreSummed, Terms, occupant_of, terms_of}

some_entry : {t u : OccupantEntry} → Some t ≡ Some u → t ≡ u
some_entry e = cc

-- the sum when another one is at a place
pub sum_set : (w : Option Occupant → ℕ) (xs : List (Option OccupantEntry)) (i : ℕ) (x : Option OccupantEntry) → i < length xs
    → tally w (map occupant_of (slice_set xs i x)) + w (occupant_of (get_or xs i None)) ≡ tally w (map occupant_of xs) + w (occupant_of x)
sum_set w [] i x within = absurd (omega arith)
sum_set w (y ∷ xs) zero x within = omega arith
sum_set w (y ∷ xs) (suc i) x within = let e = sum_set w xs i x (omega arith) in omega arith

-- at one more place
sum_append : (w : Option Occupant → ℕ) (xs : List (Option OccupantEntry)) (x : Option OccupantEntry)
    → tally w (map occupant_of (xs ++ x ∷ [])) ≡ tally w (map occupant_of xs) + w (occupant_of x)
sum_append w [] x = omega arith
sum_append w (y ∷ xs) x = let e = sum_append w xs x in omega arith

past_none : (xs : List (Option OccupantEntry)) (i : ℕ) → length xs ≤ i → get_or xs i None ≡ None
past_none [] i past = refl
past_none (x ∷ xs) zero past = absurd (omega arith)
past_none (x ∷ xs) (suc i) past = past_none xs i (omega arith)

-- at a place that nobody has, maybe the next one
pub sum_row : (w : Option Occupant → ℕ) (xs : List (Option OccupantEntry)) (i : ℕ) (x : Option OccupantEntry) → w None ≡ 0 → get_or xs i None ≡ None
    → tally w (map occupant_of (with_row xs i x)) ≡ tally w (map occupant_of xs) + w (occupant_of x)
sum_row w xs i x none nobody = elim (cases_lt i (length xs)) [
  | inl here ↦ (let e : with_row xs i x ≡ slice_set xs i x = grind (arith, nat_tests) in
      let s = sum_set w xs i x here in
      let z : w (occupant_of (get_or xs i None)) ≡ 0 = ap (λ (o : Option OccupantEntry). w (occupant_of o)) nobody ∙ none in
      rw e (omega arith))
  | inr behind ↦ (let e : with_row xs i x ≡ xs ++ x ∷ [] = grind (arith, nat_tests) in rw e (sum_append w xs x))
]

pub nobody_there : (xs : List (Option OccupantEntry)) (i : ℕ) → (slice_get (map occupant_of xs) i ≡ Some None) ⊎ (i ≡ length (map occupant_of xs)) → get_or xs i None ≡ None
nobody_there xs i (inl none) = at xs i none where
  at : (xs : List (Option OccupantEntry)) (i : ℕ) → slice_get (map occupant_of xs) i ≡ Some None → get_or xs i None ≡ None
  at [] i is = refl
  at (None ∷ xs) zero is = refl
  at (Some t ∷ xs) zero is = absurd (cc is)
  at (x ∷ xs) (suc i) is = at xs i is
nobody_there xs i (inr past) = past_none xs i (let l = length-map xs occupant_of in omega arith)

-- one is not more than all
pub one_of_sum : (w : Option Occupant → ℕ) (xs : List (Option OccupantEntry)) (i : ℕ) → w None ≡ 0 → w (occupant_of (get_or xs i None)) ≤ tally w (map occupant_of xs)
one_of_sum w [] i none = omega arith
one_of_sum w (x ∷ xs) zero none = omega arith
one_of_sum w (x ∷ xs) (suc i) none = let e = one_of_sum w xs i none in omega arith

-- who is there then: who came, or who was there
pub set_there : (xs : List (Option OccupantEntry)) (i j : ℕ) (x : Option OccupantEntry) (t : OccupantEntry) → slice_get (slice_set xs i x) j ≡ Some (Some t)
    → (x ≡ Some t) ⊎ (slice_get xs j ≡ Some (Some t))
set_there [] i j x t is = absurd (cc is)
set_there (y ∷ xs) zero zero x t is = inl (cc is)
set_there (y ∷ xs) zero (suc j) x t is = inr is
set_there (y ∷ xs) (suc i) zero x t is = inr is
set_there (y ∷ xs) (suc i) (suc j) x t is = set_there xs i j x t is

append_there : (xs : List (Option OccupantEntry)) (j : ℕ) (x : Option OccupantEntry) (t : OccupantEntry) → slice_get (xs ++ x ∷ []) j ≡ Some (Some t)
    → (x ≡ Some t) ⊎ (slice_get xs j ≡ Some (Some t))
append_there [] zero x t is = inl (cc is)
append_there [] (suc j) x t is = absurd (cc is)
append_there (y ∷ xs) zero x t is = inr is
append_there (y ∷ xs) (suc j) x t is = append_there xs j x t is

pub row_there : (xs : List (Option OccupantEntry)) (i j : ℕ) (x : Option OccupantEntry) (t : OccupantEntry) → slice_get (with_row xs i x) j ≡ Some (Some t)
    → (x ≡ Some t) ⊎ (slice_get xs j ≡ Some (Some t))
row_there xs i j x t is = elim (cases_lt i (length xs)) [
  | inl here ↦ (let e : with_row xs i x ≡ slice_set xs i x = grind (arith, nat_tests) in
      set_there xs i j x t (subst (λ (z : List (Option OccupantEntry)). slice_get z j ≡ Some (Some t)) e is))
  | inr behind ↦ (let e : with_row xs i x ≡ xs ++ x ∷ [] = grind (arith, nat_tests) in
      append_there xs j x t (subst (λ (z : List (Option OccupantEntry)). slice_get z j ≡ Some (Some t)) e is))
]

-- on the same terms one counts as before, in the sums and by the number
abbrev min_by : Option Terms → ℕ
min_by None = 0
min_by (Some t) = t.min

abbrev spread_by : Option Terms → ℕ
spread_by None = 0
spread_by (Some t) = (t.max - t.min) + 1

pub same_min : (x y : Option OccupantEntry) → terms_of x ≡ terms_of y → of_occupant (λ t. t.min) (occupant_of x) ≡ of_occupant (λ t. t.min) (occupant_of y)
same_min x y same = by x ∙ ap min_by same ∙ sym (by y) where
  by : (z : Option OccupantEntry) → of_occupant (λ t. t.min) (occupant_of z) ≡ min_by (terms_of z)
  by None = refl
  by (Some t) = refl

pub same_spread : (x y : Option OccupantEntry) → terms_of x ≡ terms_of y → of_occupant (λ t. (t.max - t.min) + 1) (occupant_of x) ≡ of_occupant (λ t. (t.max - t.min) + 1) (occupant_of y)
same_spread x y same = by x ∙ ap spread_by same ∙ sym (by y) where
  by : (z : Option OccupantEntry) → of_occupant (λ t. (t.max - t.min) + 1) (occupant_of z) ≡ spread_by (terms_of z)
  by None = refl
  by (Some t) = refl

-- whoever is there on these terms has this number
pub same_number : (xs : List (Option OccupantEntry)) (i : ℕ) (t : OccupantEntry) → terms_of (get_or xs i None) ≡ terms_of (Some t)
    → (u : OccupantEntry) × (slice_get xs i ≡ Some (Some u)) × (u.number ≡ t.number)
same_number [] i t same = absurd (cc same)
same_number (None ∷ xs) zero t same = absurd (cc same)
same_number (Some u ∷ xs) zero t same = (u, refl, number_by same) where
  number_of : Option Terms → ℕ
  number_of None = 0
  number_of (Some t) = t.number

  number_by : terms_of (Some u) ≡ terms_of (Some t) → u.number ≡ t.number
  number_by e = ap number_of e
same_number (x ∷ xs) (suc i) t same = same_number xs i t same

-- all stays summed up when one has another entry on the same terms
pub replaced : (xs : List (Option OccupantEntry)) (least most greatest i : ℕ) (t : OccupantEntry) → AreSummed xs least most greatest → i < length xs
    → terms_of (get_or xs i None) ≡ terms_of (Some t) → AreSummed (slice_set xs i (Some t)) least most greatest
replaced xs least most greatest i t was within same = record {
  minima = (let s = sum_set (of_occupant (λ t. t.min)) xs i (Some t) within in
      let e = same_min (get_or xs i None) (Some t) same in
      let w = was.minima in
      omega arith);
  spreads = (let s = sum_set (of_occupant (λ t. (t.max - t.min) + 1)) xs i (Some t) within in
      let e = same_spread (get_or xs i None) (Some t) same in
      let w = was.spreads in
      omega arith);
  numbers = λ j u is. elim (set_there xs i j (Some t) u is) [
    | inl new ↦ (let old = same_number xs i t same in
        let g = was.numbers i old.0 old.1 in
        let n = ap (λ (z : OccupantEntry). z.number) (some_entry new) in
        let o = old.2 in
        omega arith)
    | inr old ↦ was.numbers j u old
  ];
}

-- when one goes
pub vacated : (xs : List (Option OccupantEntry)) (least most greatest i l2 m2 : ℕ) → AreSummed xs least most greatest → i < length xs
    → l2 + of_occupant (λ t. t.min) (occupant_of (get_or xs i None)) ≡ least
    → m2 + of_occupant (λ t. (t.max - t.min) + 1) (occupant_of (get_or xs i None)) ≡ most → AreSummed (slice_set xs i None) l2 m2 greatest
vacated xs least most greatest i l2 m2 was within minima spreads = record {
  minima = (let s = sum_set (of_occupant (λ t. t.min)) xs i None within in
      let w = was.minima in
      omega arith);
  spreads = (let s = sum_set (of_occupant (λ t. (t.max - t.min) + 1)) xs i None within in
      let w = was.spreads in
      omega arith);
  numbers = λ j u is. elim (set_there xs i j None u is) [
    | inl new ↦ absurd (cc new)
    | inr old ↦ was.numbers j u old
  ];
}

-- and when one comes
pub entered_at : (xs : List (Option OccupantEntry)) (least most greatest i l2 m2 g2 : ℕ) (t : OccupantEntry) → AreSummed xs least most greatest → get_or xs i None ≡ None
    → l2 ≡ least + t.min → m2 ≡ most + ((t.max - t.min) + 1) → greatest ≤ g2 → t.number ≤ g2 → AreSummed (with_row xs i (Some t)) l2 m2 g2
entered_at xs least most greatest i l2 m2 g2 t was nobody minima spreads more high = record {
  minima = (let s = sum_row (of_occupant (λ t. t.min)) xs i (Some t) refl nobody in
      let w = was.minima in
      omega arith);
  spreads = (let s = sum_row (of_occupant (λ t. (t.max - t.min) + 1)) xs i (Some t) refl nobody in
      let w = was.spreads in
      omega arith);
  numbers = λ j u is. elim (row_there xs i j (Some t) u is) [
    | inl new ↦ (let n = ap (λ (z : OccupantEntry). z.number) (some_entry new) in omega arith)
    | inr old ↦ (let g = was.numbers j u old in omega arith)
  ];
}

-- what is read at a place is there
pub entry_here : (xs : List (Option OccupantEntry)) (i : ℕ) (x : Option OccupantEntry) → i < length xs → x ≡ get_or xs i x → x ≡ get_or xs i None
entry_here [] i x within is = absurd (omega arith)
entry_here (y ∷ xs) zero x within is = is
entry_here (y ∷ xs) (suc i) x within is = entry_here xs i x (omega arith) is
