-- The line of instances by number, when one comes to a place, and who is the next in it.
use Rattle.std.proofs.Common.{◌≡◌, ◌≢◌, ◌∙◌, ℕ, ◌+◌, ◌<◌, ◌≤◌, ◌-◌, ◌⊎◌, ◌==◌, inl, inr, cond, not, Bool, true, false, List, [], ◌∷◌, Option, Some, None, length, get_or, take, drop, ◌++◌, leb, leb-true, slice_get, zero, suc, refl, sym, ap, subst, arith, rules}
use Rattle.std.specs.List.{All, AllPairs, AllWithin, Contains, filter, insert}
use Rattle.std.specs.List.Sorted.{IsPartitionPoint, IsPermutation}
use Rattle.std.proofs.lemmas.Bool.{cases_lt}
use Rattle.std.proofs.lemmas.Bool.Decides.{nat_tests}
use Rattle.std.proofs.lemmas.List.Elements.{All-cons, All-filter, filter_passes}
use Rattle.std.proofs.lemmas.List.Edits.{get_or-insert_above, get_or-insert_at, get_or-insert_below, length-insert}
use Rattle.std.proofs.lemmas.List.Kept.{AllPairs-filter, IsNonDecreasingBy-filter}
use Rattle.std.proofs.lemmas.List.Sorted.{All-permutation, Contains-permutation, IsNonDecreasingBy-insert, IsPermutation-insert}
use Rattle.wh_space_model.specs.declared.plain.InstId.{InstId}
use Rattle.wh_space_model.specs.declared.states.Page.{Page}
use Rattle.wh_space_model.specs.{with_row}
use Rattle.wh_space_model.proofs.Putting.{get_or_is, here_or, there_of}
use Rattle.wh_space_model.proofs.Rooms.{get_there}
use Rattle.wh_space_model.proofs.Rows.{row_other, row_same}
use Rattle.wh_tables.specs.Line.{ComesLater, IsAbove, IsLineOf, IsNextIn}

-- ---- who was at a place leaves the line

abbrev pub is_elsewhere : ℕ → InstId → Bool
is_elsewhere place id = not (id.place == place)

elsewhere : (place i n : ℕ) → i ≢ place → is_elsewhere place (record { place = i; number = n }) ≡ true
elsewhere place i n other = grind (arith, nat_tests)

other_place : (place : ℕ) (id : InstId) → is_elsewhere place id ≡ true → id.place ≢ place
other_place place id passes = grind (arith, nat_tests)

contains_tail : {X : Type 0} (y : X) (xs : List X) (x : X) → Contains xs x → Contains (y ∷ xs) x
contains_tail y xs x (k, less, is) = (suc k, omega arith, is)

kept_or : {X : Type 0} (b : Bool) (y : X) (xs : List X) (x : X) → Contains xs x → Contains (cond b (y ∷ xs) xs) x
kept_or true y xs x has = contains_tail y xs x has
kept_or false y xs x has = has

contains_filter : {X : Type 0} (p : X → Bool) (xs : List X) (x : X) → Contains xs x → p x ≡ true → Contains (filter p xs) x
contains_filter p [] x (k, less, is) passes = absurd (omega arith)
contains_filter p (y ∷ xs) x (zero, less, is) passes =
    let e : p y ≡ true = ap p is ∙ passes in
    rw e (zero, omega arith, is)
contains_filter p (y ∷ xs) x (suc k, less, is) passes = kept_or (p y) y (filter p xs) x (contains_filter p xs x (k, omega arith, is) passes)

get_or-any : {X : Type 0} (xs : List X) (k : ℕ) (d e : X) → k < length xs → get_or xs k d ≡ get_or xs k e
get_or-any [] k d e less = absurd (omega arith)
get_or-any (x ∷ xs) zero d e less = refl
get_or-any (x ∷ xs) (suc k) d e less = get_or-any xs k d e (omega arith)

-- all others stay
filter_all : {X : Type 0} (p : X → Bool) (xs : List X) → All (λ x. p x ≡ true) xs → filter p xs ≡ xs
filter_all p [] all = refl
filter_all p (x ∷ xs) all =
    let here : p x ≡ true = all 0 x (omega arith) in
    let rest : filter p xs ≡ xs = filter_all p xs (λ k d less. all (suc k) d (omega arith)) in
    rw (here, rest) refl

pub filter_one : {X : Type 0} (p : X → Bool) (xs : List X) (k : ℕ) → k < length xs → ((d : X) → p (get_or xs k d) ≡ false)
    → ((j : ℕ) (d : X) → j < length xs → j ≢ k → p (get_or xs j d) ≡ true) → take k xs ++ drop (suc k) xs ≡ filter p xs
filter_one {X} p [] k less here others = absurd (omega arith)
filter_one {X} p (x ∷ xs) zero less here others =
    let gone : p x ≡ false = here x in
    let rest : filter p xs ≡ xs = filter_all p xs (λ k d within. others (suc k) d (omega arith) (λ e. absurd (omega arith))) in
    rw (gone, rest) refl
filter_one {X} p (x ∷ xs) (suc k) less here others =
    let stays : p x ≡ true = others 0 x (omega arith) (λ e. absurd (omega arith)) in
    let rest = filter_one p xs k (omega arith) here (λ j d within other. others (suc j) d (omega arith) (λ e. other (omega arith))) in
    rw stays (ap (λ (z : List X). x ∷ z) rest)

at_place : (place : ℕ) (id : InstId) → id.place ≡ place → is_elsewhere place id ≡ false
at_place place id here = grind (arith, nat_tests)

not_at_place : (place : ℕ) (id : InstId) → id.place ≢ place → is_elsewhere place id ≡ true
not_at_place place id other = grind (arith, nat_tests)

-- nobody in the line is at a place behind all
pub none_behind : (numbers : List ℕ) (line : List InstId) (place : ℕ) → IsLineOf numbers line → length numbers ≤ place → line ≡ filter (is_elsewhere place) line
none_behind numbers line place is past = sym (filter_all (is_elsewhere place) line (λ k d less. (
    let within = there_of numbers (get_or line k d).place (get_or line k d).number (is.there k d less) in
    not_at_place place (get_or line k d) (λ e. absurd (omega arith)))))

-- whoever is at a place stands there once
pub one_leaves : (numbers : List ℕ) (line : List InstId) (place k : ℕ) (x : InstId) → IsLineOf numbers line → k < length line → (get_or line k x).place ≡ place
    → take k line ++ drop (suc k) line ≡ filter (is_elsewhere place) line
one_leaves numbers line place k x is less here =
    let there : (d : InstId) → (get_or line k d).place ≡ place = λ d. ap (λ (id : InstId). id.place) (get_or-any line k d x less) ∙ here in
    filter_one (is_elsewhere place) line k less (λ d. at_place place (get_or line k d) (there d))
    (λ j d within other. not_at_place place (get_or line j d) (λ same. elim (cases_lt j k) [
      | inl before ↦ is.once j k d before less (same ∙ sym (there d))
      | inr from ↦ (let behind : k < j = omega (arith, other) in is.once k j d behind within (there d ∙ sym same))
    ]))

-- ---- a newcomer joins it

pairs_insert : {X : Type 0} (R : X → X → Type 0) (xs : List X) (i : ℕ) (y : X) → AllPairs R xs → i ≤ length xs → ((k : ℕ) (d : X) → k < length xs → R (get_or xs k d) y × R y (get_or xs k d))
    → AllPairs R (insert xs i y)
pairs_insert {X} R xs i y pairs within beside j k d less least = go (cases_lt k i) where
  long : length (insert xs i y) ≡ length xs + 1
  long = length-insert xs i y within

  past : (m n : ℕ) → j ≡ m → k ≡ n + 1 → i ≤ n → n < length xs → (m < i) ⊎ (i ≤ m) → R (get_or (insert xs i y) j d) (get_or (insert xs i y) k d)
  past m n here there from most (inl before) =
      rw (here, there, get_or-insert_above xs i y d n from within, get_or-insert_below xs i y d m before within) (pairs m n d (omega arith) most)
  past m n here there from most (inr behind) = elim (cases_lt i m) [
    | inl above ↦ (let e : j ≡ (m - 1) + 1 = omega arith in rw (e, there, get_or-insert_above xs i y d n from within, get_or-insert_above xs i y d (m - 1) (omega arith) within) (pairs (m - 1) n d (omega arith) most))
    | inr same ↦ (let e : j ≡ i = omega arith in rw (e, there, get_or-insert_above xs i y d n from within, get_or-insert_at xs i y d within) (beside n d most).1)
  ]

  at : (k ≡ i) ⊎ (i < k) → R (get_or (insert xs i y) j d) (get_or (insert xs i y) k d)
  at (inl here) = rw (here, get_or-insert_at xs i y d within, get_or-insert_below xs i y d j (omega arith) within) (beside j d (omega arith)).0
  at (inr behind) = past j (k - 1) refl (omega arith) (omega arith) (omega (arith, long)) (cases_lt j i)

  go : (k < i) ⊎ (i ≤ k) → R (get_or (insert xs i y) j d) (get_or (insert xs i y) k d)
  go (inl below) = rw (get_or-insert_below xs i y d k below within, get_or-insert_below xs i y d j (omega arith) within) (pairs j k d less (omega arith))
  go (inr from) = at (elim (here_or i k) [ inl same ↦ inl same | inr other ↦ inr (omega (arith, other)) ])

pub line_joined : (numbers : List ℕ) (line : List InstId) (newcomer : InstId) (rank : ℕ) → newcomer.place ≤ length numbers → IsLineOf numbers line
    → rank ≤ length (filter (is_elsewhere newcomer.place) line)
    → IsPartitionPoint (λ (id : InstId). id.number ≤ newcomer.number) (λ (id : InstId). newcomer.number < id.number) (filter (is_elsewhere newcomer.place) line) rank
    → IsLineOf (with_row numbers newcomer.place newcomer.number) (insert (filter (is_elsewhere newcomer.place) line) rank newcomer)
line_joined numbers line newcomer rank within is bound split =
    let others : List InstId = filter (is_elsewhere newcomer.place) line in
    let moved : IsPermutation (newcomer ∷ others) (insert others rank newcomer) = IsPermutation-insert others rank newcomer in
    let here : slice_get (with_row numbers newcomer.place newcomer.number) newcomer.place ≡ Some newcomer.number = row_same numbers newcomer.place newcomer.number within in
    record {
      ascending = IsNonDecreasingBy-insert (λ (id : InstId). id.number) others rank newcomer (IsNonDecreasingBy-filter (λ (id : InstId). id.number) (is_elsewhere newcomer.place) line is.ascending) bound
          (λ k d less. split.0 k d (omega arith) less)
          (λ k d from less. (let above = split.1 k d from less in omega arith));
      once = pairs_insert (λ (a b : InstId). a.place ≢ b.place) others rank newcomer (AllPairs-filter (λ (a b : InstId). a.place ≢ b.place) (is_elsewhere newcomer.place) line is.once) bound
          (λ k d less. (let apart : (get_or others k d).place ≢ newcomer.place = other_place newcomer.place (get_or others k d) (filter_passes (is_elsewhere newcomer.place) line k d less) in (apart, λ same. apart (sym same))));
      each = λ i n at. Contains-permutation (newcomer ∷ others) (insert others rank newcomer) (record { place = i; number = n }) moved
          (elim (here_or newcomer.place i) [
            | inl same ↦ search rules
            | inr other ↦ search (rules, contains_tail, contains_filter, row_other, elsewhere)
          ]);
      there = All-permutation (λ (id : InstId). slice_get (with_row numbers newcomer.place newcomer.number) id.place ≡ Some id.number) (newcomer ∷ others) (insert others rank newcomer) moved
          (All-cons (λ (id : InstId). slice_get (with_row numbers newcomer.place newcomer.number) id.place ≡ Some id.number) newcomer others here
          (λ k d less.
          row_other numbers newcomer.place (get_or others k d).place newcomer.number within (other_place newcomer.place (get_or others k d) (filter_passes (is_elsewhere newcomer.place) line k d less))
          ∙ All-filter (is_elsewhere newcomer.place) (λ (id : InstId). slice_get numbers id.place ≡ Some id.number) line is.there k d less));
    }

-- ---- how many stand there up to a number

pub split_at : (line : List InstId) (number rank : ℕ)
    → IsPartitionPoint (λ (id : InstId). leb id.number number ≡ true) (λ (id : InstId). leb id.number number ≡ false) line rank
    → IsPartitionPoint (λ (id : InstId). id.number ≤ number) (λ (id : InstId). number < id.number) line rank
split_at line number rank split = (
  λ k d from less. leb-true _ _ (split.0 k d from less),
  λ k d from less. (let f = split.1 k d from less in grind (arith, nat_tests)),
)

-- ---- who is the next in it

pub has_row : {X : Type 0} (xss : List (List X)) (j : ℕ) → 1 ≤ length (get_or xss j []) → j < length xss
has_row [] j some = absurd (omega arith)
has_row (xs ∷ xss) zero some = omega arith
has_row (xs ∷ xss) (suc j) some = let rest = has_row xss j some in omega arith

-- of the line, nobody below this rank comes later than the number, and all from it on have higher ones
pub record IsSoughtFrom (pages : List (List Page)) (numbers : List ℕ) (after : Option ℕ) (line : List InstId) (rank : ℕ) : Type 0 where
  pub passed : AllWithin (λ (id : InstId). ¬ ComesLater pages numbers after id.place) line 0 rank
  pub ahead : AllWithin (λ (id : InstId). IsAbove after id.number) line rank (length line)

number_there : (numbers : List ℕ) (line : List InstId) (k : ℕ) (d : InstId) → IsLineOf numbers line → k < length line → get_or numbers (get_or line k d).place 0 ≡ (get_or line k d).number
number_there numbers line k d is less = get_or_is numbers (get_or line k d).place (get_or line k d).number 0 (is.there k d less)

pub sought_first : (pages : List (List Page)) (numbers : List ℕ) (line : List InstId) → IsSoughtFrom pages numbers None line 0
sought_first pages numbers line = record {
  passed = λ k d from less. absurd (omega arith);
  ahead = λ k d from less. tt;
}

pub sought_after : (pages : List (List Page)) (numbers : List ℕ) (number : ℕ) (line : List InstId) (rank : ℕ) → IsLineOf numbers line → rank ≤ length line
    → IsPartitionPoint (λ (id : InstId). id.number ≤ number) (λ (id : InstId). number < id.number) line rank → IsSoughtFrom pages numbers (Some number) line rank
sought_after pages numbers number line rank is within split = record {
  passed = search (rules, number_there);
  ahead = λ k d from less. split.1 k d from less;
}

pub sought_more : (pages : List (List Page)) (numbers : List ℕ) (after : Option ℕ) (line : List InstId) (rank : ℕ) (e : InstId) → IsSoughtFrom pages numbers after line rank
    → rank < length line → length (get_or pages (get_or line rank e).place []) ≤ 0 → IsSoughtFrom pages numbers after line (rank + 1)
sought_more pages numbers after line rank e sought less empty = record {
  passed = search (rules, get_or-any);
  ahead = λ k d from least. sought.ahead k d (omega arith) least;
}

-- where an instance with pages stands in the line
place_in_line : (pages : List (List Page)) (numbers : List ℕ) (line : List InstId) (j : ℕ) → IsLineOf numbers line → length numbers ≡ length pages → 1 ≤ length (get_or pages j [])
    → (n : ℕ) × (get_or numbers j 0 ≡ n) × Contains line (record { place = j; number = n })
place_in_line pages numbers line j is long some =
    let within : j < length pages = has_row pages j some in
    let there = get_there numbers j (omega arith) in
    (there.0, get_or_is numbers j there.0 0 there.1, is.each j there.0 there.1)

pub sought_found : (pages : List (List Page)) (numbers : List ℕ) (after : Option ℕ) (line : List InstId) (rank : ℕ) (e : InstId) → IsLineOf numbers line → length numbers ≡ length pages
    → IsSoughtFrom pages numbers after line rank → rank < length line → 1 ≤ length (get_or pages (get_or line rank e).place []) → IsNextIn pages numbers after (get_or line rank e)
sought_found pages numbers after line rank e is long sought less some =
    let number = number_there numbers line rank e is less in
    record {
      number = number;
      later = (some, subst (IsAbove after) (sym number) (sought.ahead rank e (omega arith) less));
      lowest = λ j later. (
          let there = place_in_line pages numbers line j is long later.0 in
          let at : (k : ℕ) × (k < length line) × (get_or line k (record { place = j; number = there.0 }) ≡ record { place = j; number = there.0 }) = there.2 in
          elim (cases_lt at.0 rank) [
            | inl passed ↦ search rules
            | inr from ↦
                (let e1 : (get_or line rank (record { place = j; number = there.0 })).number ≤ (get_or line at.0 (record { place = j; number = there.0 })).number = is.ascending rank at.0 (record { place = j; number = there.0 }) from at.1 in
                let e2 = ap (λ (id : InstId). id.number) at.2 in
                let e3 = ap (λ (id : InstId). id.number) (get_or-any line rank e (record { place = j; number = there.0 }) less) in
                let e4 = there.1 in
                omega arith)
          ]);
    }

pub sought_none : (pages : List (List Page)) (numbers : List ℕ) (after : Option ℕ) (line : List InstId) (rank : ℕ) → IsLineOf numbers line → length numbers ≡ length pages
    → IsSoughtFrom pages numbers after line rank → length line ≤ rank → (i : ℕ) → ¬ ComesLater pages numbers after i
sought_none pages numbers after line rank is long sought past i later =
    let there = place_in_line pages numbers line i is long later.0 in
    let at : (k : ℕ) × (k < length line) × (get_or line k (record { place = i; number = there.0 }) ≡ record { place = i; number = there.0 }) = there.2 in
    sought.passed at.0 (record { place = i; number = there.0 }) (omega arith) (omega arith)
    (subst (λ (id : InstId). ComesLater pages numbers after id.place) (sym at.2) later)
