-- Whom frames are charged to: each frame on which pages stand to one instance; what that comes to in all; and what a page
-- that leaves or comes changes of it.
use Rattle.std.proofs.Common.{◌≡◌, ◌≢◌, ℕ, ◌+◌, ◌<◌, ◌≤◌, ◌==◌, ◌⊎◌, inl, inr, cond, nat_lt, min, true, false, Bool, List, [], ◌∷◌, Option, Some, None, length, slice_get, get_or, zero, suc, refl, sym, ap, ◌∙◌, ◌++◌, arith, length-set, rules}
use Rattle.std.proofs.lemmas.Bool.Decides.{nat_tests}
use Rattle.std.proofs.lemmas.Bool.{cases_lt}
use Rattle.wh_space_model.specs.{tally, one_if, Space, Occupant, occupant_at, of_occupant, kept, at, page_at, put, count, count_of, owns, shares, resident, below, fetches_into, tickets, Evicts, Fetches, ChargesAddUp, OneChargedPage, FramesAreSound, OccupantsAreSound, stands_on, standing, standing_before, occupant_number, frame_charge, charged_of, IsOn, IsChargedFor}
use Rattle.wh_space_model.proofs.Tally.{one_same, one_other, tally-append}
use Rattle.wh_space_model.specs.declared.states.Page.{Page}
use Rattle.wh_space_model.specs.declared.states.Page.TheVariants.{Untouched, Private, Shared, Leaving, LeavingShared, Coming, Swapped}
use Rattle.wh_space_model.proofs.Sums.{below_le, below_plus, below_zero, below_count, below_list, tally_plus}
use Rattle.wh_space_model.proofs.Putting.{here_or, put_other_row, row_put}
use Rattle.wh_space_model.proofs.Rooms.{slots_frames}

-- sums over numbers
pub below_at_most : (n k : ℕ) (v : ℕ → ℕ) → k < n → v k ≤ below n v
below_at_most zero k v less = absurd (omega arith)
below_at_most (suc n) k v less =
    elim (cases_lt k n) [
      | inl before ↦ let rest = below_at_most n k v before in omega arith
      | inr most ↦ let e : k ≡ n = omega arith in rw e (omega arith)
    ]

pub below_below : (n m : ℕ) (g : ℕ → ℕ → ℕ) → below n (λ k. below m (λ j. g k j)) ≡ below m (λ j. below n (λ k. g k j))
below_below zero m g = sym (below_zero m)
below_below (suc n) m g =
    let rest = below_below n m g in
    let parts = below_plus m (λ j. below n (λ k. g k j)) (λ j. g n j) in
    omega arith

all_none : (n : ℕ) (v : ℕ → ℕ) → ((k : ℕ) → k < n → v k ≡ 0) → below n v ≡ 0
all_none zero v each = refl
all_none (suc n) v each = let rest = all_none n v (λ k less. each k (omega arith)) in let one = each n (omega arith) in omega arith

-- where each but one is within a bound
pub below_but : (n i : ℕ) (v w : ℕ → ℕ) → i < n → ((k : ℕ) → k < n → k ≢ i → v k ≤ w k) → below n v + w i ≤ below n w + v i
below_but zero i v w less each = absurd (omega arith)
below_but (suc n) i v w less each =
    elim (cases_lt i n) [
      | inl before ↦ (let rest = below_but n i v w before (λ k b other. each k (omega arith) other) in let last = each n (omega arith) (λ e. omega arith) in omega arith)
      | inr most ↦ search (rules, below_le)
    ]

out_of : (n p c : ℕ) → n ≤ p → below n (λ k. cond (k == p) c 0) ≡ 0
out_of zero p c out = refl
out_of (suc n) p c out = let rest = out_of n p c (omega arith) in grind (arith, nat_tests, rest)

once_at_most : (n p c : ℕ) → below n (λ k. cond (k == p) c 0) ≤ c
once_at_most zero p c = omega arith
once_at_most (suc n) p c =
    elim (cases_lt p n) [
      | inl less ↦ let rest = once_at_most n p c in grind (arith, nat_tests, rest)
      | inr most ↦ let rest = out_of n p c most in grind (arith, nat_tests, rest)
    ]

-- a frame is charged to an instance at most once, and to one alone of whom pages stand there
charge_by : (before here : ℕ) → (cond (before == 0) (min 1 here) 0 ≤ 1) × (cond (before == 0) (min 1 here) 0 ≤ here)
charge_by before here = grind (arith, nat_tests)

pub charge_few : (s : Space) (i f : ℕ) → (frame_charge s i f ≤ 1) × (frame_charge s i f ≤ standing s i f)
charge_few s i f = charge_by (standing_before s i f) (standing s i f)

charge_first : (before here : ℕ) → 1 ≤ cond (before == 0) (min 1 here) 0 → (before ≡ 0) × (1 ≤ here)
charge_first before here some = grind (arith, nat_tests)

charge_is : (before here : ℕ) → before ≡ 0 → 1 ≤ here → cond (before == 0) (min 1 here) 0 ≡ 1
charge_is before here none some = grind (arith, nat_tests)

charge_more : (a b c d : ℕ) → c ≤ a → b ≤ d → cond (a == 0) (min 1 b) 0 ≤ cond (c == 0) (min 1 d) 0
charge_more a b c d less more = grind (arith, nat_tests)

-- fewer pages of earlier instances stand on the frame, and no fewer of its own: it is no less charged for it
pub charge_grows : (s s2 : Space) (k f : ℕ) → standing_before s2 k f ≤ standing_before s k f → standing s k f ≤ standing s2 k f → frame_charge s k f ≤ frame_charge s2 k f
charge_grows s s2 k f less more = charge_more (standing_before s k f) (standing s k f) (standing_before s2 k f) (standing s2 k f) less more

-- of those who have pages on frame f, one comes before all others
pub record IsEarliest (s : Space) (m i f : ℕ) : Type 0 where
  pub within : i < m
  pub there : 1 ≤ standing s i f
  pub least : (j : ℕ) → j < m → 1 ≤ standing s j f → occupant_number s i ≤ occupant_number s j

pub some_earliest : (s : Space) (f m : ℕ) → ((i : ℕ) × IsEarliest s m i f) ⊎ ((j : ℕ) → j < m → standing s j f ≡ 0)
some_earliest s f zero = inr (λ j less. absurd (omega arith))
some_earliest s f (suc m) =
    elim (cases_lt 0 (standing s m f)) [
      | inr zeros ↦
          elim (some_earliest s f m) [
            | inl found ↦ inl (
              found.0,
              record {
                within = (let w = found.1.within in omega arith);
                there = found.1.there;
                least = λ j less some. elim (cases_lt j m) [ inl before ↦ found.1.least j before some | inr most ↦ absurd (let e : j ≡ m = omega arith in let z : 1 ≤ standing s m f = rw (← e) some in omega arith) ];
              },
            )
            | inr none ↦ inr (λ j less. elim (cases_lt j m) [ inl before ↦ none j before | inr most ↦ let e : j ≡ m = omega arith in rw e (omega arith) ])
          ]
      | inl some ↦
          elim (some_earliest s f m) [
            | inr none ↦ inl (
              m,
              record {
                within = omega arith;
                there = some;
                least = λ j less more. elim (cases_lt j m) [ inl before ↦ absurd (let z = none j before in omega arith) | inr most ↦ let e : j ≡ m = omega arith in rw e (omega arith) ];
              },
            )
            | inl found ↦
                elim (cases_lt (occupant_number s m) (occupant_number s found.0)) [
                  | inl lower ↦ inl (
                    m,
                    record {
                      within = omega arith;
                      there = some;
                      least = λ j less more. elim (cases_lt j m) [ inl before ↦ (let z = found.1.least j before more in omega arith) | inr most ↦ let e : j ≡ m = omega arith in rw e (omega arith) ];
                    },
                  )
                  | inr higher ↦ inl (
                    found.0,
                    record {
                      within = (let w = found.1.within in omega arith);
                      there = found.1.there;
                      least = λ j less more. elim (cases_lt j m) [ inl before ↦ found.1.least j before more | inr most ↦ let e : j ≡ m = omega arith in rw e higher ];
                    },
                  )
                ]
          ]
    ]

before_none : (a b c : ℕ) → (1 ≤ c → b ≤ a) → cond (nat_lt a b) c 0 ≡ 0
before_none a b c least =
    elim (cases_lt 0 c) [
      | inl some ↦ (let l = least some in grind (arith, nat_tests))
      | inr zeros ↦ (let z : c ≡ 0 = omega arith in grind (arith, nat_tests))
    ]

-- and the frame is charged to that one
pub earliest_charged : (s : Space) (i f : ℕ) → IsEarliest s (length s.tables) i f → frame_charge s i f ≡ 1
earliest_charged s i f earliest =
    charge_is (standing_before s i f) (standing s i f)
    (all_none (length s.tables) (λ j. cond (nat_lt (occupant_number s j) (occupant_number s i)) (standing s j f) 0)
    (λ j less. before_none (occupant_number s j) (occupant_number s i) (standing s j f) (λ some. earliest.least j less some)))
    earliest.there

-- how many instances a frame is charged to: none if no page stands on it
count_below : (w : Page → ℕ) (tables : List (List Page)) → ((j : ℕ) → j < length tables → count_of w tables j ≡ 0) → count w tables ≡ 0
count_below w [] each = refl
count_below w (xs ∷ tables) each =
    let one : tally w xs ≡ 0 = each 0 (omega arith) in
    let rest = count_below w tables (λ j less. each (suc j) (omega arith)) in
    omega arith

both_kinds : (f : ℕ) (tables : List (List Page)) → count (stands_on f) tables ≡ count (owns f) tables + count (shares f) tables
both_kinds f [] = refl
both_kinds f (xs ∷ tables) = let one = tally_plus (owns f) (shares f) xs in let rest = both_kinds f tables in omega arith

pub someone_charged : (s : Space) (f : ℕ) → 1 ≤ count (owns f) s.tables + count (shares f) s.tables → 1 ≤ below (length s.tables) (λ j. frame_charge s j f)
someone_charged s f some =
    elim (some_earliest s f (length s.tables)) [
      | inl found ↦
          (let one = earliest_charged s found.0 f found.1 in
          let most = below_at_most (length s.tables) found.0 (λ j. frame_charge s j f) found.1.within in
          omega arith)
      | inr none ↦ absurd (let zeros = count_below (stands_on f) s.tables none in let both = both_kinds f s.tables in omega arith)
    ]

-- All frames are free, earmarked, held by tickets, or charged.
pub frames_charged : (s : Space) → FramesAreSound s
    → length s.pool.frames ≤ ((length s.pool.free + length (kept s.pins)) + tickets s) + below (length s.tables) (λ j. charged_of s j)
frames_charged s sound =
    let n = length s.pool.frames in
    let ones = below_count n in
    let each = below_le n (λ f. 1) (λ f. ((tally (one_if f) s.pool.free + tally (one_if f) (kept s.pins)) + tally (fetches_into f) s.slots.uses) + below (length s.tables) (λ j. frame_charge s j f))
    (λ f less. use_of f less) in
    let a = below_plus n (λ f. (tally (one_if f) s.pool.free + tally (one_if f) (kept s.pins)) + tally (fetches_into f) s.slots.uses) (λ f. below (length s.tables) (λ j. frame_charge s j f)) in
    let b = below_plus n (λ f. tally (one_if f) s.pool.free + tally (one_if f) (kept s.pins)) (λ f. tally (fetches_into f) s.slots.uses) in
    let c = below_plus n (λ f. tally (one_if f) s.pool.free) (λ f. tally (one_if f) (kept s.pins)) in
    let swap = below_below n (length s.tables) (λ f j. frame_charge s j f) in
    let free = below_list n s.pool.free in
    let keep = below_list n (kept s.pins) in
    let fetch = slots_frames n s.slots.uses in
    omega arith where
      use_of : (f : ℕ) → f < length s.pool.frames
          → 1 ≤ ((tally (one_if f) s.pool.free + tally (one_if f) (kept s.pins)) + tally (fetches_into f) s.slots.uses) + below (length s.tables) (λ j. frame_charge s j f)
      use_of f less =
          let one = sound.one f less in
          elim (cases_lt 0 (count (owns f) s.tables + count (shares f) s.tables)) [
            | inl some ↦ let k = someone_charged s f some in omega arith
            | inr zeros ↦ omega arith
          ]

-- Another page stands at a place, and frames and numbers are as before. On all frames but f as many pages of each
-- instance stand as before, and of all instances but that one on f too.
before_less : (s s2 : Space) (k f : ℕ) → s2.occupants ≡ s.occupants → length s2.tables ≡ length s.tables
    → ((j : ℕ) → standing s2 j f ≤ standing s j f) → standing_before s2 k f ≤ standing_before s k f
before_less s s2 k f same many each =
    rw (same, many) (below_le (length s.tables) (λ j. cond (nat_lt (of_occupant (λ t. t.number) (get_or s.occupants j None)) (of_occupant (λ t. t.number) (get_or s.occupants k None))) (standing s2 j f) 0)
    (λ j. cond (nat_lt (occupant_number s j) (occupant_number s k)) (standing s j f) 0) (λ j less. within (nat_lt (occupant_number s j) (occupant_number s k)) (each j))) where
      within : (b : Bool) {x y : ℕ} → x ≤ y → cond b x 0 ≤ cond b y 0
      within true le = le
      within false le = omega arith

-- what leaves frame f: nowhere do more pages stand than before, and only of one instance, on f, are they fewer
pub record IsRelieved (s s2 : Space) (j f : ℕ) : Type 0 where
  pub occupants : s2.occupants ≡ s.occupants
  pub tables : length s2.tables ≡ length s.tables
  pub frames : length s2.pool.frames ≡ length s.pool.frames
  pub fewer : (k g : ℕ) → standing s2 k g ≤ standing s k g
  pub others : (k g : ℕ) → (k ≢ j) ⊎ (g ≢ f) → standing s k g ≤ standing s2 k g

pub others_charged : (s s2 : Space) (j f k : ℕ) → IsRelieved s s2 j f → k ≢ j → charged_of s k ≤ charged_of s2 k
others_charged s s2 j f k less other =
    rw less.frames (below_le (length s.pool.frames) (λ g. frame_charge s k g) (λ g. frame_charge s2 k g)
    (λ g within. charge_grows s s2 k g (before_less s s2 k g less.occupants less.tables (λ h. less.fewer h g)) (less.others k g (inl other))))

pub own_charged : (s s2 : Space) (j f : ℕ) → IsRelieved s s2 j f → charged_of s j ≤ charged_of s2 j + frame_charge s j f
own_charged s s2 j f less =
    let n = length s.pool.frames in
    let each = below_le n (λ g. frame_charge s j g) (λ g. frame_charge s2 j g + cond (g == f) (frame_charge s j f) 0) (λ g within. at_frame g) in
    let parts = below_plus n (λ g. frame_charge s2 j g) (λ g. cond (g == f) (frame_charge s j f) 0) in
    let once = once_at_most n f (frame_charge s j f) in
    rw less.frames (omega arith) where
      at_frame : (g : ℕ) → frame_charge s j g ≤ frame_charge s2 j g + cond (g == f) (frame_charge s j f) 0
      at_frame g =
          elim (here_or f g) [
            | inl same ↦ rw same (let e : cond (f == f) (frame_charge s j f) 0 ≡ frame_charge s j f = is_there (frame_charge s j f) in omega arith)
            | inr other ↦ search (rules, charge_grows, before_less)
          ] where
            is_there : (c : ℕ) → cond (f == f) c 0 ≡ c
            is_there c = grind (arith, nat_tests)

pub number_is : (s : Space) (i : ℕ) (t : Occupant) → occupant_at s i t → occupant_number s i ≡ t.number
number_is s i t is = rw (got s.occupants i is) refl where
  got : (xs : List (Option Occupant)) (i : ℕ) → slice_get xs i ≡ Some (Some t) → get_or xs i None ≡ Some t
  got [] i h = cc
  got (x ∷ xs) zero h = let e : x ≡ Some t = cc in cc
  got (x ∷ xs) (suc i) h = got xs i h

counted_before : (s : Space) (i j f : ℕ) → j < length s.tables → occupant_number s j < occupant_number s i → standing s j f ≤ standing_before s i f
counted_before s i j f within less =
    let most = below_at_most (length s.tables) j (λ k. cond (nat_lt (occupant_number s k) (occupant_number s i)) (standing s k f) 0) within in
    let e : cond (nat_lt (occupant_number s j) (occupant_number s i)) (standing s j f) 0 ≡ standing s j f = is_less (occupant_number s j) (occupant_number s i) (standing s j f) less in
    omega arith where
      is_less : (a b c : ℕ) → a < b → cond (nat_lt a b) c 0 ≡ c
      is_less a b c less = grind (arith, nat_tests)

row_within : (w : Page → ℕ) (tables : List (List Page)) (j : ℕ) → 1 ≤ count_of w tables j → j < length tables
row_within w [] j some = absurd (omega arith)
row_within w (xs ∷ tables) zero some = omega arith
row_within w (xs ∷ tables) (suc j) some = let rest = row_within w tables j some in omega arith

-- A frame is charged to one instance alone.
pub charged_once : (s : Space) (i j f : ℕ) (t u : Occupant) → OccupantsAreSound s → occupant_at s i t → occupant_at s j u → 1 ≤ frame_charge s i f → 1 ≤ frame_charge s j f → i ≡ j
charged_once s i j f t u sound is also here there =
    let a = charge_first (standing_before s i f) (standing s i f) here in
    let b = charge_first (standing_before s j f) (standing s j f) there in
    let n = number_is s i t is in let m = number_is s j u also in
    sound.numbers i j t u is also (elim (cases_lt (occupant_number s i) (occupant_number s j)) [
      | inl less ↦ absurd (let k = counted_before s j i f (row_within (stands_on f) s.tables i a.1) less in let z = b.0 in let o = a.1 in omega arith)
      | inr most ↦ elim (cases_lt (occupant_number s j) (occupant_number s i)) [
        | inl less ↦ absurd (let k = counted_before s i j f (row_within (stands_on f) s.tables j b.1) less in let z = a.0 in let o = b.1 in omega arith)
        | inr most2 ↦ omega arith
      ]
    ])

-- who has pages has a place
pub occupied : (w : Page → ℕ) (s : Space) (i : ℕ) → OccupantsAreSound s → 1 ≤ count_of w s.tables i → (t : Occupant) × occupant_at s i t
occupied w s i sound some = go (slice_get s.occupants i) refl where
  past : (xs : List (Option Occupant)) (i : ℕ) → slice_get xs i ≡ None → length xs ≤ i
  past [] i h = omega arith
  past (x ∷ xs) zero h = cc
  past (x ∷ xs) (suc i) h = let k = past xs i h in omega arith

  go : (o : Option (Option Occupant)) → slice_get s.occupants i ≡ o → (t : Occupant) × occupant_at s i t
  go (Some (Some t)) is = (t, is)
  go (Some None) is = absurd (let e : get_or s.tables i [] ≡ [] = sound.have i None is in let z : count_of w s.tables i ≡ 0 = rw e refl in omega arith)
  go None is = absurd (let k = past s.occupants i is in let l = row_within w s.tables i some in let m = sound.tables in omega arith)

-- of the pages of a list that count, the first
pub first_of : (w : Page → ℕ) (xs : List Page) → 1 ≤ tally w xs → (p : ℕ) × (1 ≤ at w (slice_get xs p)) × ((q : ℕ) → 1 ≤ at w (slice_get xs q) → p ≤ q)
first_of w [] some = absurd (omega arith)
first_of w (x ∷ xs) some =
    elim (cases_lt 0 (w x)) [
      | inl here ↦ (0, here, λ q there. omega arith)
      | inr zeros ↦ behind zeros (first_of w xs (left zeros some))
    ] where
      left : w x ≤ 0 → 1 ≤ w x + tally w xs → 1 ≤ tally w xs
      left zeros some = omega arith

      after : w x ≤ 0 → (p : ℕ) → ((q : ℕ) → 1 ≤ at w (slice_get xs q) → p ≤ q) → (q : ℕ) → 1 ≤ at w (slice_get (x ∷ xs) q) → suc p ≤ q
      after zeros p least zero there = absurd (let k : 1 ≤ w x = there in omega arith)
      after zeros p least (suc q) there = let k = least q there in omega arith

      behind : w x ≤ 0 → (p : ℕ) × (1 ≤ at w (slice_get xs p)) × ((q : ℕ) → 1 ≤ at w (slice_get xs q) → p ≤ q)
          → (p : ℕ) × (1 ≤ at w (slice_get (x ∷ xs) p)) × ((q : ℕ) → 1 ≤ at w (slice_get (x ∷ xs) q) → p ≤ q)
      behind zeros (p, there, least) = (suc p, there, λ q is. after zeros p least q is)

pub in_row : (w : Page → ℕ) (xs : List Page) (p : ℕ) → at w (slice_get xs p) ≤ tally w xs
in_row w [] p = omega arith
in_row w (x ∷ xs) zero = omega arith
in_row w (x ∷ xs) (suc p) = let k = in_row w xs p in omega arith

pub in_tables : (w : Page → ℕ) (tables : List (List Page)) (i : ℕ) → count_of w tables i ≤ count w tables
in_tables w [] i = omega arith
in_tables w (xs ∷ tables) zero = omega arith
in_tables w (xs ∷ tables) (suc i) = let k = in_tables w tables i in omega arith

one_few : (f g : ℕ) → one_if f g ≤ 1
one_few f g = elim (here_or f g) [ inl same ↦ (let o = one_same f g (sym same) in omega arith) | inr other ↦ (let o = one_other f g (λ e. other (sym e)) in omega arith) ]

pub on_once : (f : ℕ) (x : Option Page) → (at (stands_on f) x ≤ 1) × (at (stands_on f) x ≤ at resident x)
on_once f None = (omega arith, omega arith)
on_once f (Some Untouched) = (omega arith, omega arith)
on_once f (Some (Private g)) = let k = one_few f g in (omega arith, omega arith)
on_once f (Some (Shared g)) = let k = one_few f g in (omega arith, omega arith)
on_once f (Some (Leaving g)) = let k = one_few f g in (omega arith, omega arith)
on_once f (Some (LeavingShared g)) = let k = one_few f g in (omega arith, omega arith)
on_once f (Some (Coming k)) = (omega arith, omega arith)
on_once f (Some (Swapped k)) = (omega arith, omega arith)

-- to whom a frame is charged has its charged page
pub charged_page : (s : Space) (i f : ℕ) → 1 ≤ frame_charge s i f → (p : ℕ) × IsChargedFor s i p f
charged_page s i f some =
    let parts = charge_first (standing_before s i f) (standing s i f) some in
    let found = first_of (stands_on f) (get_or s.tables i []) parts.1 in (
      found.0,
      record {
        on = (let k = on_once f (page_at s.tables i found.0) in let a = k.0 in let b = found.1 in omega arith);
        first = search (rules, cases_lt, in_row, counted_before, row_within);
        lowest = λ q on. found.2 q (omega arith);
      },
    )

-- and the charged page of a frame is its instance's: there is one such page alone
pub charged_alone : (s : Space) (i j p q f : ℕ) (t u : Occupant) → OccupantsAreSound s → occupant_at s i t → occupant_at s j u → IsChargedFor s i p f → IsChargedFor s j q f → (i ≡ j) × (p ≡ q)
charged_alone s i j p q f t u sound is also here there =
    let n = number_is s i t is in let m = number_is s j u also in
    let a = here.first j q there.on in let b = there.first i p here.on in
    let same : i ≡ j = sound.numbers i j t u is also (omega arith) in
    (same, go same) where
      go : i ≡ j → p ≡ q
      go same =
          let on : IsOn s i q f = rw same there.on in
          let on2 : IsOn s j p f = rw (← same) here.on in
          let a = here.lowest q on in let b = there.lowest p on2 in
          omega arith

-- a frame on which pages stand has a charged page
pub some_charged_page : (s : Space) (f : ℕ) → 1 ≤ count (stands_on f) s.tables → (i p : ℕ) × IsChargedFor s i p f
some_charged_page s f some =
    elim (some_earliest s f (length s.tables)) [
      | inl found ↦ (let c = earliest_charged s found.0 f found.1 in let page = charged_page s found.0 f (omega arith) in (found.0, page.0, page.1))
      | inr none ↦ absurd (let zeros = count_below (stands_on f) s.tables none in omega arith)
    ]

-- a page that goes to a slot relieves its frame
pub relieved : (s : Space) (j p : ℕ) (s2 : Space) (moves : Evicts s j p s2) → IsRelieved s s2 j moves.frame
relieved s j p s2 moves =
    let y : Page = Swapped moves.slot in
    let tables : s2.tables ≡ put s.tables j p y = ap (λ a. a.tables) moves.leaves in
    record {
      occupants = ap (λ a. a.occupants) moves.leaves;
      tables = ap length tables ∙ length-set s.tables j _;
      frames = ap (λ a. length a.pool.frames) moves.leaves;
      fewer = λ k g. (elim (here_or j k) [
        | inr away ↦ (let row : standing s2 k g ≡ standing s k g = rw tables (ap (tally (stands_on g)) (put_other_row s.tables j p k y away)) in omega arith)
        | inl same ↦ (let k = left g in rw same (omega arith))
      ]);
      others = λ k g apart. (elim (here_or j k) [
        | inr away ↦ (let row : standing s2 k g ≡ standing s k g = rw tables (ap (tally (stands_on g)) (put_other_row s.tables j p k y away)) in omega arith)
        | inl same ↦ (let l = left g in let o : one_if g moves.frame ≡ 0 = elim apart [ inl other ↦ absurd (other same) | inr other ↦ one_other g moves.frame other ] in rw same (omega arith))
      ]);
    } where
      stood : (g : ℕ) → (x : Page) × (page_at s.tables j p ≡ Some x) × (stands_on g x ≡ one_if g moves.frame)
      stood g = elim moves.page [ inl e ↦ (Private moves.frame, e, omega arith) | inr e ↦ (Shared moves.frame, e, omega arith) ]

      left : (g : ℕ) → standing s2 j g + one_if g moves.frame ≡ standing s j g
      left g =
          let y : Page = Swapped moves.slot in
          let tables : s2.tables ≡ put s.tables j p y = ap (λ a. a.tables) moves.leaves in
          let x = stood g in
          let row : count_of (stands_on g) (put s.tables j p y) j + stands_on g x.0 ≡ standing s j g + 0 = row_put (stands_on g) s.tables j p x.0 y x.1 in
          let e = x.2 in
          let now : standing s2 j g ≡ count_of (stands_on g) (put s.tables j p y) j = rw tables refl in
          omega arith

-- it stood there
stood_here : (s : Space) (j p f g : ℕ) → (page_at s.tables j p ≡ Some (Private g)) ⊎ (page_at s.tables j p ≡ Some (Shared g)) → at (shares f) (page_at s.tables j p) ≡ 1 → g ≡ f
stood_here s j p f g (inl e) is = absurd (let k : at (shares f) (Some (Private g)) ≡ 1 = rw e at is in omega arith)
stood_here s j p f g (inr e) is =
    elim (here_or f g) [
      | inl same ↦ same
      | inr other ↦ absurd (let k : at (shares f) (Some (Shared g)) ≡ 1 = rw e at is in let o = one_other f g (λ q. other (sym q)) in omega arith)
    ]

pub stood_there : (s : Space) (j p : ℕ) (s2 : Space) (moves : Evicts s j p s2) (f : ℕ) → at (shares f) (page_at s.tables j p) ≡ 1 → moves.frame ≡ f
stood_there s j p s2 moves f is = stood_here s j p f moves.frame moves.page is

-- a page that comes to a free frame changes what nobody else is charged
pub none_on_free : (s : Space) (f k : ℕ) → FramesAreSound s → 1 ≤ tally (one_if f) s.pool.free → standing s k f ≡ 0
none_on_free s f k sound free =
    let row = in_tables (stands_on f) s.tables k in
    let both = both_kinds f s.tables in
    elim (cases_lt f (length s.pool.frames)) [
      | inl less ↦ (let one = sound.one f less in omega arith)
      | inr most ↦ (let no = sound.none f most in omega arith)
    ]

free_there : (f : ℕ) (others : List ℕ) → 1 ≤ tally (one_if f) (others ++ f ∷ [])
free_there f others = (let a = tally-append (one_if f) others (f ∷ []) in let o = one_same f f refl in omega arith)

pub come_charged : (s : Space) (i p : ℕ) (bytes : List ℕ) (s2 : Space) → FramesAreSound s → Fetches s i p bytes s2 → (k : ℕ) → k ≢ i → charged_of s k ≤ charged_of s2 k
come_charged s i p bytes s2 sound moves k other =
    let y : Page = Private moves.frame in
    let tables : s2.tables ≡ put s.tables i p y = ap (λ a. a.tables) moves.leaves in
    let occupants : s2.occupants ≡ s.occupants = ap (λ a. a.occupants) moves.leaves in
    let many : length s2.tables ≡ length s.tables = ap length tables ∙ length-set s.tables i _ in
    let frames : length s2.pool.frames ≡ length s.pool.frames = ap (λ a. length a.pool.frames) moves.leaves ∙ length-set s.pool.frames moves.frame _ in
    rw frames (below_le (length s.pool.frames) (λ g. frame_charge s k g) (λ g. frame_charge s2 k g)
    (λ g within. elim (here_or moves.frame g) [
      | inl same ↦ search (rules, free_there, none_on_free, charge_few)
      | inr away ↦
          charge_grows s s2 k g (before_less s s2 k g occupants many (λ h. let e = rows g away h in omega arith)) (let e = rows g away k in omega arith)
    ])) where
      rows : (g : ℕ) → g ≢ moves.frame → (h : ℕ) → standing s2 h g ≡ standing s h g
      rows g away h =
          let y : Page = Private moves.frame in
          let tables : s2.tables ≡ put s.tables i p y = ap (λ a. a.tables) moves.leaves in
          elim (here_or i h) [
            | inr apart ↦ rw tables (ap (tally (stands_on g)) (put_other_row s.tables i p h y apart))
            | inl same ↦ search (rules, row_put, one_other)
          ]

-- A frame on which pages stand has exactly one charged page, which is the instance's to whom the frame is charged.
pub charged_to : (s : Space) (i p f : ℕ) → IsChargedFor s i p f → frame_charge s i f ≡ 1
charged_to s i p f charged =
    let row = in_row (stands_on f) (get_or s.tables i []) p in
    let on = charged.on in
    charge_is (standing_before s i f) (standing s i f)
    (all_none (length s.tables) (λ j. cond (nat_lt (occupant_number s j) (occupant_number s i)) (standing s j f) 0)
    (λ j less. before_none (occupant_number s j) (occupant_number s i) (standing s j f) (λ some. not_before j some)))
    (omega arith) where
      not_before : (j : ℕ) → 1 ≤ standing s j f → occupant_number s i ≤ occupant_number s j
      not_before j some =
          let found = first_of (stands_on f) (get_or s.tables j []) some in
          let k = on_once f (page_at s.tables j found.0) in let a = k.0 in let b = found.1 in
          charged.first j found.0 (omega arith)

-- it is charged to at most one
none_at : (m : ℕ) (v : ℕ → ℕ) → 1 ≤ v m → ((j k : ℕ) → 1 ≤ v j → 1 ≤ v k → j ≡ k) → (k : ℕ) → k < m → v k ≡ 0
none_at m v some once k less =
    elim (cases_lt 0 (v k)) [
      | inr zeros ↦ omega arith
      | inl here ↦ absurd (let e = once k m here some in omega arith)
    ]

once_charged : (m : ℕ) (v : ℕ → ℕ) → ((k : ℕ) → v k ≤ 1) → ((j k : ℕ) → 1 ≤ v j → 1 ≤ v k → j ≡ k) → below m v ≤ 1
once_charged zero v few once = omega arith
once_charged (suc m) v few once =
    elim (cases_lt 0 (v m)) [
      | inr zeros ↦ (let rest = once_charged m v few once in omega arith)
      | inl some ↦ (let rest = all_none m v (none_at m v some once) in let one = few m in omega arith)
    ]

none_charged : (m : ℕ) (v w : ℕ → ℕ) → ((k : ℕ) → v k ≤ w k) → ((k : ℕ) → w k ≡ 0) → below m v ≡ 0
none_charged m v w most none = all_none m v (λ k less. (let a = most k in let b = none k in omega arith))

row_none : (w : Page → ℕ) (tables : List (List Page)) (j : ℕ) → count w tables ≡ 0 → count_of w tables j ≡ 0
row_none w tables j none = let k = in_tables w tables j in omega arith

pub charges_of_frame : (s : Space) (f : ℕ) → OccupantsAreSound s → below (length s.tables) (λ j. frame_charge s j f) ≡ min 1 (count (stands_on f) s.tables)
charges_of_frame s f sound =
    elim (cases_lt 0 (count (stands_on f) s.tables)) [
      | inl some ↦
          (let both = both_kinds f s.tables in
          let someone = someone_charged s f (omega arith) in
          let once = once_charged (length s.tables) (λ j. frame_charge s j f) (λ j. (charge_few s j f).0) (λ j k here there. (
          let a = (charge_few s j f).1 in let b = (charge_few s k f).1 in
          let t = occupied (stands_on f) s j sound (omega arith) in
          let u = occupied (stands_on f) s k sound (omega arith) in
          charged_once s j k f t.0 u.0 sound t.1 u.1 here there)) in
          omega arith)
      | inr zeros ↦ search (rules, none_charged, charge_few, row_none)
    ]

-- all charges together are as many as the frames on which pages stand
pub charges_in_all : (s : Space) → OccupantsAreSound s → below (length s.tables) (λ j. charged_of s j) ≡ below (length s.pool.frames) (λ f. min 1 (count (stands_on f) s.tables))
charges_in_all s sound =
    let swap = below_below (length s.pool.frames) (length s.tables) (λ f j. frame_charge s j f) in
    let each = below_equal (length s.pool.frames) (λ f. below (length s.tables) (λ j. frame_charge s j f)) (λ f. min 1 (count (stands_on f) s.tables)) (λ f. charges_of_frame s f sound) in
    sym swap ∙ each where
      below_equal : (n : ℕ) (v w : ℕ → ℕ) → ((k : ℕ) → v k ≡ w k) → below n v ≡ below n w
      below_equal zero v w each = refl
      below_equal (suc n) v w each = let rest = below_equal n v w each in let one = each n in omega arith

pub charges_add_up : ChargesAddUp
charges_add_up s sound = charges_in_all s sound.occupants

pub one_charged_page : OneChargedPage
one_charged_page s f sound some =
    let page = some_charged_page s f some in (
      page.0,
      page.1,
      page.2,
      charged_to s page.0 page.1 f page.2,
      λ j q also. (
          let t = owner_of page.0 page.1 page.2 in let u = owner_of j q also in
          charged_alone s page.0 j page.1 q f t.0 u.0 sound.occupants t.1 u.1 page.2 also),
    ) where
      owner_of : (i p : ℕ) → IsChargedFor s i p f → (t : Occupant) × occupant_at s i t
      owner_of i p charged = (let row = in_row (stands_on f) (get_or s.tables i []) p in let on = charged.on in occupied (stands_on f) s i sound.occupants (omega arith))

-- the lowest page of the one to whom the frame is charged is its charged page
pub charged_at : (s : Space) (i p f : ℕ) → frame_charge s i f ≡ 1 → IsOn s i p f → ((q : ℕ) → IsOn s i q f → p ≤ q) → IsChargedFor s i p f
charged_at s i p f charged on lowest =
    let found = charged_page s i f (omega arith) in
    record { on = on; first = found.1.first; lowest = lowest }
