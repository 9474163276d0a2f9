-- A live instance can go: the memory that it leaves.
use Rattle.std.proofs.Common.{◌≡◌, ◌≢◌, ℕ, ◌+◌, ◌≤◌, inl, inr, true, false, List, [], ◌∷◌, ◌++◌, Some, None, length, slice_get, slice_set, zero, suc, refl, ap, ◌∙◌, subst, arith, rules}
use Rattle.std.proofs.lemmas.Bool.{cases_lt}
use Rattle.wh_space_model.specs.{tally, one_if, ticket_of, unpinned_of, Occupant, Space, occupant_at, sharers, Exits, freed_by, released_mark, released_use, IsSound, IsUsed, count, count_of, lies_in, owns, shares, stays_occupant}
use Rattle.wh_space_model.specs.declared.states.Page.{Page}
use Rattle.wh_space_model.specs.declared.states.Mark.{Mark}
use Rattle.wh_space_model.specs.declared.states.Slot.{Slot}
use Rattle.wh_space_model.proofs.Tally.{one_same, one_other, tally-append}
use Rattle.wh_space_model.proofs.Exited.{freed_less}

-- ---- each number below n, n times

times : ℕ → ℕ → List ℕ → List ℕ
times zero x xs = xs
times (suc m) x xs = x ∷ times m x xs

picked : (ℕ → ℕ) → ℕ → List ℕ
picked w zero = []
picked w (suc n) = times (w n) n (picked w n)

times_same : (m x : ℕ) (xs : List ℕ) → tally (one_if x) (times m x xs) ≡ m + tally (one_if x) xs
unfolding times
times_same zero x xs = omega arith
times_same (suc m) x xs = let rest = times_same m x xs in let o = one_same x x refl in omega arith

times_other : (m x f : ℕ) (xs : List ℕ) → f ≢ x → tally (one_if f) (times m x xs) ≡ tally (one_if f) xs
unfolding times
times_other zero x f xs other = omega arith
times_other (suc m) x f xs other = let rest = times_other m x f xs other in let o = one_other f x other in omega arith

picked_past : (w : ℕ → ℕ) (n f : ℕ) → n ≤ f → tally (one_if f) (picked w n) ≡ 0
unfolding picked
picked_past w zero f past = refl
picked_past w (suc n) f past =
    let rest = picked_past w n f (omega arith) in
    let here = times_other (w n) n f (picked w n) (λ e. omega arith) in
    omega arith

picked_many : (w : ℕ → ℕ) (n f : ℕ) → (n ≤ f → w f ≡ 0) → tally (one_if f) (picked w n) ≡ w f
unfolding picked
picked_many w zero f none = let z = none (omega arith) in omega arith
picked_many w (suc n) f none = elim (cases_lt f n) [
  | inl less ↦
      (let rest = picked_many w n f (λ past. absurd (omega arith)) in
      let here = times_other (w n) n f (picked w n) (λ e. omega arith) in
      omega arith)
  | inr most ↦ elim (cases_lt n f) [
    | inl past ↦ (let z = none (omega arith) in let p = picked_past w (suc n) f (omega arith) in omega arith)
    | inr same ↦ search (rules, picked_past, times_same, picked, times)
  ]
]

-- ---- each element of a list, by its place

by_place : {X : Type 0} → (ℕ → X → X) → List X → List X
by_place w [] = []
by_place w (x ∷ xs) = w 0 x ∷ by_place (λ k. w (suc k)) xs

by_place_long : {X : Type 0} (w : ℕ → X → X) (xs : List X) → length (by_place w xs) ≡ length xs
unfolding by_place
by_place_long w [] = refl
by_place_long w (x ∷ xs) = let rest = by_place_long (λ k. w (suc k)) xs in omega arith

by_place_at : {X : Type 0} (w : ℕ → X → X) (xs : List X) (k : ℕ) (x : X) → slice_get xs k ≡ Some x → slice_get (by_place w xs) k ≡ Some (w k x)
unfolding by_place
by_place_at w [] k x is = absurd (cc is)
by_place_at w (y ∷ xs) zero x is = let e : y ≡ x = cc is in ap (λ z. Some (w 0 z)) e
by_place_at w (y ∷ xs) (suc k) x is = by_place_at (λ j. w (suc j)) xs k x is

-- ---- what one row counts is within what all do

row_within : (kind : Page → ℕ) (ts : List (List Page)) (i : ℕ) → count_of kind ts i ≤ count kind ts
row_within kind [] i = omega arith
row_within kind (t ∷ ts) zero = omega arith
row_within kind (t ∷ ts) (suc i) = let rest = row_within kind ts i in omega arith

past_end : {X : Type 0} (xs : List X) (k : ℕ) → length xs ≤ k → slice_get xs k ≡ None
past_end [] k past = refl
past_end (x ∷ xs) zero past = absurd (omega arith)
past_end (x ∷ xs) (suc k) past = past_end xs k (omega arith)

-- ---- what is free, and what is vacant, then

given_back : Space → ℕ → ℕ → ℕ
given_back s i f = count_of (owns f) s.tables i + freed_by (count_of (shares f) s.tables i) (sharers s f)

no_frame_past : (s : Space) (i f : ℕ) → IsSound s → length s.pool.frames ≤ f → given_back s i f ≡ 0
unfolding given_back
no_frame_past s i f sound past =
    let none = sound.frames.none f past in
    let own = row_within (owns f) s.tables i in
    let share = row_within (shares f) s.tables i in
    let less = freed_less (sharers s f) (count_of (shares f) s.tables i) in
    omega arith

no_slot_past : (s : Space) (i k : ℕ) → IsSound s → length s.slots.uses ≤ k → count_of (lies_in k) s.tables i ≡ 0
no_slot_past s i k sound past =
    let used = subst (IsUsed s k) (past_end s.slots.uses k past) (sound.slots.used k) in
    let lies = used.0 in
    let row = row_within (lies_in k) s.tables i in
    omega arith

pub some_exit : (s : Space) (i : ℕ) (t : Occupant) → IsSound s → occupant_at s i t → t.live ≡ true → (s2 : Space) × Exits s i s2
unfolding given_back
some_exit s i t sound is live =
    let frames = picked (given_back s i) (length s.pool.frames) in
    let slots = picked (λ k. count_of (lies_in k) s.tables i) (length s.slots.uses) in
    let mark : ℕ → Mark → Mark = λ f. released_mark i (count_of (shares f) s.tables i) in
    let use_of : ℕ → Slot → Slot = λ k. released_use i (count_of (lies_in k) s.tables i) in (
      record {
        occupants = slice_set s.occupants i (stays_occupant (Some (record t { live = false; stands = None })) (tally (ticket_of i) s.slots.uses));
        tables = slice_set s.tables i [];
        touched = slice_set s.touched i [];
        pool = record { frames = s.pool.frames; free = (unpinned_of s i).pool.free ++ frames };
        marks = by_place mark s.marks;
        slots = record { uses = by_place use_of s.slots.uses; vacant = s.slots.vacant ++ slots; held = s.slots.held };
        pins = (unpinned_of s i).pins;
        tax = s.tax;
      },
      record {
        occupant = t;
        was = (is, live);
        tables = refl;
        touched = refl;
        bytes = refl;
        free = λ f. tally-append (one_if f) (unpinned_of s i).pool.free frames ∙ ap (λ z. tally (one_if f) (unpinned_of s i).pool.free + z) (picked_many (given_back s i) (length s.pool.frames) f (no_frame_past s i f sound));
        entries = by_place_long mark s.marks;
        marks = λ f m at. by_place_at mark s.marks f m at;
        held = refl;
        slots = by_place_long use_of s.slots.uses;
        vacant = λ k. tally-append (one_if k) s.slots.vacant slots ∙ ap (λ z. tally (one_if k) s.slots.vacant + z) (picked_many (λ j. count_of (lies_in j) s.tables i) (length s.slots.uses) k (no_slot_past s i k sound));
        uses = λ k x at. by_place_at use_of s.slots.uses k x at;
        occupants = refl;
        pins = refl;
        tax = refl;
      },
    )
