-- An instance that goes leaves everything sound.
use Rattle.std.proofs.Common.{◌≡◌, ◌≢◌, ℕ, ◌+◌, ◌-◌, ◌<◌, ◌≤◌, ◌==◌, ◌⊎◌, inl, inr, cond, min, nat_lt, true, false, Bool, List, [], ◌∷◌, Option, Some, None, length, slice_get, slice_set, get_or, suc, refl, sym, ap, ◌∙◌, subst, arith, length-set, rules}
use Rattle.std.proofs.lemmas.Bool.Decides.{nat_tests}
use Rattle.std.proofs.lemmas.List.{get_or-set_same, get_or-set_other}
use Rattle.wh_space_model.specs.{tally, one_if, ExitsSoundly, fetches_into, ticket_of, has_pins, unpinned, unpinned_of, Exits, freed_by, released_mark, released_use, FramesAreSound, HasHash, HasTable, IsSound, IsUsed, LeavesBy, Names, SlotsAreSound, Occupant, Pins, Space, kept, occupant_at, of_occupant, pinned_by, sharers, at, comes_from, count, count_of, leaving, lies_in, owns, page_at, shares, settled, stays_occupant}
use Rattle.wh_space_model.proofs.Tally.{one_same, tally-append}
use Rattle.wh_space_model.specs.declared.Tax.{Tax}
use Rattle.wh_space_model.specs.declared.states.Page.{Page}
use Rattle.wh_space_model.specs.declared.states.Page.TheVariants.{Coming}
use Rattle.wh_space_model.specs.declared.states.Mark.{Mark}
use Rattle.wh_space_model.specs.declared.states.Mark.TheVariants.{Plain, Hint, Sharers, Unlisted}
use Rattle.wh_space_model.specs.declared.states.Slot.{Slot}
use Rattle.wh_space_model.specs.declared.states.Slot.TheVariants.{Vacant, Taken, Evicting, EvictVoid, Fetching, FetchVoid}
use Rattle.wh_space_model.proofs.Putting.{cond_here, cond_other, get_pages, here_or, set_other, set_same, there_of}
use Rattle.wh_space_model.proofs.Quiet.{unpinned_ends}
use Rattle.wh_space_model.proofs.Rooms.{get_there}
use Rattle.wh_space_model.proofs.Rows.{rows_sum}
use Rattle.wh_space_model.proofs.Sent.{set_set}
use Rattle.wh_space_model.proofs.Settled.{IsSoundBut, is_sound_settled}
use Rattle.wh_space_model.proofs.Sums.{get_tally, set_tally}

-- pins and earmarks that end
unpinned_sum : (s : Space) (i f : ℕ) → tally (one_if f) (unpinned_of s i).pool.free + tally (one_if f) (kept (unpinned_of s i).pins) ≡ tally (one_if f) s.pool.free + tally (one_if f) (kept s.pins)
unpinned_sum s i f = go (has_pins s.pins i) where
  go : (b : Bool) → tally (one_if f) (cond b (unpinned s) s).pool.free + tally (one_if f) (kept (cond b (unpinned s) s).pins) ≡ tally (one_if f) s.pool.free + tally (one_if f) (kept s.pins)
  go true = let e = tally-append (one_if f) s.pool.free (kept s.pins) in omega arith
  go false = refl

unpinned_few : (s : Space) (i : ℕ) → length (kept s.pins) ≤ 2 → length (kept (unpinned_of s i).pins) ≤ 2
unpinned_few s i few = go (has_pins s.pins i) where
  go : (b : Bool) → length (kept (cond b (unpinned s) s).pins) ≤ 2
  go true = omega arith
  go false = few

unpinned_less : (s : Space) (i j p : ℕ) → 1 ≤ tally (one_if p) (pinned_by (unpinned_of s i).pins j) → (j ≢ i) × (1 ≤ tally (one_if p) (pinned_by s.pins j))
unpinned_less s i j p some = (
  λ same. (let none = (unpinned_ends s i (has_pins s.pins i) refl).1 in let e : pinned_by (unpinned_of s i).pins j ≡ [] = ap (pinned_by (unpinned_of s i).pins) same ∙ none in let l = ap (tally (one_if p)) e in omega arith),
  go (has_pins s.pins i) some,
) where
  go : (b : Bool) → 1 ≤ tally (one_if p) (pinned_by (cond b (unpinned s) s).pins j) → 1 ≤ tally (one_if p) (pinned_by s.pins j)
  go true some = absurd (omega arith)
  go false some = some

unpinned_place : (s : Space) (i : ℕ) (pins : Pins) → (unpinned_of s i).pins ≡ Some pins → (s.pins ≡ Some pins) × (pins.place ≢ i)
unpinned_place s i pins is = go (has_pins s.pins i) refl is where
  differs : (pins.place == i) ≡ false → pins.place ≢ i
  differs e = grind (arith, nat_tests)

  go : (b : Bool) → has_pins s.pins i ≡ b → (cond b (unpinned s) s).pins ≡ Some pins → (s.pins ≡ Some pins) × (pins.place ≢ i)
  go true e is = absurd (let bad : None ≡ Some pins = is in cc)
  go false e is = (is, differs (sym (ap (λ a. has_pins a i) is) ∙ e))

-- two lists side by side with the same sum
pub pointwise : {X : Type 0} (w : X → ℕ) (xs ys : List X) → length ys ≡ length xs → ((k : ℕ) (x : X) → slice_get xs k ≡ Some x → (y : X) × (slice_get ys k ≡ Some y) × (w y ≡ w x)) → tally w ys ≡ tally w xs
pointwise w [] [] same each = refl
pointwise w [] (y ∷ ys) same each = absurd (omega arith)
pointwise w (x ∷ xs) [] same each = absurd (omega arith)
pointwise w (x ∷ xs) (y ∷ ys) same each =
    let first = each 0 x refl in
    let one : y ≡ first.0 = (let e : Some y ≡ Some first.0 = first.1 in cc) in
    let a = ap w one in
    let b = first.2 in
    let rest = pointwise w xs ys (omega arith) (λ k z is. each (suc k) z is) in
    omega arith

option_of : {X : Type 0} (o : Option X) → (o ≡ None) ⊎ ((x : X) × (o ≡ Some x))
option_of None = inl refl
option_of (Some x) = inr (x, refl)

-- what use and tickets there are after a release
use_fetch : (i n f : ℕ) (x : Slot) → fetches_into f (released_use i n x) ≡ fetches_into f x
use_fetch i n f Vacant = refl
use_fetch i n f Taken = go (nat_lt 0 n) where
  go : (b : Bool) → fetches_into f (cond b Vacant Taken) ≡ 0
  go true = refl
  go false = refl
use_fetch i n f (Evicting j p) = go (i == j) where
  go : (b : Bool) → fetches_into f (cond b (EvictVoid j) (Evicting j p)) ≡ 0
  go true = refl
  go false = refl
use_fetch i n f (EvictVoid j) = refl
use_fetch i n f (Fetching j p g) = go (i == j) where
  go : (b : Bool) → fetches_into f (cond b (FetchVoid j g) (Fetching j p g)) ≡ one_if f g
  go true = refl
  go false = refl
use_fetch i n f (FetchVoid j g) = refl

use_ticket : (i n h : ℕ) (x : Slot) → ticket_of h (released_use i n x) ≡ ticket_of h x
use_ticket i n h Vacant = refl
use_ticket i n h Taken = go (nat_lt 0 n) where
  go : (b : Bool) → ticket_of h (cond b Vacant Taken) ≡ 0
  go true = refl
  go false = refl
use_ticket i n h (Evicting j p) = go (i == j) where
  go : (b : Bool) → ticket_of h (cond b (EvictVoid j) (Evicting j p)) ≡ one_if h j
  go true = refl
  go false = refl
use_ticket i n h (EvictVoid j) = refl
use_ticket i n h (Fetching j p g) = go (i == j) where
  go : (b : Bool) → ticket_of h (cond b (FetchVoid j g) (Fetching j p g)) ≡ one_if h j
  go true = refl
  go false = refl
use_ticket i n h (FetchVoid j g) = refl

-- which tickets of pages that leave there are
use_leaver : (i n h : ℕ) (x : Slot) → LeavesBy h (Some (released_use i n x)) ≡ LeavesBy h (Some x)
use_leaver i n h Vacant = refl
use_leaver i n h Taken = go (nat_lt 0 n) where
  go : (b : Bool) → LeavesBy h (Some (cond b Vacant Taken)) ≡ ⊥
  go true = refl
  go false = refl
use_leaver i n h (Evicting j p) = go (i == j) where
  go : (b : Bool) → LeavesBy h (Some (cond b (EvictVoid j) (Evicting j p))) ≡ (j ≡ h)
  go true = refl
  go false = refl
use_leaver i n h (EvictVoid j) = refl
use_leaver i n h (Fetching j p g) = go (i == j) where
  go : (b : Bool) → LeavesBy h (Some (cond b (FetchVoid j g) (Fetching j p g))) ≡ ⊥
  go true = refl
  go false = refl
use_leaver i n h (FetchVoid j g) = refl

-- a void fetch was one, or was a fetch of the one that goes
use_void : (i n j g : ℕ) (x : Slot) → released_use i n x ≡ FetchVoid j g → (x ≡ FetchVoid j g) ⊎ (j ≡ i)
use_void i n j g Vacant e = absurd (let bad : Vacant ≡ FetchVoid j g = e in cc)
use_void i n j g Taken e = absurd (go (nat_lt 0 n) e) where
  go : (b : Bool) → cond b Vacant Taken ≡ FetchVoid j g → ⊥
  go true e = cc
  go false e = cc
use_void i n j g (Evicting h p) e = absurd (go (i == h) e) where
  go : (b : Bool) → cond b (EvictVoid h) (Evicting h p) ≡ FetchVoid j g → ⊥
  go true e = cc
  go false e = cc
use_void i n j g (EvictVoid h) e = absurd (let bad : EvictVoid h ≡ FetchVoid j g = e in cc)
use_void i n j g (Fetching h p f) e = inr (go (i == h) refl e) where
  equal : (i == h) ≡ true → h ≡ i
  equal t = grind (arith, nat_tests)

  go : (b : Bool) → (i == h) ≡ b → cond b (FetchVoid h f) (Fetching h p f) ≡ FetchVoid j g → j ≡ i
  go true t e = (let one : h ≡ j = cc in sym one ∙ equal t)
  go false t e = absurd (cc)
use_void i n j g (FetchVoid h f) e = inl e

-- frames of which the last sharers go
freed_sum : (n t m : ℕ) → m + t ≡ n → min 1 m + freed_by t n ≡ min 1 n
freed_sum n t m sum = go (nat_lt t n) refl where
  less : nat_lt t n ≡ true → t < n
  less e = grind (arith, nat_tests)

  most : nat_lt t n ≡ false → n ≤ t
  most e = grind (arith, nat_tests)

  go : (b : Bool) → nat_lt t n ≡ b → min 1 m + cond b 0 (min 1 t) ≡ min 1 n
  go true e = let l = less e in omega arith
  go false e = let l = most e in omega arith

pub freed_less : (n t : ℕ) → freed_by t n ≤ t
freed_less n t = go (nat_lt t n) where
  go : (b : Bool) → cond b 0 (min 1 t) ≤ t
  go true = omega arith
  go false = omega arith

fewer_hash : (i t : ℕ) (m : Mark) (hash : ℕ) → HasHash (Some (released_mark i t m)) hash → HasHash (Some m) hash
fewer_hash i t Plain hash has = has
fewer_hash i t (Hint h j p) hash has = go (i == j) has where
  go : (b : Bool) → HasHash (Some (cond b Plain (Hint h j p))) hash → h ≡ hash
  go true has = absurd has
  go false has = has
fewer_hash i t (Sharers h n) hash has = go (nat_lt t n) has where
  go : (b : Bool) → HasHash (Some (cond b (Sharers h (n - t)) Plain)) hash → h ≡ hash
  go true has = has
  go false has = absurd has
fewer_hash i t (Unlisted n) hash has = go (nat_lt t n) has where
  go : (b : Bool) → HasHash (Some (cond b (Unlisted (n - t)) Plain)) hash → ⊥
  go true has = has
  go false has = has

-- The instance at place i has no pages any more, and is marked as released.
unfoldable gone : Space → ℕ → Occupant → List ℕ → List Mark → List Slot → List ℕ → Option Pins → Space
gone s i occupant free marks uses vacant pins = record s {
  occupants = slice_set s.occupants i (Some (record occupant { live = false; stands = None }));
  tables = slice_set s.tables i [];
  touched = slice_set s.touched i [];
  pool = record s.pool { free = free };
  marks = marks;
  slots = record s.slots { uses = uses; vacant = vacant };
  pins = pins;
}

-- what is said of frames, entries and slots of a release
record IsLeft (s : Space) (i : ℕ) (free : List ℕ) (marks : List Mark) (uses : List Slot) (vacant : List ℕ) : Type 0 where
  frees : (f : ℕ) → tally (one_if f) free ≡ tally (one_if f) (unpinned_of s i).pool.free + (count_of (owns f) s.tables i + freed_by (count_of (shares f) s.tables i) (sharers s f))
  entries : length marks ≡ length s.marks
  marked : (f : ℕ) (m : Mark) → slice_get s.marks f ≡ Some m → slice_get marks f ≡ Some (released_mark i (count_of (shares f) s.tables i) m)
  many : length uses ≡ length s.slots.uses
  vacants : (k : ℕ) → tally (one_if k) vacant ≡ tally (one_if k) s.slots.vacant + count_of (lies_in k) s.tables i
  used : (k : ℕ) (x : Slot) → slice_get s.slots.uses k ≡ Some x → slice_get uses k ≡ Some (released_use i (count_of (lies_in k) s.tables i) x)

-- the rows of the others are as they were, and that of the one that goes is empty
row_away : (s : Space) (i j q : ℕ) → j ≢ i → page_at (slice_set s.tables i []) j q ≡ page_at s.tables j q
row_away s i j q other = ap (λ xs. slice_get xs q) (get_or-set_other s.tables i j [] [] other)

row_here : (s : Space) (i q : ℕ) → i < length s.tables → page_at (slice_set s.tables i []) i q ≡ None
row_here s i q within = ap (λ xs. slice_get xs q) (get_or-set_same s.tables i [] [] within)

kind_left : (s : Space) (i j q : ℕ) (w : Page → ℕ) → i < length s.tables → at w (page_at (slice_set s.tables i []) j q) ≡ 1 → (j ≢ i) × (at w (page_at s.tables j q) ≡ 1)
kind_left s i j q w within is = elim (here_or i j) [
  | inr other ↦ (λ e. other e, ap (at w) (sym (row_away s i j q (λ e. other e))) ∙ is)
  | inl same ↦ absurd (let e : at w (page_at (slice_set s.tables i []) j q) ≡ 0 = rw same (ap (at w) (row_here s i q within)) in omega arith)
]

mark_before : (s : Space) (i f : ℕ) (m : Mark) (free : List ℕ) (marks : List Mark) (uses : List Slot) (vacant : List ℕ) → IsLeft s i free marks uses vacant → slice_get marks f ≡ Some m
    → (old : Mark) × (slice_get s.marks f ≡ Some old) × (released_mark i (count_of (shares f) s.tables i) old ≡ m)
mark_before s i f m free marks uses vacant left is =
    let old = get_there s.marks f (let a = there_of marks f m is in let b = left.entries in omega arith) in
    (old.0, old.1, (let both : Some (released_mark i (count_of (shares f) s.tables i) old.0) ≡ Some m = sym (left.marked f old.0 old.1) ∙ is in cc))

use_before : (s : Space) (i k : ℕ) (x : Slot) (free : List ℕ) (marks : List Mark) (uses : List Slot) (vacant : List ℕ) → IsLeft s i free marks uses vacant → slice_get uses k ≡ Some x
    → (old : Slot) × (slice_get s.slots.uses k ≡ Some old) × (released_use i (count_of (lies_in k) s.tables i) old ≡ x)
use_before s i k x free marks uses vacant left is =
    let old = get_there s.slots.uses k (let a = there_of uses k x is in let b = left.many in omega arith) in
    (old.0, old.1, (let both : Some (released_use i (count_of (lies_in k) s.tables i) old.0) ≡ Some x = sym (left.used k old.0 old.1) ∙ is in cc))

-- the entry of a frame
names_gone : (s s2 : Space) (i f t : ℕ) (m : Mark) → s2.pool.frames ≡ s.pool.frames → sharers s2 f + t ≡ sharers s f
    → ((j q : ℕ) → j ≢ i → page_at s2.tables j q ≡ page_at s.tables j q) → Names s f (Some m) → Names s2 f (Some (released_mark i t m))
names_gone s s2 i f t Plain frames share away names = let z : sharers s f ≡ 0 = names in omega arith
names_gone s s2 i f t (Hint hash j q) frames share away names = elim (here_or i j) [
  | inl same ↦ search (rules, cond_here)
  | inr other ↦ search (rules, cond_other)
]
names_gone s s2 i f t (Sharers hash n) frames share away names = go (nat_lt t n) refl where
  less : nat_lt t n ≡ true → t < n
  less e = grind (arith, nat_tests)

  most : nat_lt t n ≡ false → n ≤ t
  most e = grind (arith, nat_tests)

  go : (b : Bool) → nat_lt t n ≡ b → Names s2 f (Some (cond b (Sharers hash (n - t)) Plain))
  go true e = (let l = less e in let a = names.0 in omega arith, let l = less e in omega arith, λ z. names.2 (sym (ap (λ fs. get_or fs f []) frames) ∙ z))
  go false e = let l = most e in let a = names.0 in omega arith
names_gone s s2 i f t (Unlisted n) frames share away names = go (nat_lt t n) refl where
  less : nat_lt t n ≡ true → t < n
  less e = grind (arith, nat_tests)

  most : nat_lt t n ≡ false → n ≤ t
  most e = grind (arith, nat_tests)

  go : (b : Bool) → nat_lt t n ≡ b → Names s2 f (Some (cond b (Unlisted (n - t)) Plain))
  go true e = (let l = less e in let a = names.0 in omega arith, let l = less e in omega arith)
  go false e = let l = most e in let a = names.0 in omega arith

frames_gone : (s : Space) (i : ℕ) (occupant : Occupant) (free : List ℕ) (marks : List Mark) (uses : List Slot) (vacant : List ℕ) → FramesAreSound s → i < length s.tables → IsLeft s i free marks uses vacant
    → FramesAreSound (gone s i occupant free marks uses vacant (unpinned_of s i).pins)
unfolding gone
frames_gone s i occupant free marks uses vacant sound within left =
    let s2 : Space = gone s i occupant free marks uses vacant (unpinned_of s i).pins in
    let own : (f : ℕ) → count (owns f) s2.tables + count_of (owns f) s.tables i ≡ count (owns f) s.tables + 0 = λ f. rows_sum (owns f) s.tables i [] within in
    let share : (f : ℕ) → sharers s2 f + count_of (shares f) s.tables i ≡ sharers s f + 0 = λ f. rows_sum (shares f) s.tables i [] within in
    let fetch : (f : ℕ) → tally (fetches_into f) uses ≡ tally (fetches_into f) s.slots.uses = λ f.
    pointwise (fetches_into f) s.slots.uses uses left.many (λ k x is. (released_use i (count_of (lies_in k) s.tables i) x, left.used k x is, use_fetch i (count_of (lies_in k) s.tables i) f x)) in
    record {
      one = λ f less.
          (let a = own f in let b = share f in let c = fetch f in let d = unpinned_sum s i f in let e = left.frees f in
          let g : min 1 (sharers s2 f) + freed_by (count_of (shares f) s.tables i) (sharers s f) ≡ min 1 (sharers s f) = freed_sum (sharers s f) (count_of (shares f) s.tables i) (sharers s2 f) (omega arith) in
          let h = sound.one f less in
          one_sum f (tally (one_if f) free) (tally (one_if f) (unpinned_of s i).pool.free) (count_of (owns f) s.tables i) (freed_by (count_of (shares f) s.tables i) (sharers s f)) (tally (one_if f) (kept (unpinned_of s i).pins)) (tally (one_if f) s.pool.free) (tally (one_if f) (kept s.pins))
          (tally (fetches_into f) uses) (tally (fetches_into f) s.slots.uses) (count (owns f) s2.tables) (count (owns f) s.tables) (min 1 (sharers s2 f)) (min 1 (sharers s f)) e d c (omega (arith, a)) g h);
      none = λ f past.
          (let a = own f in let b = share f in let c = fetch f in let d = unpinned_sum s i f in let e = left.frees f in
          let g = freed_less (sharers s f) (count_of (shares f) s.tables i) in let h = sound.none f past in
          none_sum (tally (one_if f) free) (tally (one_if f) (unpinned_of s i).pool.free) (count_of (owns f) s.tables i) (freed_by (count_of (shares f) s.tables i) (sharers s f)) (tally (one_if f) (kept (unpinned_of s i).pins)) (tally (one_if f) s.pool.free) (tally (one_if f) (kept s.pins))
          (tally (fetches_into f) uses) (tally (fetches_into f) s.slots.uses) (count (owns f) s2.tables) (count (owns f) s.tables) (sharers s2 f) (sharers s f) (count_of (shares f) s.tables i) e d c (omega (arith, a)) (omega (arith, b)) g h);
      whole = sound.whole;
      marks = left.entries ∙ sound.marks;
      names = λ f. elim (option_of (slice_get marks f)) [
        | inl none ↦ subst (Names s2 f) (sym none) tt
        | inr (m, is) ↦
            (let old = mark_before s i f m free marks uses vacant left is in
            let b = share f in
            let now = names_gone s s2 i f (count_of (shares f) s.tables i) old.0 refl (omega arith) (λ j q other. row_away s i j q other) (subst (Names s f) old.1 (sound.names f)) in
            subst (Names s2 f) (sym is) (subst (λ z. Names s2 f (Some z)) old.2 now))
      ];
      apart = λ f g hash has has2. sound.apart f g hash (entry f hash has) (entry g hash has2);
    } where
      entry : (f hash : ℕ) → HasHash (slice_get marks f) hash → HasHash (slice_get s.marks f) hash
      entry f hash has = elim (option_of (slice_get marks f)) [
        | inl none ↦ absurd (subst (λ z. HasHash z hash) none has)
        | inr (m, is) ↦
            (let old = mark_before s i f m free marks uses vacant left is in
            let has2 : HasHash (Some (released_mark i (count_of (shares f) s.tables i) old.0)) hash = subst (λ z. HasHash (Some z) hash) (sym old.2) (subst (λ z. HasHash z hash) is has) in
            subst (λ z. HasHash z hash) (sym old.1) (fewer_hash i (count_of (shares f) s.tables i) old.0 hash has2))
      ]

      one_sum : (f a u o r k b c d e g h m n : ℕ) → a ≡ u + (o + r) → u + k ≡ b + c → d ≡ e → g + o ≡ h → m + r ≡ n → ((b + c) + e) + h + n ≡ 1 → ((a + k) + d) + g + m ≡ 1
      one_sum f a u o r k b c d e g h m n x1 x2 x3 x4 x5 x6 = omega arith

      none_sum : (a u o r k b c d e g h m n t : ℕ) → a ≡ u + (o + r) → u + k ≡ b + c → d ≡ e → g + o ≡ h → m + t ≡ n → r ≤ t → ((b + c) + e) + h + n ≡ 0 → ((a + k) + d) + g + m ≡ 0
      none_sum a u o r k b c d e g h m n t x1 x2 x3 x4 x5 x6 x7 = omega arith

-- who has the place, released, and all others
marked_gone : Occupant → Occupant
marked_gone t = record t { live = false; stands = None }

gone_now : (s : Space) (i : ℕ) (mine : Occupant) → occupant_at s i mine → slice_get (slice_set s.occupants i (Some (marked_gone mine))) i ≡ Some (Some (marked_gone mine))
gone_now s i mine was = set_same s.occupants i (Some (marked_gone mine)) (there_of s.occupants i (Some mine) was)

gone_away : (s : Space) (i j : ℕ) (mine : Occupant) → j ≢ i → slice_get (slice_set s.occupants i (Some (marked_gone mine))) j ≡ slice_get s.occupants j
gone_away s i j mine other = set_other s.occupants i j (Some (marked_gone mine)) other

gone_before : (s : Space) (i j : ℕ) (mine t : Occupant) → occupant_at s i mine → slice_get (slice_set s.occupants i (Some (marked_gone mine))) j ≡ Some (Some t)
    → (u : Occupant) × occupant_at s j u × (u.number ≡ t.number) × (u.leaves ≡ t.leaves) × (((j ≢ i) × (t ≡ u)) ⊎ ((j ≡ i) × (t.stands ≡ None)))
unfolding marked_gone
gone_before s i j mine t was is = elim (here_or i j) [
  | inr other ↦ (t, sym (gone_away s i j mine (λ e. other e)) ∙ is, refl, refl, inl (λ e. other e, refl))
  | inl same ↦ search (rules, marked_gone, gone_now)
]

gone_after : (s : Space) (i j : ℕ) (mine u : Occupant) → occupant_at s i mine → occupant_at s j u
    → (t : Occupant) × (slice_get (slice_set s.occupants i (Some (marked_gone mine))) j ≡ Some (Some t)) × (t.leaves ≡ u.leaves) × (u.live ≡ false → t.live ≡ false) × (j ≢ i → t ≡ u) × (j ≡ i → t.live ≡ false)
unfolding marked_gone
gone_after s i j mine u was is = elim (here_or i j) [
  | inr other ↦ (u, gone_away s i j mine (λ e. other e) ∙ is, refl, λ gone. gone, λ e. refl, λ e. absurd (other e))
  | inl same ↦
      (let both : Some (Some mine) ≡ Some (Some u) = sym was ∙ subst (λ z. occupant_at s z u) same is in
      let one : mine ≡ u = cc in
      (marked_gone mine, subst (λ z. slice_get (slice_set s.occupants i (Some (marked_gone mine))) z ≡ Some (Some (marked_gone mine))) (sym same) (gone_now s i mine was), ap (λ (a : Occupant). a.leaves) one, λ gone. refl, λ e. absurd (e same), λ e. refl))
]

-- what a slot is used for
used_gone : (s s2 : Space) (i k c d : ℕ) (x : Slot) → count (lies_in k) s2.tables + c ≡ count (lies_in k) s.tables → count (comes_from k) s2.tables + d ≡ count (comes_from k) s.tables
    → tally (one_if k) s2.slots.vacant ≡ tally (one_if k) s.slots.vacant + c → ((q : ℕ) → page_at s.tables i q ≡ Some (Coming k) → 1 ≤ d)
    → ((j q : ℕ) → j ≢ i → page_at s2.tables j q ≡ page_at s.tables j q) → IsUsed s k (Some x) → IsUsed s2 k (Some (released_use i c x))
used_gone s s2 i k c d Vacant lies comes vacant here away used = (let a = used.0 in omega arith, let a = used.1 in omega arith, let a = used.2 in let b = used.0 in omega arith)
used_gone s s2 i k c d Taken lies comes vacant here away used = go (nat_lt 0 c) refl where
  some : nat_lt 0 c ≡ true → 1 ≤ c
  some e = grind (arith, nat_tests)

  none : nat_lt 0 c ≡ false → c ≡ 0
  none e = grind (arith, nat_tests)

  go : (b : Bool) → nat_lt 0 c ≡ b → IsUsed s2 k (Some (cond b Vacant Taken))
  go true e = let l = some e in (let a = used.0 in omega arith, let a = used.1 in omega arith, let a = used.2 in let b = used.0 in omega arith)
  go false e = let l = none e in (let a = used.0 in omega arith, let a = used.1 in omega arith, let a = used.2 in omega arith)
used_gone s s2 i k c d (Evicting j q) lies comes vacant here away used = elim (here_or i j) [
  | inl same ↦ search (rules, cond_here)
  | inr other ↦ search (rules, cond_other)
]
used_gone s s2 i k c d (EvictVoid j) lies comes vacant here away used = (let a = used.0 in omega arith, let a = used.1 in omega arith, let a = used.2 in let b = used.0 in omega arith)
used_gone s s2 i k c d (Fetching j q f) lies comes vacant here away used = elim (here_or i j) [
  | inl same ↦ search (rules, cond_here)
  | inr other ↦
      (let e : cond (i == j) (FetchVoid j f) (Fetching j q f) ≡ Fetching j q f = cond_other i j (FetchVoid j f) (Fetching j q f) (λ e. other e) in
      let there : page_at s2.tables j q ≡ Some (Coming k) = away j q (λ e. other e) ∙ used.3 in
      let some = get_pages (comes_from k) s2.tables j q (Coming k) there in
      let o = one_same k k refl in
      let z : IsUsed s2 k (Some (Fetching j q f)) = (let a = used.0 in omega arith, let a = used.1 in omega arith, let a = used.2 in let b = used.0 in omega arith, there) in
      subst (λ m. IsUsed s2 k (Some m)) (sym e) z)
]
used_gone s s2 i k c d (FetchVoid j f) lies comes vacant here away used = (let a = used.0 in omega arith, let a = used.1 in omega arith, let a = used.2 in let b = used.0 in omega arith)

slots_gone : (s : Space) (i : ℕ) (mine : Occupant) (free : List ℕ) (marks : List Mark) (uses : List Slot) (vacant : List ℕ) → SlotsAreSound s → occupant_at s i mine → mine.live ≡ true → i < length s.tables
    → IsLeft s i free marks uses vacant → SlotsAreSound (gone s i mine free marks uses vacant (unpinned_of s i).pins)
unfolding gone marked_gone
slots_gone s i mine free marks uses vacant sound was live within left =
    let s2 : Space = gone s i mine free marks uses vacant (unpinned_of s i).pins in
    let lies : (k : ℕ) → count (lies_in k) s2.tables + count_of (lies_in k) s.tables i ≡ count (lies_in k) s.tables + 0 = λ k. rows_sum (lies_in k) s.tables i [] within in
    let comes : (k : ℕ) → count (comes_from k) s2.tables + count_of (comes_from k) s.tables i ≡ count (comes_from k) s.tables + 0 = λ k. rows_sum (comes_from k) s.tables i [] within in
    let leaver : (j k : ℕ) → LeavesBy j (slice_get uses k) → LeavesBy j (slice_get s.slots.uses k) = λ j k by. elim (option_of (slice_get uses k)) [
      | inl none ↦ absurd (subst (LeavesBy j) none by)
      | inr (x, is) ↦
          (let old = use_before s i k x free marks uses vacant left is in
          let by2 : LeavesBy j (Some (released_use i (count_of (lies_in k) s.tables i) old.0)) = subst (λ z. LeavesBy j (Some z)) (sym old.2) (subst (LeavesBy j) is by) in
          subst (LeavesBy j) (sym old.1) (subst (λ (T : Type 0). T) (use_leaver i (count_of (lies_in k) s.tables i) j old.0) by2))
    ] in
    let leaver2 : (j k : ℕ) → LeavesBy j (slice_get s.slots.uses k) → LeavesBy j (slice_get uses k) = search (rules, option_of, use_leaver) in
    record {
      used = λ k. (let a = lies k in let b = comes k in let c = left.vacants k in elim (option_of (slice_get uses k)) [
        | inl none ↦
            (let past : slice_get s.slots.uses k ≡ None = none_before k none in
            let old : IsUsed s k None = subst (IsUsed s k) past (sound.used k) in
            let now : IsUsed s2 k None = (let x = old.0 in omega arith, let y = old.1 in omega arith, let x = old.0 in let z = old.2 in omega arith) in
            subst (IsUsed s2 k) (sym none) now)
        | inr (x, is) ↦
            (let old = use_before s i k x free marks uses vacant left is in
            let now = used_gone s s2 i k (count_of (lies_in k) s.tables i) (count_of (comes_from k) s.tables i) old.0 (omega arith) (omega arith) c
            (λ q there. (let e = get_tally (comes_from k) (get_or s.tables i []) q (Coming k) there in let o = one_same k k refl in omega arith))
            (λ j q other. row_away s i j q other) (subst (IsUsed s k) old.1 (sound.used k)) in
            subst (IsUsed s2 k) (sym is) (subst (λ z. IsUsed s2 k (Some z)) old.2 now))
      ]);
      by_one = λ j k by. (let found = sound.by_one j k (leaver j k by) in let now = gone_after s i j mine found.0 was found.1 in (now.0, now.1, now.2 ∙ found.2));
      by_this = λ j k t is at_it. (let x = gone_before s i j mine t was is in leaver2 j k (sound.by_this j k x.0 x.1 (x.3 ∙ at_it)));
      leaving = search (rules, kind_left, cond_other);
      voids = λ j k f is.
          (let old = use_before s i k (FetchVoid j f) free marks uses vacant left is in
          elim (use_void i (count_of (lies_in k) s.tables i) j f old.0 old.2) [
            | inl same ↦ (let found = sound.voids j k f (old.1 ∙ ap Some same) in let now = gone_after s i j mine found.0 was found.1 in (now.0, now.1, now.3 found.2))
            | inr here ↦ (let now = gone_after s i j mine mine was (subst (λ z. occupant_at s z mine) (sym here) was) in (now.0, now.1, now.5 here))
          ]);
      held = sound.held ∙ sym left.many;
      whole = λ k some. sound.whole k (let a = lies k in let b = comes k in omega arith);
    } where
      none_before : (k : ℕ) → slice_get uses k ≡ None → slice_get s.slots.uses k ≡ None
      none_before k none = elim (option_of (slice_get s.slots.uses k)) [
        | inl e ↦ e
        | inr (x, is) ↦ absurd (let bad : None ≡ Some (released_use i (count_of (lies_in k) s.tables i) x) = sym none ∙ left.used k x is in cc)
      ]

but_gone : (s : Space) (i : ℕ) (mine : Occupant) (free : List ℕ) (marks : List Mark) (uses : List Slot) (vacant : List ℕ) → IsSound s → occupant_at s i mine → mine.live ≡ true
    → IsLeft s i free marks uses vacant → IsSoundBut (gone s i mine free marks uses vacant (unpinned_of s i).pins) i
unfolding gone marked_gone
but_gone s i mine free marks uses vacant sound was live left =
    let s2 : Space = gone s i mine free marks uses vacant (unpinned_of s i).pins in
    let within : i < length s.tables = (let a = there_of s.occupants i (Some mine) was in let b = sound.occupants.tables in omega arith) in
    let within2 : i < length s.touched = (let a = there_of s.occupants i (Some mine) was in let b = sound.occupants.touched in omega arith) in
    let away : (j : ℕ) → j ≢ i → get_or s2.tables j [] ≡ get_or s.tables j [] = λ j other. get_or-set_other s.tables i j [] [] other in
    let here : get_or s2.tables i [] ≡ [] = get_or-set_same s.tables i [] [] within in
    let ticket : (j : ℕ) → tally (ticket_of j) uses ≡ tally (ticket_of j) s.slots.uses = λ j.
    pointwise (ticket_of j) s.slots.uses uses left.many (λ k x is. (released_use i (count_of (lies_in k) s.tables i) x, left.used k x is, use_ticket i (count_of (lies_in k) s.tables i) j x)) in
    let before : (j : ℕ) (t : Occupant) → occupant_at s2 j t → (u : Occupant) × occupant_at s j u × (u.number ≡ t.number) × (u.leaves ≡ t.leaves) × (((j ≢ i) × (t ≡ u)) ⊎ ((j ≡ i) × (t.stands ≡ None))) =
    λ j t is. gone_before s i j mine t was is in
    record {
      frames = frames_gone s i mine free marks uses vacant sound.frames within left;
      slots = slots_gone s i mine free marks uses vacant sound.slots was live within left;
      pins = search (rules, unpinned_few, unpinned_less, row_away, unpinned_place, gone_after);
      admissible = ((let a = same_sum (λ t. t.min) refl in let b = sound.admissible.0 in omega arith), (let a = same_sum (λ t. (t.max - t.min) + 1) refl in let c = left.many in let b = sound.admissible.1 in omega arith));
      tables = length-set s.tables i [] ∙ (sound.occupants.tables ∙ sym (length-set s.occupants i _));
      touched = length-set s.touched i [] ∙ (sound.occupants.touched ∙ sym (length-set s.occupants i _));
      have = λ j o is. elim (here_or i j) [
        | inr other ↦ subst (HasTable o) (sym (away j (λ e. other e))) (sound.occupants.have j o (sym (gone_away s i j mine (λ e. other e)) ∙ is))
        | inl same ↦
            (let is2 : slice_get s2.occupants i ≡ Some o = subst (λ z. slice_get s2.occupants z ≡ Some o) same is in
            let both : Some (Some (marked_gone mine)) ≡ Some o = sym (gone_now s i mine was) ∙ is2 in
            let one : Some (marked_gone mine) ≡ o = cc in
            let has : HasTable (Some mine) (get_or s.tables i []) = sound.occupants.have i (Some mine) was in
            let has2 : HasTable (Some (marked_gone mine)) [] = (has.0, has.1, omega arith, λ gone. refl, has.4, has.5, has.6, (0, refl)) in
            subst (λ z. HasTable o (get_or s2.tables z [])) (sym same) (subst (HasTable o) (sym here) (subst (λ z. HasTable z []) one has2)))
      ];
      marks = search (rules, here_or, get_or-set_other, get_or-set_same);
      numbers = λ j h t u a b same. (let x = before j t a in let y = before h u b in sound.occupants.numbers j h x.0 y.0 x.1 y.1 (x.2 ∙ (same ∙ sym y.2)));
      released = λ j t apart is gone. (let x = before j t is in elim x.4 [
        | inr bad ↦ absurd (apart bad.0)
        | inl other ↦ (let a = sound.occupants.released j x.0 x.1 (sym (ap (λ (a : Occupant). a.live) other.1) ∙ gone) in let e = ticket j in omega arith)
      ]);
      needs = λ j t need is stands. (let x = before j t is in elim x.4 [
        | inr bad ↦ absurd (let none : None ≡ Some need = sym bad.1 ∙ stands in cc)
        | inl other ↦
            (let n = sound.occupants.needs j x.0 need x.1 (sym (ap (λ (a : Occupant). a.stands) other.1) ∙ stands) in
            let l = ap length (away j other.0) in
            (ap (λ (a : Occupant). a.live) other.1 ∙ n.0, omega (arith, n.1, l), n.2))
      ]);
    } where
      same_sum : (w : Occupant → ℕ) → w (marked_gone mine) ≡ w mine → tally (of_occupant w) (slice_set s.occupants i (Some (marked_gone mine))) ≡ tally (of_occupant w) s.occupants
      same_sum w same =
          let sum = set_tally (of_occupant w) s.occupants i (Some mine) (Some (marked_gone mine)) was in
          omega arith

-- all of a space that a release says
rebuilt : Space → List (Option Occupant) → List (List Page) → List (List Bool) → List (List ℕ) → List (List ℕ) → Option Pins → Tax → Space
rebuilt s2 occupants tables touched frames held pins tax = record {
  occupants = occupants;
  tables = tables;
  touched = touched;
  pool = record { frames = frames; free = s2.pool.free };
  marks = s2.marks;
  slots = record { uses = s2.slots.uses; vacant = s2.slots.vacant; held = held };
  pins = pins;
  tax = tax;
}

-- a release is the marking of the instance as released, and the settling of its place
exits_is : (s : Space) (i : ℕ) (s2 : Space) (exits : Exits s i s2) → s2 ≡ settled (gone s i exits.occupant s2.pool.free s2.marks s2.slots.uses s2.slots.vacant (unpinned_of s i).pins) i
unfolding gone rebuilt
exits_is s i s2 exits =
    let mine : Occupant = exits.occupant in
    let n : ℕ = tally (ticket_of i) s.slots.uses in
    let gone_row : List (Option Occupant) = slice_set s.occupants i (Some (record mine { live = false; stands = None })) in
    let within = there_of s.occupants i (Some mine) exits.was.0 in
    let now : get_or gone_row i None ≡ Some (record mine { live = false; stands = None }) = get_or-set_same s.occupants i (Some (record mine { live = false; stands = None })) None within in
    let ticket : tally (ticket_of i) s2.slots.uses ≡ n = search (rules, pointwise, use_ticket) in
    let last : List (Option Occupant) = slice_set gone_row i (stays_occupant (get_or gone_row i None) (tally (ticket_of i) s2.slots.uses)) in
    let occupants : s2.occupants ≡ last = search (rules, set_set) in
    let all : s2 ≡ rebuilt s2 s2.occupants s2.tables s2.touched s2.pool.frames s2.slots.held s2.pins s2.tax = refl in
    all ∙ (ap (λ x. rebuilt s2 x s2.tables s2.touched s2.pool.frames s2.slots.held s2.pins s2.tax) occupants
    ∙ (ap (λ x. rebuilt s2 last x s2.touched s2.pool.frames s2.slots.held s2.pins s2.tax) exits.tables
    ∙ (ap (λ x. rebuilt s2 last (slice_set s.tables i []) x s2.pool.frames s2.slots.held s2.pins s2.tax) exits.touched
    ∙ (ap (λ x. rebuilt s2 last (slice_set s.tables i []) (slice_set s.touched i []) x s2.slots.held s2.pins s2.tax) exits.bytes
    ∙ (ap (λ x. rebuilt s2 last (slice_set s.tables i []) (slice_set s.touched i []) s.pool.frames x s2.pins s2.tax) exits.held
    ∙ (ap (λ x. rebuilt s2 last (slice_set s.tables i []) (slice_set s.touched i []) s.pool.frames s.slots.held x s2.tax) exits.pins
    ∙ ap (λ x. rebuilt s2 last (slice_set s.tables i []) (slice_set s.touched i []) s.pool.frames s.slots.held (unpinned_of s i).pins x) exits.tax))))))

pub exits_soundly : ExitsSoundly
unfolding gone
exits_soundly s i s2 sound exits =
    let mine : Occupant = exits.occupant in
    let left : IsLeft s i s2.pool.free s2.marks s2.slots.uses s2.slots.vacant = search rules in
    let within : i < length (slice_set s.occupants i (Some (record mine { live = false; stands = None }))) = (let a = there_of s.occupants i (Some mine) exits.was.0 in let b = length-set s.occupants i (Some (record mine { live = false; stands = None })) in omega arith) in
    subst IsSound (sym (exits_is s i s2 exits))
    (is_sound_settled (gone s i mine s2.pool.free s2.marks s2.slots.uses s2.slots.vacant (unpinned_of s i).pins) i within
    (but_gone s i mine s2.pool.free s2.marks s2.slots.uses s2.slots.vacant sound exits.was.0 exits.was.1 left))
