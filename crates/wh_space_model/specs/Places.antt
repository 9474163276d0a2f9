-- How an instance comes to a place and goes from it.
use Rattle.std.specs.Prelude.{ℕ, ◌≡◌, ◌≢◌, ◌+◌, ◌-◌, ◌*◌, ◌==◌, ◌≤◌, ◌++◌, ◌⊎◌, cond, min, nat_lt, replicate, true, false, List, [], ◌∷◌, Some, None, length, slice_get, slice_set}
use Rattle.wh_space_model.specs.Frames.{tally, one_if}
use Rattle.wh_space_model.specs.declared.states.Page.TheVariants.{Untouched}
use Rattle.wh_space_model.specs.declared.states.Mark.{Mark}
use Rattle.wh_space_model.specs.declared.states.Mark.TheVariants.{Plain, Hint, Sharers, Unlisted}
use Rattle.wh_space_model.specs.declared.states.Slot.{Slot}
use Rattle.wh_space_model.specs.declared.states.Slot.TheVariants.{Vacant, Taken, Evicting, EvictVoid, Fetching, FetchVoid}
use Rattle.wh_space_model.specs.States.{lies_in, owns, shares, count_of}
use Rattle.wh_space_model.specs.Parts.{Space, Occupant, Claimed, occupant_at, sharers, minima, spreads}
use Rattle.wh_space_model.specs.Errands.{ticket_of}
use Rattle.wh_space_model.specs.Moves.{unpinned_of}
use Rattle.wh_space_model.specs.Breaks.{fewer_sharers}
use Rattle.wh_space_model.specs.Tickets.{stays_occupant}

-- the place is free, or the next one after all
abbrev pub IsFreePlace : Space → ℕ → Type 0
IsFreePlace s i = (slice_get s.occupants i ≡ Some None) ⊎ (i ≡ length s.occupants)

-- the list with this at a place, which may be the next one
abbrev pub with_row : {X : Type 0} → List X → ℕ → X → List X
with_row xs i x = cond (nat_lt i (length xs)) (slice_set xs i x) (xs ++ x ∷ [])

-- who comes, by its claim
abbrev pub newcomer : Claimed → Occupant
newcomer c =
    record { number = c.number; live = true; shares = c.shares; min = c.min; max = c.max; stands = None; leaves = None }

-- The frames suffice for all minima and the slots for all that may go beyond, with this claim too.
abbrev pub HasRoomFor : Space → Claimed → Type 0
HasRoomFor s c = (minima s + c.min ≤ length s.pool.frames) × (spreads s + ((c.max - c.min) + 1) ≤ length s.slots.uses)

-- An instance comes to a free place, with a claim that there is room for, a number that nobody there has, and `size` pages of
-- WebAssembly, all untouched. All else is as it was.
pub record Enters (s : Space) (i : ℕ) (c : Claimed) (size : ℕ) (s2 : Space) : Type 0 where
  pub free : IsFreePlace s i
  pub room : HasRoomFor s c
  pub shares : (1 ≤ c.shares) × (c.shares ≤ 1000000)
  pub bounds : (2 ≤ c.min) × (c.min ≤ c.max) × (c.max ≤ 65536)
  pub fits : 16 * size ≤ c.max
  pub fresh : (j : ℕ) (t : Occupant) → occupant_at s j t → t.number ≢ c.number
  pub leaves : s2 ≡ record s {
    occupants = with_row s.occupants i (Some (newcomer c));
    tables = with_row s.tables i (replicate (16 * size) Untouched);
    touched = with_row s.touched i (replicate (16 * size) false);
  }

-- the use of a slot after the release of the instance at place i, of which `pages` pages were in it
abbrev pub released_use : ℕ → ℕ → Slot → Slot
released_use i pages Vacant = Vacant
released_use i pages Taken = cond (nat_lt 0 pages) Vacant Taken
released_use i pages (Evicting j p) = cond (i == j) (EvictVoid j) (Evicting j p)
released_use i pages (EvictVoid j) = EvictVoid j
released_use i pages (Fetching j p f) = cond (i == j) (FetchVoid j f) (Fetching j p f)
released_use i pages (FetchVoid j f) = FetchVoid j f

-- the entry of a frame that `pages` of its pages shared
abbrev pub released_mark : ℕ → ℕ → Mark → Mark
released_mark i pages Plain = Plain
released_mark i pages (Hint hash j p) = cond (i == j) Plain (Hint hash j p)
released_mark i pages (Sharers hash n) = fewer_sharers pages (Sharers hash n)
released_mark i pages (Unlisted n) = fewer_sharers pages (Unlisted n)

-- 1 where a frame had `sharing` sharers in all, and these `pages` were the last ones
abbrev pub freed_by : ℕ → ℕ → ℕ
freed_by pages sharing = cond (nat_lt pages sharing) 0 (min 1 pages)

-- The instance at place i goes. It has no page any more, its pins and earmarks end, and its tickets are void; the place is kept
-- while one is out. Its own frames are free, the shared ones of which it had the last sharers, and the slots in which its pages
-- were. All else is as it was.
pub record Exits (s : Space) (i : ℕ) (s2 : Space) : Type 0 where
  pub occupant : Occupant
  pub was : occupant_at s i occupant × (occupant.live ≡ true)
  pub tables : s2.tables ≡ slice_set s.tables i []
  pub touched : s2.touched ≡ slice_set s.touched i []
  pub bytes : s2.pool.frames ≡ s.pool.frames
  pub free : (f : ℕ) → tally (one_if f) s2.pool.free ≡ tally (one_if f) (unpinned_of s i).pool.free
      + (count_of (owns f) s.tables i + freed_by (count_of (shares f) s.tables i) (sharers s f))
  pub entries : length s2.marks ≡ length s.marks
  pub marks : (f : ℕ) (m : Mark) → slice_get s.marks f ≡ Some m
      → slice_get s2.marks f ≡ Some (released_mark i (count_of (shares f) s.tables i) m)
  pub held : s2.slots.held ≡ s.slots.held
  pub slots : length s2.slots.uses ≡ length s.slots.uses
  pub vacant : (k : ℕ)
      → tally (one_if k) s2.slots.vacant ≡ tally (one_if k) s.slots.vacant + count_of (lies_in k) s.tables i
  pub uses : (k : ℕ) (x : Slot) → slice_get s.slots.uses k ≡ Some x
      → slice_get s2.slots.uses k ≡ Some (released_use i (count_of (lies_in k) s.tables i) x)
  pub occupants : s2.occupants
      ≡ slice_set s.occupants i
      (stays_occupant (Some (record occupant { live = false; stands = None })) (tally (ticket_of i) s.slots.uses))
  pub pins : s2.pins ≡ (unpinned_of s i).pins
  pub tax : s2.tax ≡ s.tax
