-- What always holds of frames, slots, entries, tickets and promises.
use Rattle.std.specs.Prelude.{ℕ, ◌≡◌, ◌≢◌, ◌+◌, ◌*◌, ◌<◌, ◌≤◌, true, false, min, List, [], Option, Some, None, length, get_or, slice_get}
use Rattle.wh_model.specs.declared.memory.Need.{Need}
use Rattle.wh_space_model.specs.Pages.{zero_page}
use Rattle.wh_space_model.specs.Frames.{tally, one_if}
use Rattle.wh_space_model.specs.declared.states.Page.{Page}
use Rattle.wh_space_model.specs.declared.states.Page.TheVariants.{Coming}
use Rattle.wh_space_model.specs.declared.states.Mark.{Mark}
use Rattle.wh_space_model.specs.declared.states.Mark.TheVariants.{Plain, Hint, Sharers, Unlisted}
use Rattle.wh_space_model.specs.declared.states.Slot.{Slot}
use Rattle.wh_space_model.specs.declared.states.Slot.TheVariants.{Vacant, Taken, Evicting, EvictVoid, Fetching, FetchVoid}
use Rattle.wh_space_model.specs.States.{at, count, page_at, owns, lies_in, comes_from, resident, leaving}
use Rattle.wh_space_model.specs.Parts.{Space, Occupant, Pins, occupant_at, sharers, kept, pinned_by, frame_bytes, minima, spreads}
use Rattle.wh_space_model.specs.Errands.{fetches_into, ticket_of}

-- how often frame f is free, earmarked, held by a fetch ticket, or a page's own
abbrev pub holders : Space → ℕ → ℕ
holders s f =
    ((tally (one_if f) s.pool.free + tally (one_if f) (kept s.pins)) + tally (fetches_into f) s.slots.uses)
    + count (owns f) s.tables

-- What the content table has of frame f is so: a hint names the page whose frame it is, a count is the number of pages
-- that share the frame, and their bytes aren't all zero.
abbrev pub Names : Space → ℕ → Option Mark → Type 0
Names s f None = Unit {0}
Names s f (Some Plain) = sharers s f ≡ 0
Names s f (Some (Hint hash i p)) = (at (owns f) (page_at s.tables i p) ≡ 1) × (sharers s f ≡ 0)
Names s f (Some (Sharers hash n)) = (sharers s f ≡ n) × (1 ≤ n) × (frame_bytes s f ≢ zero_page)
Names s f (Some (Unlisted n)) = (sharers s f ≡ n) × (1 ≤ n)

-- the hash under which a frame has its entry
abbrev pub HasHash : Option Mark → ℕ → Type 0
HasHash None hash = ⊥
HasHash (Some Plain) hash = ⊥
HasHash (Some (Hint h i p)) hash = h ≡ hash
HasHash (Some (Sharers h n)) hash = h ≡ hash
HasHash (Some (Unlisted n)) hash = ⊥

-- Each frame is exactly one of free, earmarked, held by one fetch ticket, one page's own, or shared. No two entries
-- have one hash.
pub record FramesAreSound (s : Space) : Type 0 where
  pub one : (f : ℕ) → f < length s.pool.frames → holders s f + min 1 (sharers s f) ≡ 1
  pub none : (f : ℕ) → length s.pool.frames ≤ f → holders s f + sharers s f ≡ 0
  pub whole : (f : ℕ) → f < length s.pool.frames → length (frame_bytes s f) ≡ 4096
  pub marks : length s.marks ≡ length s.pool.frames
  pub names : (f : ℕ) → Names s f (slice_get s.marks f)
  pub apart : (f g hash : ℕ) → HasHash (slice_get s.marks f) hash → HasHash (slice_get s.marks g) hash → f ≡ g

-- what slot k is used for is so
abbrev pub IsUsed : Space → ℕ → Option Slot → Type 0
IsUsed s k None =
    (count (lies_in k) s.tables ≡ 0) × (count (comes_from k) s.tables ≡ 0) × (tally (one_if k) s.slots.vacant ≡ 0)
IsUsed s k (Some Vacant) =
    (count (lies_in k) s.tables ≡ 0) × (count (comes_from k) s.tables ≡ 0) × (tally (one_if k) s.slots.vacant ≡ 1)
IsUsed s k (Some Taken) =
    (count (lies_in k) s.tables ≡ 1) × (count (comes_from k) s.tables ≡ 0) × (tally (one_if k) s.slots.vacant ≡ 0)
IsUsed s k (Some (Evicting i p)) =
    (count (lies_in k) s.tables ≡ 0) × (count (comes_from k) s.tables ≡ 0) × (tally (one_if k) s.slots.vacant ≡ 0)
    × (at leaving (page_at s.tables i p) ≡ 1)
IsUsed s k (Some (EvictVoid i)) =
    (count (lies_in k) s.tables ≡ 0) × (count (comes_from k) s.tables ≡ 0) × (tally (one_if k) s.slots.vacant ≡ 0)
IsUsed s k (Some (Fetching i p f)) =
    (count (lies_in k) s.tables ≡ 0) × (count (comes_from k) s.tables ≡ 1) × (tally (one_if k) s.slots.vacant ≡ 0)
    × (page_at s.tables i p ≡ Some (Coming k))
IsUsed s k (Some (FetchVoid i f)) =
    (count (lies_in k) s.tables ≡ 0) × (count (comes_from k) s.tables ≡ 0) × (tally (one_if k) s.slots.vacant ≡ 0)

-- the slot is that of a ticket with which a page of the instance at this place leaves
abbrev pub LeavesBy : ℕ → Option Slot → Type 0
LeavesBy i None = ⊥
LeavesBy i (Some Vacant) = ⊥
LeavesBy i (Some Taken) = ⊥
LeavesBy i (Some (Evicting j p)) = j ≡ i
LeavesBy i (Some (EvictVoid j)) = j ≡ i
LeavesBy i (Some (Fetching j p f)) = ⊥
LeavesBy i (Some (FetchVoid j f)) = ⊥

-- Each slot is vacant or used once, by a page or a ticket. At most one page of an instance leaves, void tickets
-- included. A fetch is void only where its instance was released. Where a page has its bytes in a slot, that holds a
-- page's bytes.
pub record SlotsAreSound (s : Space) : Type 0 where
  pub used : (k : ℕ) → IsUsed s k (slice_get s.slots.uses k)
  pub by_one : (i k : ℕ) → LeavesBy i (slice_get s.slots.uses k) → (t : Occupant) × occupant_at s i t
      × (t.leaves ≡ Some k)
  pub by_this : (i k : ℕ) (t : Occupant) → occupant_at s i t → t.leaves ≡ Some k → LeavesBy i (slice_get s.slots.uses k)
  pub leaving : (i p : ℕ) → at leaving (page_at s.tables i p) ≡ 1 → (k : ℕ)
      × (slice_get s.slots.uses k ≡ Some (Evicting i p))
  pub voids : (i k f : ℕ) → slice_get s.slots.uses k ≡ Some (FetchVoid i f) → (t : Occupant) × occupant_at s i t
      × (t.live ≡ false)
  pub held : length s.slots.held ≡ length s.slots.uses
  pub whole : (k : ℕ) → 1 ≤ count (lies_in k) s.tables + count (comes_from k) s.tables
      → length (get_or s.slots.held k []) ≡ 4096

-- An instance has a page table within its maximum, of whole pages of WebAssembly, and an empty one once it is
-- released. A free place has an empty one.
abbrev pub HasTable : Option Occupant → List Page → Type 0
HasTable None table = table ≡ []
HasTable (Some t) table =
    (2 ≤ t.min) × (t.min ≤ t.max) × (length table ≤ t.max) × (t.live ≡ false → table ≡ [])
    × (t.max ≤ 65536) × (1 ≤ t.shares) × (t.shares ≤ 1000000) × ((n : ℕ) × (length table ≡ 16 * n))

-- A released instance has a ticket out. One that waits for a frame is live, and the bytes are in its table.
pub record OccupantsAreSound (s : Space) : Type 0 where
  pub tables : length s.tables ≡ length s.occupants
  pub touched : length s.touched ≡ length s.occupants
  pub have : (i : ℕ) (t : Option Occupant) → slice_get s.occupants i ≡ Some t → HasTable t (get_or s.tables i [])
  pub marks : (i : ℕ) → length (get_or s.touched i []) ≡ length (get_or s.tables i [])
  pub numbers : (i j : ℕ) (t u : Occupant) → occupant_at s i t → occupant_at s j u → t.number ≡ u.number → i ≡ j
  pub released : (i : ℕ) (t : Occupant) → occupant_at s i t → t.live ≡ false → 1 ≤ tally (ticket_of i) s.slots.uses
  pub needs : (i : ℕ) (t : Occupant) (need : Need) → occupant_at s i t → t.stands ≡ Some need
      → (t.live ≡ true) × (need.at + need.length ≤ 4096 * length (get_or s.tables i [])) × (need.length ≤ 4096)

-- at most two frames are earmarked; what is pinned is resident; pins and earmarks are those of a live instance
pub record PinsAreSound (s : Space) : Type 0 where
  pub few : length (kept s.pins) ≤ 2
  pub there : (i p : ℕ) → 1 ≤ tally (one_if p) (pinned_by s.pins i) → at resident (page_at s.tables i p) ≡ 1
  pub of : (pins : Pins) → s.pins ≡ Some pins → (t : Occupant) × occupant_at s pins.place t × (t.live ≡ true)

-- the frames suffice for all minima, and the slots for all that may go beyond
abbrev pub IsAdmissible : Space → Type 0
IsAdmissible s = (minima s ≤ length s.pool.frames) × (spreads s ≤ length s.slots.uses)

pub record IsSound (s : Space) : Type 0 where
  pub frames : FramesAreSound s
  pub slots : SlotsAreSound s
  pub occupants : OccupantsAreSound s
  pub pins : PinsAreSound s
  pub admissible : IsAdmissible s
