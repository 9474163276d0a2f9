-- Making the next step of one instance ready.
use Rattle.std.specs.Prelude.{ℕ, ◌≡◌, ◌≢◌, ◌+◌, ◌*◌, ◌<◌, ◌≤◌, ◌⊎◌, min, List, [], ◌∷◌, Some, get_or, length, slice_get}
use Rattle.wh_model.specs.declared.memory.Need.{Need}
use Rattle.wh_space_model.specs.Frames.{tally, one_if}
use Rattle.wh_space_model.specs.declared.states.Page.TheVariants.{Swapped}
use Rattle.wh_space_model.specs.declared.states.Slot.TheVariants.{Vacant}
use Rattle.wh_space_model.specs.States.{at, page_at, resident, swapped, untouched, count}
use Rattle.wh_space_model.specs.Parts.{Space, Occupant, occupant_at, kept, pinned_by}
use Rattle.wh_space_model.specs.Errands.{tickets}
use Rattle.wh_space_model.specs.Charges.{charged_of}
use Rattle.wh_space_model.specs.Claims.{MustLeave}
use Rattle.wh_space_model.specs.Moves.{IsFirstSwapped, Evicts, Fetches, Earmarks, pinned, unpinned}
use Rattle.wh_space_model.specs.Ready.{among, pages_of_need, frames_to_write}
use Rattle.wh_space_model.specs.Tickets.{with_held}

-- the step's resident pages are pinned, and no others, of its instance or another; no frame is earmarked
pub record IsServing (s : Space) (i : ℕ) (need : Need) : Type 0 where
  pub pinned : (p : ℕ) → 1 ≤ tally (one_if p) (pages_of_need need) → at resident (page_at s.tables i p) ≡ 1
      → 1 ≤ tally (one_if p) (pinned_by s.pins i)
  pub only : (p : ℕ) → 1 ≤ tally (one_if p) (pinned_by s.pins i) → 1 ≤ tally (one_if p) (pages_of_need need)
  pub others : (j p : ℕ) → j ≢ i → tally (one_if p) (pinned_by s.pins j) ≡ 0
  pub kept : length (kept s.pins) ≡ 0

-- the step's resident pages are pinned
abbrev pub HasPinned : Space → ℕ → Need → Type 0
HasPinned s i need =
    (p : ℕ) → 1 ≤ tally (one_if p) (pages_of_need need) → at resident (page_at s.tables i p) ≡ 1
    → 1 ≤ tally (one_if p) (pinned_by s.pins i)

-- the step's pages are there, and none of them is coming
abbrev pub HasPages : Space → ℕ → Need → Type 0
HasPages s i need =
    (p : ℕ) → 1 ≤ tally (one_if p) (pages_of_need need)
    → (at swapped (page_at s.tables i p) + at untouched (page_at s.tables i p)) + at resident (page_at s.tables i p) ≡ 1

-- No page of the step is swapped, and frames are free for its writes.
abbrev pub IsServed : Space → ℕ → Need → Type 0
IsServed s i need = (among swapped s i (pages_of_need need) ≡ 0) × (frames_to_write s i need ≤ length s.pool.free)

-- No frame is free for a swapped page, or where none is swapped, too few for the writes: a page has to leave.
abbrev pub LacksFree : Space → ℕ → Need → Type 0
LacksFree s i need =
    ((1 ≤ among swapped s i (pages_of_need need)) × (length s.pool.free ≡ 0))
    ⊎ ((among swapped s i (pages_of_need need) ≡ 0) × (length s.pool.free < frames_to_write s i need))

-- a page has come, with these bytes; or one has left
pub data Move : Type 0 where
  comes : (bytes : List ℕ) → Move
  goes : Move

-- one move nearer to the step: its first swapped page comes, or the page leaves that has to be taken
abbrev pub MovesOn : Space → ℕ → Need → Move → Space → Type 0
MovesOn s i need (comes bytes) s2 = (p : ℕ) × IsFirstSwapped s i need p × Fetches s i p bytes s2
MovesOn s i need goes s2 = LacksFree s i need × ((j p : ℕ) × MustLeave s i need j p × Evicts s j p s2)

-- 1 where a page left
abbrev pub leaves : Move → ℕ
leaves (comes bytes) = 0
leaves goes = 1

-- what was read is what the slot held
abbrev pub IsTrueTo : Space → ℕ → Need → Move → Type 0
IsTrueTo s i need (comes bytes) =
    (p k : ℕ) → IsFirstSwapped s i need p → page_at s.tables i p ≡ Some (Swapped k) → get_or s.slots.held k [] ≡ bytes
IsTrueTo s i need goes = Unit {0}

-- the step is pinned, and then these moves, the last one first, lead from s to s2
abbrev pub Serves : Space → ℕ → Need → List Move → Space → Type 0
Serves s i need [] s2 = s2 ≡ pinned s i need
Serves s i need (move ∷ moves) s2 = (mid : Space) × Serves s i need moves mid × MovesOn mid i need move s2

-- and what was read in each of them is what the slot held
abbrev pub ServesTruly : Space → ℕ → Need → List Move → Space → Type 0
ServesTruly s i need [] s2 = s2 ≡ pinned s i need
ServesTruly s i need (move ∷ moves) s2 =
    (mid : Space) × ServesTruly s i need moves mid × MovesOn mid i need move s2 × IsTrueTo mid i need move

-- The step is made ready: after moves of which n were pages that left, as many frames are earmarked as its writes want.
abbrev pub Provides : Space → ℕ → Need → ℕ → Space → Type 0
Provides s i need n s2 =
    (moves : List Move) × (mid : Space) × Serves s i need moves mid × (tally leaves moves ≡ n)
    × IsServed mid i need × Earmarks mid i (frames_to_write mid i need) s2

-- Nothing is pinned or earmarked; and a slot to which a write failed, and which is vacant, holds nothing that is known.
abbrev pub GivesUp : Space → Space → Type 0
GivesUp s s2 =
    (s2 ≡ unpinned s)
    ⊎ ((k : ℕ) × (slice_get s.slots.uses k ≡ Some Vacant) × (s2 ≡ unpinned (with_held s k [])))

-- the device failed: the moves so far stay
abbrev pub FailsToProvide : Space → ℕ → Need → Space → Type 0
FailsToProvide s i need s2 =
    (moves : List Move) × (mid : Space) × Serves s i need moves mid × GivesUp mid s2

-- the same where the device tells what its slots hold
abbrev pub ProvidesTruly : Space → ℕ → Need → ℕ → Space → Type 0
ProvidesTruly s i need n s2 =
    (moves : List Move) × (mid : Space) × ServesTruly s i need moves mid × (tally leaves moves ≡ n)
    × IsServed mid i need × Earmarks mid i (frames_to_write mid i need) s2

abbrev pub FailsTruly : Space → ℕ → Need → Space → Type 0
FailsTruly s i need s2 =
    (moves : List Move) × (mid : Space) × ServesTruly s i need moves mid × GivesUp mid s2

-- to no other instance fewer frames are charged than before, or its minimum is still
abbrev pub OthersKeepMinimum : Space → ℕ → Space → Type 0
OthersKeepMinimum s i s2 = (j : ℕ) (t : Occupant) → j ≢ i → occupant_at s j t → min t.min (charged_of s j) ≤ charged_of s2 j

-- On the way, after n pages have left: each of them, and each that came, has made the step readier, and none was taken below
-- another's minimum.
pub record IsOnTheWay (s : Space) (i : ℕ) (need : Need) (n : ℕ) (s2 : Space) : Type 0 where
  pub serving : IsServing s2 i need
  pub has_pages : HasPages s2 i need
  pub none_out : tickets s2 ≡ 0
  pub occupants : s2.occupants ≡ s.occupants
  pub revoked : (n + count resident s2.tables) + among swapped s2 i (pages_of_need need) ≤ count resident s.tables
      + among swapped s i (pages_of_need need)
  pub others : OthersKeepMinimum s i s2

-- a number that falls with each move
abbrev pub far : Space → ℕ → Need → ℕ
far s i need = count resident s.tables + 2 * among swapped s i (pages_of_need need)
