-- What holds of the memory on which all instances lie.
use Rattle.std.specs.Prelude.{ℕ, ◌≡◌, ◌+◌, ◌<◌, ◌≤◌, ◌⊎◌, Bool, true, min, List, [], Option, Some, length, get_or}
use Rattle.wh_space_model.specs.declared.states.EvictEnd.{EvictEnd}
use Rattle.wh_space_model.specs.declared.states.FetchEnd.{FetchEnd}
use Rattle.wh_model.specs.declared.memory.Need.{Need}
use Rattle.wh_space_model.specs.Frames.{tally, one_if}
use Rattle.wh_space_model.specs.declared.states.Page.TheVariants.{Swapped}
use Rattle.wh_space_model.specs.States.{page_at, count, owns, resident}
use Rattle.wh_space_model.specs.Parts.{Space, Occupant, occupant_at, all_bytes, sharers, kept}
use Rattle.wh_space_model.specs.Errands.{fetches_into, tickets}
use Rattle.wh_space_model.specs.Sound.{IsSound}
use Rattle.wh_space_model.specs.Ready.{Ready, below}
use Rattle.wh_space_model.specs.Charges.{IsChargedFor, frame_charge, charged_of, stands_on}
use Rattle.wh_space_model.specs.Claims.{CanLeave, MustLeave, NoneMustLeave}
use Rattle.wh_space_model.specs.Moves.{Evicts, Fetches}
use Rattle.wh_space_model.specs.Provide.{IsServing, LacksFree, HasPinned, Move, OthersKeepMinimum, Provides, Serves, leaves}
use Rattle.wh_space_model.specs.Tickets.{BeginsEvict, BeginsFetch, CommitsEvict, CommitsFetch, WaitsForBytes}

-- whether a step is ready can be told
abbrev pub ReadyIsDecided : Type 0
ReadyIsDecided = (s : Space) (i : ℕ) (need : Need) → Ready s i need ⊎ ¬ Ready s i need

-- a step that reads or writes no bytes is ready
abbrev pub NoBytesAreReady : Type 0
NoBytesAreReady = (s : Space) (i : ℕ) (need : Need) → need.length ≡ 0 → Ready s i need

-- what a frame is used for: it is free, one page's own, shared by at least one, earmarked, or held by one fetch ticket
pub data FrameUse : Type 0 where
  is_free : FrameUse
  is_owned : FrameUse
  is_shared : FrameUse
  is_earmarked : FrameUse
  is_awaited : FrameUse

abbrev pub HasUse : Space → ℕ → FrameUse → Type 0
HasUse s f is_free = tally (one_if f) s.pool.free ≡ 1
HasUse s f is_owned = count (owns f) s.tables ≡ 1
HasUse s f is_shared = 1 ≤ sharers s f
HasUse s f is_earmarked = tally (one_if f) (kept s.pins) ≡ 1
HasUse s f is_awaited = tally (fetches_into f) s.slots.uses ≡ 1

-- each frame has exactly one of these uses
abbrev pub OneUseOfAFrame : Type 0
OneUseOfAFrame =
    (s : Space) (f : ℕ) → IsSound s → f < length s.pool.frames
    → (one : FrameUse) × HasUse s f one × ((other : FrameUse) → HasUse s f other → other ≡ one)

-- where a step lacks a frame there is a page to take, for whoever has the step's pages pinned while no ticket is out
abbrev pub SomePageCanBeTaken : Type 0
SomePageCanBeTaken =
    (s : Space) (i : ℕ) (need : Need) (t : Occupant) → IsSound s → tickets s ≡ 0 → IsServing s i need
    → occupant_at s i t
    → LacksFree s i need → ¬ NoneMustLeave s i need

-- and a slot for it
abbrev pub SomeSlotIsVacant : Type 0
SomeSlotIsVacant =
    (s : Space) (i : ℕ) (need : Need) (t : Occupant) → IsSound s → tickets s ≡ 0 → IsServing s i need
    → occupant_at s i t
    → LacksFree s i need → 1 ≤ length s.slots.vacant

-- a page that goes to a slot in one go leaves all sound, and all bytes as they were
abbrev pub EvictionKeepsAll : Type 0
EvictionKeepsAll =
    (s : Space) (j p : ℕ) (s2 : Space) → IsSound s → CanLeave s j p → Evicts s j p s2 → IsSound s2
    × (all_bytes s2 ≡ all_bytes s)

-- one that comes from a slot does so too, its bytes where what was read is what the slot held
abbrev pub FetchKeepsSound : Type 0
FetchKeepsSound = (s : Space) (i p : ℕ) (bytes : List ℕ) (s2 : Space) → IsSound s → Fetches s i p bytes s2 → IsSound s2

abbrev pub FetchKeepsBytes : Type 0
FetchKeepsBytes =
    (s : Space) (i p k : ℕ) (bytes : List ℕ) (s2 : Space) → IsSound s → page_at s.tables i p ≡ Some (Swapped k)
    → get_or s.slots.held k [] ≡ bytes
    → Fetches s i p bytes s2 → all_bytes s2 ≡ all_bytes s

-- however a provision goes on, as many pages leave at most as were resident at first, and two more
abbrev pub MovesAreFew : Type 0
MovesAreFew =
    (s : Space) (i : ℕ) (need : Need) (moves : List Move) (mid : Space) → IsSound s → tickets s ≡ 0
    → WaitsForBytes s i need
    → Serves s i need moves mid → tally leaves moves ≤ count resident s.tables + 2

-- After a provision all is sound, the step ready and pinned, at most n pages have left, and no other instance is below its
-- minimum that wasn't.
pub record IsProvided (s : Space) (i : ℕ) (need : Need) (n : ℕ) (s2 : Space) : Type 0 where
  pub sound : IsSound s2
  pub ready : Ready s2 i need
  pub pinned : HasPinned s2 i need
  pub bounded : n ≤ count resident s.tables + 2
  pub others : OthersKeepMinimum s i s2

abbrev pub ProvisionIsRight : Type 0
ProvisionIsRight =
    (s : Space) (i : ℕ) (need : Need) (n : ℕ) (s2 : Space) → IsSound s → tickets s ≡ 0 → WaitsForBytes s i need
    → Provides s i need n s2
    → IsProvided s i need n s2

-- an eviction that begins, or doesn't, leaves all sound
abbrev pub BeginsEvictSoundly : Type 0
BeginsEvictSoundly =
    (s s2 : Space) (i : ℕ) (slot : Option ℕ) (bytes : List ℕ) → IsSound s → BeginsEvict s i slot bytes s2 → IsSound s2

-- what begins changes no bytes
abbrev pub BeginsEvictQuietly : Type 0
BeginsEvictQuietly =
    (s s2 : Space) (i k : ℕ) (bytes : List ℕ) → BeginsEvict s i (Some k) bytes s2 → all_bytes s2 ≡ all_bytes s

abbrev pub BeginsFetchQuietly : Type 0
BeginsFetchQuietly = (s s2 : Space) (i k : ℕ) → BeginsFetch s i (Some k) s2 → all_bytes s2 ≡ all_bytes s

-- nor does what ends, where the slot holds what was written or read
abbrev pub CommitsEvictQuietly : Type 0
CommitsEvictQuietly =
    (s s2 : Space) (k : ℕ) (wrote : Bool) (bytes : List ℕ) (end : EvictEnd)
    → (wrote ≡ true → get_or s.slots.held k [] ≡ bytes)
    → CommitsEvict s k wrote bytes end s2 → all_bytes s2 ≡ all_bytes s

abbrev pub CommitsFetchQuietly : Type 0
CommitsFetchQuietly =
    (s s2 : Space) (k : ℕ) (read : Bool) (bytes : List ℕ) (end : FetchEnd) → IsSound s
    → (read ≡ true → get_or s.slots.held k [] ≡ bytes)
    → CommitsFetch s k read bytes end s2 → all_bytes s2 ≡ all_bytes s

-- the page that must leave for a step is one page
abbrev pub OnePageMustLeave : Type 0
OnePageMustLeave =
    (s : Space) (i j p k q : ℕ) (need : Need) → IsSound s → MustLeave s i need j p → MustLeave s i need k q
    → (j ≡ k) × (p ≡ q)

-- a frame on which pages stand has exactly one charged page, and is charged to its instance
abbrev pub OneChargedPage : Type 0
OneChargedPage =
    (s : Space) (f : ℕ) → IsSound s → 1 ≤ count (stands_on f) s.tables
    → (i p : ℕ) × IsChargedFor s i p f × (frame_charge s i f ≡ 1)
    × ((j q : ℕ) → IsChargedFor s j q f → (i ≡ j) × (p ≡ q))

-- to all instances together as many frames are charged as pages map to
abbrev pub ChargesAddUp : Type 0
ChargesAddUp =
    (s : Space) → IsSound s
    → below (length s.tables) (λ i. charged_of s i)
    ≡ below (length s.pool.frames) (λ f. min 1 (count (stands_on f) s.tables))
