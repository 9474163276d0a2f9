-- Whatever befalls the memory, one thing after the other.
use Rattle.std.specs.Prelude.{ℕ, ◌≡◌, ◌+◌, ◌*◌, ◌≤◌, ◌⊎◌, true, Bool, List, [], Option, Some, length, get_or, zero, suc}
use Rattle.wh_model.specs.declared.memory.Need.{Need}
use Rattle.wh_space_model.specs.declared.Tax.{Tax}
use Rattle.wh_space_model.specs.declared.states.EvictEnd.{EvictEnd}
use Rattle.wh_space_model.specs.declared.states.FetchEnd.{FetchEnd}
use Rattle.wh_space_model.specs.declared.states.Offer.{Offer}
use Rattle.wh_space_model.specs.Parts.{Claimed, Occupant, Space, all_bytes, empty_space, occupant_at}
use Rattle.wh_space_model.specs.Errands.{tickets}
use Rattle.wh_space_model.specs.Sound.{IsSound}
use Rattle.wh_space_model.specs.Offers.{Offers}
use Rattle.wh_space_model.specs.Scanning.{IsDistinct, IsFullPass, IsUnlisted, Scans}
use Rattle.wh_space_model.specs.Tickets.{BeginsEvict, BeginsFetch, CommitsEvict, CommitsFetch, IsWritten, WaitsForBytes}
use Rattle.wh_space_model.specs.Stores.{Epochs, Grew, Overwrites, Touches, ended, stood}
use Rattle.wh_space_model.specs.Places.{Enters, Exits}
use Rattle.wh_space_model.specs.Forks.{Lends}
use Rattle.wh_space_model.specs.Provide.{FailsToProvide, Provides}

-- the bytes are in the table of this live instance, and are at most a page's
abbrev pub MayWaitFor : Space → ℕ → Occupant → Need → Type 0
MayWaitFor s i t need =
    (t.live ≡ true) × (need.at + need.length ≤ 4096 * length (get_or s.tables i [])) × (need.length ≤ 4096)

-- One thing befalls the memory.
pub data BefallsMemory (hashes : List ℕ → ℕ) (s s2 : Space) : Type 0 where
  loads : (i first n : ℕ) → Touches s i first n s2 → BefallsMemory hashes s s2
  stores : (i at : ℕ) (given : List ℕ) → Overwrites s i at given s2 → BefallsMemory hashes s s2
  new_epoch : Epochs s s2 → BefallsMemory hashes s s2
  stands : (i : ℕ) (t : Occupant) (need : Option Need) → occupant_at s i t
      → ((want : Need) → need ≡ Some want → MayWaitFor s i t want) → s2 ≡ stood s i need → BefallsMemory hashes s s2
  ends : (i : ℕ) (t : Occupant) → occupant_at s i t → s2 ≡ ended s i → BefallsMemory hashes s s2
  offered : (i p hash : ℕ) (answer : Offer) → Offers hashes s i p hash answer s2 → BefallsMemory hashes s s2
  begins_evict : (i : ℕ) (slot : Option ℕ) (bytes : List ℕ) → BeginsEvict s i slot bytes s2 → BefallsMemory hashes s s2
  written : (k : ℕ) (bytes : List ℕ) (wrote : Bool) → IsWritten s k bytes wrote s2 → BefallsMemory hashes s s2
  commits_evict : (k : ℕ) (wrote : Bool) (bytes : List ℕ) (end : EvictEnd)
      → (wrote ≡ true → get_or s.slots.held k [] ≡ bytes) → CommitsEvict s k wrote bytes end s2 → BefallsMemory hashes s s2
  begins_fetch : (i : ℕ) (slot : Option ℕ) → BeginsFetch s i slot s2 → BefallsMemory hashes s s2
  commits_fetch : (k : ℕ) (read : Bool) (bytes : List ℕ) (end : FetchEnd) → CommitsFetch s k read bytes end s2
      → BefallsMemory hashes s s2
  provides : (i n : ℕ) (need : Need) → tickets s ≡ 0 → WaitsForBytes s i need → Provides s i need n s2
      → BefallsMemory hashes s s2
  fails : (i : ℕ) (need : Need) → tickets s ≡ 0 → WaitsForBytes s i need → FailsToProvide s i need s2
      → BefallsMemory hashes s s2
  grows : (i n : ℕ) (t : Occupant) → occupant_at s i t → t.live ≡ true
      → length (get_or s.tables i []) + 16 * n ≤ t.max → Grew s i n s2 → BefallsMemory hashes s s2
  enters : (i size : ℕ) (c : Claimed) → Enters s i c size s2 → BefallsMemory hashes s s2
  exits : (i : ℕ) → Exits s i s2 → BefallsMemory hashes s s2

-- n things, one after the other, or pages that are lent
abbrev pub Follows : (List ℕ → ℕ) → Space → ℕ → Space → Type 0
Follows hashes s zero s2 = s2 ≡ s
Follows hashes s (suc n) s2 =
    (mid : Space) × Follows hashes s n mid × (BefallsMemory hashes mid s2 ⊎ ((i j p : ℕ) × Lends mid i j p s2))

-- a provision that fails leaves all sound
abbrev pub FailsSoundly : Type 0
FailsSoundly =
    (s : Space) (i : ℕ) (need : Need) (s2 : Space) → IsSound s → tickets s ≡ 0 → WaitsForBytes s i need
    → FailsToProvide s i need s2 → IsSound s2

-- a memory in which nobody is yet is sound
abbrev pub EmptyIsSound : Type 0
EmptyIsSound = (frames slots : ℕ) (tax : Tax) → IsSound (empty_space frames slots tax)

-- and so is what it becomes, whatever befalls it
abbrev pub StaysSound : Type 0
StaysSound =
    (hashes : List ℕ → ℕ) (frames slots : ℕ) (tax : Tax) (n : ℕ) (s : Space)
    → Follows hashes (empty_space frames slots tax) n s → IsSound s

-- pages that are offered one after the other, a full pass among them, leave all sound, and change nobody's bytes
abbrev pub ScansSoundly : Type 0
ScansSoundly =
    (hashes : List ℕ → ℕ) (s : Space) (pages : List (ℕ × ℕ)) (s2 : Space) → IsSound s → Scans hashes s pages s2
    → IsSound s2 × (all_bytes s2 ≡ all_bytes s)

-- after a full pass as many frames are in use as there are distinct contents
abbrev pub PassesFully : Type 0
PassesFully =
    (hashes : List ℕ → ℕ) (s : Space) (pages : List (ℕ × ℕ)) (s2 : Space) (all : List (List ℕ)) → IsSound s
    → IsFullPass hashes s pages s2 → IsDistinct s2 all → length all + length s2.pool.free ≡ length s2.pool.frames

-- and these can be listed
abbrev pub ContentsAreListed : Type 0
ContentsAreListed =
    (hashes : List ℕ → ℕ) (s : Space) (pages : List (ℕ × ℕ)) (s2 : Space) → IsSound s → IsFullPass hashes s pages s2
    → (all : List (List ℕ)) × IsDistinct s2 all

-- and no frame is shared without an entry
abbrev pub PassesListAll : Type 0
PassesListAll =
    (hashes : List ℕ → ℕ) (s : Space) (pages : List (ℕ × ℕ)) (s2 : Space) → IsSound s → IsFullPass hashes s pages s2
    → (f : ℕ) → ¬ IsUnlisted s2 f

-- a frame comes to be shared without an entry by a page that is lent, and by nothing else
abbrev pub OnlyLendsUnlist : Type 0
OnlyLendsUnlist =
    (hashes : List ℕ → ℕ) (s s2 : Space) → IsSound s → BefallsMemory hashes s s2
    → (f : ℕ) → IsUnlisted s2 f → IsUnlisted s f
