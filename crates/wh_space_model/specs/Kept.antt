-- What keeps the memory sound.
use Rattle.std.specs.Prelude.{ℕ, ◌≡◌, ◌+◌, ◌*◌, ◌≤◌, true, Bool, List, [], Option, Some, length, get_or}
use Rattle.wh_space_model.specs.declared.states.EvictEnd.{EvictEnd}
use Rattle.wh_space_model.specs.declared.states.FetchEnd.{FetchEnd}
use Rattle.wh_space_model.specs.declared.states.Offer.{Offer}
use Rattle.wh_model.specs.declared.memory.Need.{Need}
use Rattle.wh_space_model.specs.Stores.{Epochs, Grew, Touches, ended, stood}
use Rattle.wh_space_model.specs.Sound.{IsSound}
use Rattle.wh_space_model.specs.Tickets.{IsWritten, CommitsEvict, BeginsFetch, CommitsFetch}
use Rattle.wh_space_model.specs.Parts.{Claimed, Occupant, Space, occupant_at}
use Rattle.wh_space_model.specs.Places.{Enters, Exits}
use Rattle.wh_space_model.specs.Offers.{Offers}

-- a load
abbrev pub TouchesSoundly : Type 0
TouchesSoundly = (s : Space) (i first n : ℕ) (s2 : Space) → IsSound s → Touches s i first n s2 → IsSound s2

-- a new epoch
abbrev pub EpochsSoundly : Type 0
EpochsSoundly = (s s2 : Space) → IsSound s → Epochs s s2 → IsSound s2

-- a device call for an eviction
abbrev pub WritesSoundly : Type 0
WritesSoundly =
    (s : Space) (k : ℕ) (bytes : List ℕ) (wrote : Bool) (s2 : Space) → IsSound s → IsWritten s k bytes wrote s2
    → IsSound s2

-- to wait for a frame at bytes that are in the table of a live instance, or for none
abbrev pub WaitsSoundly : Type 0
WaitsSoundly =
    (s : Space) (i : ℕ) (t : Occupant) (need : Option Need) → IsSound s → occupant_at s i t
    → ((want : Need) → need ≡ Some want
    → (t.live ≡ true) × (want.at + want.length ≤ 4096 * length (get_or s.tables i [])) × (want.length ≤ 4096))
    → IsSound (stood s i need)

-- the end of a step
abbrev pub EndsSoundly : Type 0
EndsSoundly = (s : Space) (i : ℕ) (t : Occupant) → IsSound s → occupant_at s i t → IsSound (ended s i)

-- the ticket of an eviction, void or not, when it comes back: where the device wrote it the slot holds what was written
abbrev pub CommitsEvictSoundly : Type 0
CommitsEvictSoundly =
    (s : Space) (k : ℕ) (wrote : Bool) (bytes : List ℕ) (end : EvictEnd) (s2 : Space) → IsSound s
    → (wrote ≡ true → get_or s.slots.held k [] ≡ bytes) → CommitsEvict s k wrote bytes end s2 → IsSound s2

-- an offer, for any hash that is handed in
abbrev pub OffersSoundly : Type 0
OffersSoundly =
    (hashes : List ℕ → ℕ) (s : Space) (i p hash : ℕ) (answer : Offer) (s2 : Space) → IsSound s
    → Offers hashes s i p hash answer s2 → IsSound s2

-- a fetch that begins, or doesn't
abbrev pub BeginsFetchSoundly : Type 0
BeginsFetchSoundly = (s s2 : Space) (i : ℕ) (slot : Option ℕ) → IsSound s → BeginsFetch s i slot s2 → IsSound s2

-- the ticket of a fetch, void or not, when it comes back
abbrev pub CommitsFetchSoundly : Type 0
CommitsFetchSoundly =
    (s : Space) (k : ℕ) (read : Bool) (bytes : List ℕ) (end : FetchEnd) (s2 : Space) → IsSound s
    → CommitsFetch s k read bytes end s2 → IsSound s2

-- a live instance that grows within its maximum
abbrev pub GrowsSoundly : Type 0
GrowsSoundly =
    (s : Space) (i n : ℕ) (t : Occupant) (s2 : Space) → IsSound s → occupant_at s i t → t.live ≡ true
    → length (get_or s.tables i []) + 16 * n ≤ t.max → Grew s i n s2 → IsSound s2

-- an instance that comes
abbrev pub EntersSoundly : Type 0
EntersSoundly =
    (s : Space) (i : ℕ) (c : Claimed) (size : ℕ) (s2 : Space) → IsSound s → Enters s i c size s2 → IsSound s2

-- one that goes
abbrev pub ExitsSoundly : Type 0
ExitsSoundly = (s : Space) (i : ℕ) (s2 : Space) → IsSound s → Exits s i s2 → IsSound s2
