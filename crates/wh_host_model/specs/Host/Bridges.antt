-- What the memory's own moves are to a host of many instances: each leaves what the host's events ask of it.
use Rattle.std.specs.Prelude.{◌≡◌, ℕ, ◌+◌, ◌*◌, ◌≤◌, ◌++◌, replicate, Bool, true, List, [], Option, Some, None, length, get_or}
use Rattle.wh_model.specs.declared.memory.Need.{Need}
use Rattle.wh_model.specs.Execution.Store.{written}
use Rattle.wh_space_model.specs.declared.states.Offer.{Offer}
use Rattle.wh_space_model.specs.declared.states.EvictEnd.{EvictEnd}
use Rattle.wh_space_model.specs.declared.states.FetchEnd.{FetchEnd}
use Rattle.wh_space_model.specs.Parts.{Space, Occupant, Claimed, occupant_at, view}
use Rattle.wh_space_model.specs.Errands.{tickets}
use Rattle.wh_space_model.specs.Sound.{IsSound}
use Rattle.wh_space_model.specs.Sight.{HasNoPins}
use Rattle.wh_space_model.specs.Chain.{MayWaitFor}
use Rattle.wh_space_model.specs.Stores.{Epochs, Grew, Overwrites, Touches, ended, stood}
use Rattle.wh_space_model.specs.Offers.{Offers}
use Rattle.wh_space_model.specs.Places.{Enters, Exits}
use Rattle.wh_space_model.specs.Forks.{Copies}
use Rattle.wh_space_model.specs.Tickets.{BeginsEvict, BeginsFetch, CommitsEvict, CommitsFetch, IsWritten, WaitsForBytes}
use Rattle.wh_space_model.specs.Provide.{FailsToProvide, FailsTruly, Provides, ProvidesTruly}
use Rattle.wh_host_model.specs.Host.Misreading.{AllSeeAsMany}
use Rattle.wh_host_model.specs.Host.Spaces.{AllLeftAlone, Arrives, ArrivesSeeing, Departs, WaitsAlone, StepsAlone}

-- ---- steps of one instance, and what it sees after them

-- a load: what it saw
abbrev pub LoadsStep : Type 0
LoadsStep =
    (s : Space) (i first n : ℕ) (s2 : Space) → IsSound s → Touches s i first n s2
    → StepsAlone i s s2 × (view s2 i ≡ view s i)

-- a store: that with the bytes that were given
abbrev pub StoresStep : Type 0
StoresStep =
    (s : Space) (i at : ℕ) (given : List ℕ) (s2 : Space) → IsSound s → Overwrites s i at given s2
    → StepsAlone i s s2 × (view s2 i ≡ written (view s i) at given)

-- growth: that with zeros after it
abbrev pub GrowthSteps : Type 0
GrowthSteps =
    (s : Space) (i n : ℕ) (t : Occupant) (s2 : Space) → IsSound s → occupant_at s i t → t.live ≡ true
    → length (get_or s.tables i []) + 16 * n ≤ t.max → Grew s i n s2
    → StepsAlone i s s2 × (view s2 i ≡ view s i ++ replicate (65536 * n) 0)

-- ---- where a turn or a request leaves it

-- it waits for a frame at bytes for which it may stand, or for none
abbrev pub WaitsWell : Type 0
WaitsWell =
    (s : Space) (i : ℕ) (t : Occupant) (need : Option Need) → IsSound s → occupant_at s i t → t.live ≡ true
    → ((want : Need) → need ≡ Some want → MayWaitFor s i t want) → WaitsAlone i need s (stood s i need)

-- its step was taken, or its call cancelled: its pins end too
abbrev pub EndsWell : Type 0
EndsWell =
    (s : Space) (i : ℕ) (t : Occupant) → IsSound s → occupant_at s i t → t.live ≡ true
    → WaitsAlone i None s (ended s i) × HasNoPins (ended s i) i

-- ---- moves that leave all alone

abbrev pub EpochsLeaveAll : Type 0
EpochsLeaveAll = (s s2 : Space) → IsSound s → Epochs s s2 → AllLeftAlone s s2

abbrev pub OffersLeaveAll : Type 0
OffersLeaveAll =
    (hashes : List ℕ → ℕ) (s : Space) (i p hash : ℕ) (answer : Offer) (s2 : Space) → IsSound s
    → Offers hashes s i p hash answer s2 → AllLeftAlone s s2

abbrev pub EvictionsBegin : Type 0
EvictionsBegin =
    (s s2 : Space) (i : ℕ) (slot : Option ℕ) (bytes : List ℕ) → IsSound s → BeginsEvict s i slot bytes s2
    → AllLeftAlone s s2

abbrev pub FetchesBegin : Type 0
FetchesBegin = (s s2 : Space) (i : ℕ) (slot : Option ℕ) → IsSound s → BeginsFetch s i slot s2 → AllLeftAlone s s2

abbrev pub WritesLeaveAll : Type 0
WritesLeaveAll =
    (s : Space) (k : ℕ) (bytes : List ℕ) (wrote : Bool) (s2 : Space) → IsSound s → IsWritten s k bytes wrote s2
    → AllLeftAlone s s2

-- a ticket of an eviction comes back, where the slot holds what the device says it wrote
abbrev pub EvictionsEnd : Type 0
EvictionsEnd =
    (s s2 : Space) (k : ℕ) (wrote : Bool) (bytes : List ℕ) (end : EvictEnd) → IsSound s
    → (wrote ≡ true → get_or s.slots.held k [] ≡ bytes) → CommitsEvict s k wrote bytes end s2 → AllLeftAlone s s2

-- and one of a fetch, where it brings what the slot holds
abbrev pub FetchesEnd : Type 0
FetchesEnd =
    (s s2 : Space) (k : ℕ) (read : Bool) (bytes : List ℕ) (end : FetchEnd) → IsSound s
    → (read ≡ true → get_or s.slots.held k [] ≡ bytes) → CommitsFetch s k read bytes end s2 → AllLeftAlone s s2

-- a provision, and one that fails, where the device tells what its slots hold
abbrev pub ProvisionsLeaveAll : Type 0
ProvisionsLeaveAll =
    (s : Space) (i : ℕ) (need : Need) (n : ℕ) (s2 : Space) → IsSound s → tickets s ≡ 0 → WaitsForBytes s i need
    → ProvidesTruly s i need n s2 → AllLeftAlone s s2

abbrev pub FailuresLeaveAll : Type 0
FailuresLeaveAll =
    (s : Space) (i : ℕ) (need : Need) (s2 : Space) → IsSound s → tickets s ≡ 0 → WaitsForBytes s i need
    → FailsTruly s i need s2 → AllLeftAlone s s2

-- ---- the same moves whatever bytes the device gives

abbrev pub FetchesSeeAsMany : Type 0
FetchesSeeAsMany =
    (s s2 : Space) (k : ℕ) (read : Bool) (bytes : List ℕ) (end : FetchEnd) → IsSound s
    → CommitsFetch s k read bytes end s2 → AllSeeAsMany s s2

abbrev pub ProvisionsSeeAsMany : Type 0
ProvisionsSeeAsMany =
    (s : Space) (i : ℕ) (need : Need) (n : ℕ) (s2 : Space) → IsSound s → tickets s ≡ 0 → WaitsForBytes s i need
    → Provides s i need n s2 → AllSeeAsMany s s2

abbrev pub FailuresSeeAsMany : Type 0
FailuresSeeAsMany =
    (s : Space) (i : ℕ) (need : Need) (s2 : Space) → IsSound s → tickets s ≡ 0 → WaitsForBytes s i need
    → FailsToProvide s i need s2 → AllSeeAsMany s s2

-- ---- coming and going

abbrev pub EntrantsArrive : Type 0
EntrantsArrive =
    (s : Space) (i : ℕ) (c : Claimed) (size : ℕ) (s2 : Space) → IsSound s → Enters s i c size s2
    → Arrives i c (65536 * size) s s2

abbrev pub ExitsDepart : Type 0
ExitsDepart = (s : Space) (i : ℕ) (s2 : Space) → IsSound s → Exits s i s2 → Departs i s s2

-- a copy of the instance at place i comes, and sees what it sees
abbrev pub CopiesArrive : Type 0
CopiesArrive =
    (s : Space) (i j : ℕ) (c : Claimed) (s2 : Space) → IsSound s → Copies s i j c s2
    → ArrivesSeeing j c (view s i) s s2
