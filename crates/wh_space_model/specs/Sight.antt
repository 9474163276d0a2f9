-- What changes nobody's bytes, and what changes only one's own.
use Rattle.std.specs.Prelude.{ℕ, ◌≡◌, ◌≢◌, ◌*◌, ◌≤◌, ◌++◌, replicate, false, Bool, List, [], Option, None, Some, length, get_or, slice_get}
use Rattle.wh_model.specs.Execution.Memory.{writing}
use Rattle.wh_space_model.specs.Frames.{tally, one_if}
use Rattle.wh_space_model.specs.declared.states.Slot.TheVariants.{Evicting}
use Rattle.wh_space_model.specs.declared.states.EvictEnd.{EvictEnd}
use Rattle.wh_space_model.specs.declared.states.EvictEnd.TheVariants.{Void}
use Rattle.wh_model.specs.declared.memory.Need.{Need}
use Rattle.wh_space_model.specs.declared.states.Offer.{Offer}
use Rattle.wh_space_model.specs.declared.states.Offer.TheVariants.{Skipped}
use Rattle.wh_space_model.specs.Parts.{Claimed, Occupant, Space, all_bytes, has_number, kept_by, occupant_at, pinned_by, view}
use Rattle.wh_space_model.specs.Places.{Enters, Exits}
use Rattle.wh_space_model.specs.Stores.{Epochs, Grew, Touches, ended, stood, Overwrites}
use Rattle.wh_space_model.specs.Sound.{IsSound}
use Rattle.wh_space_model.specs.Tickets.{IsWritten, CommitsEvict}
use Rattle.wh_space_model.specs.Offers.{Offers, OffersOf}
use Rattle.wh_space_model.specs.Provide.{IsServed, Provides}
use Rattle.wh_space_model.specs.Ready.{pages_of_need}
use Rattle.wh_space_model.specs.Moves.{pinned}

-- no offer changes a byte, for any hash that is handed in
abbrev pub OffersQuietly : Type 0
OffersQuietly =
    (hashes : List ℕ → ℕ) (s : Space) (i p hash : ℕ) (answer : Offer) (s2 : Space)
    → Offers hashes s i p hash answer s2 → all_bytes s2 ≡ all_bytes s

-- nor does a device call for an eviction
abbrev pub WritesQuietly : Type 0
WritesQuietly =
    (s : Space) (k : ℕ) (bytes : List ℕ) (wrote : Bool) (s2 : Space) → IsSound s → IsWritten s k bytes wrote s2
    → all_bytes s2 ≡ all_bytes s

-- nor does a load, a new epoch, or whether an instance waits for a frame
pub record KeepsBytes (s : Space) (i : ℕ) : Type 0 where
  pub touches : (first n : ℕ) (s2 : Space) → Touches s i first n s2 → all_bytes s2 ≡ all_bytes s
  pub epochs : (s2 : Space) → Epochs s s2 → all_bytes s2 ≡ all_bytes s
  pub stands : (need : Option Need) → all_bytes (stood s i need) ≡ all_bytes s
  pub ends : all_bytes (ended s i) ≡ all_bytes s

abbrev pub StepsQuietly : Type 0
StepsQuietly = (s : Space) (i : ℕ) → KeepsBytes s i

-- an instance that grows or comes changes no other's bytes; of one that goes none are left
abbrev pub GrowsAlone : Type 0
GrowsAlone = (s : Space) (i n : ℕ) (s2 : Space) → Grew s i n s2 → (j : ℕ) → j ≢ i → view s2 j ≡ view s j

-- and sees zeros after what it saw, or nothing but zeros
abbrev pub GrowsByZeros : Type 0
GrowsByZeros =
    (s : Space) (i n : ℕ) (t : Occupant) (s2 : Space) → IsSound s → occupant_at s i t → Grew s i n s2
    → view s2 i ≡ view s i ++ replicate (65536 * n) 0

abbrev pub EntersAtZeros : Type 0
EntersAtZeros =
    (s : Space) (i : ℕ) (c : Claimed) (size : ℕ) (s2 : Space) → IsSound s → Enters s i c size s2
    → view s2 i ≡ replicate (65536 * size) 0

abbrev pub EntersAlone : Type 0
EntersAlone =
    (s : Space) (i : ℕ) (c : Claimed) (size : ℕ) (s2 : Space) → IsSound s → Enters s i c size s2 → (j : ℕ)
    → j ≢ i → view s2 j ≡ view s j

abbrev pub ExitsAlone : Type 0
ExitsAlone =
    (s : Space) (i : ℕ) (s2 : Space) → Exits s i s2 → (view s2 i ≡ []) × ((j : ℕ) → j ≢ i → view s2 j ≡ view s j)

-- with the step that was taken, the call that was cancelled and the instance that goes, pins and earmarks end
abbrev pub HasNoPins : Space → ℕ → Type 0
HasNoPins s i = (kept_by s.pins i ≡ []) × (pinned_by s.pins i ≡ [])

abbrev pub PinsEnd : Type 0
PinsEnd = (s : Space) (i : ℕ) → HasNoPins (ended s i) i × ((s2 : Space) → Exits s i s2 → HasNoPins s2 i)

-- an offer for an instance that is gone is skipped, though its place is another's
abbrev pub GoneIsSkipped : Type 0
GoneIsSkipped =
    (hashes : List ℕ → ℕ) (s : Space) (place number p hash : ℕ) (answer : Offer) (s2 : Space) → IsSound s
    → has_number (get_or s.occupants place None) number ≡ false
    → OffersOf hashes s place number p hash answer s2 → (answer ≡ Skipped) × (s2 ≡ s)

-- an eviction whose page was written meanwhile is void, whatever the device says
abbrev pub WrittenIsVoid : Type 0
WrittenIsVoid =
    (s : Space) (i p at : ℕ) (given : List ℕ) (s2 : Space) (k : ℕ) (wrote : Bool) (bytes : List ℕ) (end : EvictEnd)
    (s3 : Space)
    → slice_get s.slots.uses k ≡ Some (Evicting i p) → Overwrites s i at given s2
    → 1 ≤ tally (one_if p) (pages_of_need (writing at (length given)))
    → CommitsEvict s2 k wrote bytes end s3 → end ≡ Void

-- and so is one whose instance was released
abbrev pub ReleasedIsVoid : Type 0
ReleasedIsVoid =
    (s : Space) (i p : ℕ) (s2 : Space) (k : ℕ) (wrote : Bool) (bytes : List ℕ) (end : EvictEnd) (s3 : Space)
    → slice_get s.slots.uses k ≡ Some (Evicting i p) → Exits s i s2 → CommitsEvict s2 k wrote bytes end s3 → end ≡ Void

-- no page leaves for a step that has all pages and frames that it wants
abbrev pub NothingNeedless : Type 0
NothingNeedless =
    (s : Space) (i : ℕ) (need : Need) (n : ℕ) (s2 : Space) → IsServed (pinned s i need) i need
    → Provides s i need n s2 → n ≡ 0
