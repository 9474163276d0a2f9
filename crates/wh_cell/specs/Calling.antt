-- What a call of the swap device makes of it, and what is begun before one.
use Rattle.std.specs.Prelude.{◌≡◌, ◌≢◌, ◌<◌, ℕ, cond, List, [], length, get_or, slice_get, slice_set, Some, Result, OnOk, is_ok}
use Rattle.wh_model.specs.declared.memory.Need.{Need}
use Rattle.wh_space_model.specs.declared.plain.InstId.{InstId}
use Rattle.wh_space_model.specs.declared.plain.SwapError.{SwapError}
use Rattle.wh_space_model.specs.Errands.{Errand, to_read, to_write}
use Rattle.wh_space_model.specs.Laws.{IsProvided}
use Rattle.wh_swap.specs.DeviceCalls.{ServesOn, call_faults}
use Rattle.wh_host.specs.Hosting.{HostState}
use Rattle.wh_host.specs.Paging.{WaitsFor}
use Rattle.wh_cell.specs.declared.moving.Begun.{Begun}
use Rattle.wh_cell.specs.declared.moving.Begun.TheVariants.{Coming, Leaving, Neither}
use Rattle.wh_cell.specs.Knowing.{KnownState, with_ticket}

module _ {D : Type 0} (held : D → List (List ℕ)) (keeps honest : D → Type 0) (faults : D → List SwapError) where
  -- it was asked to write these bytes to a slot, and answered so: the slot holds them, or nothing that is known
  pub record HasWritten (before : D) (slot : ℕ) (bytes : List ℕ) (answer : Result Unit SwapError) (after : D)
      : Type 0 where
    pub serves : ServesOn keeps honest faults before (call_faults answer) after
    pub holds : held after ≡ slice_set (held before) slot (cond (is_ok answer) bytes [])

  -- it was asked to read a slot, and answered so, with these bytes: those that the slot holds, where it has read right
  pub record HasRead (before : D) (slot : ℕ) (bytes : List ℕ) (answer : Result Unit SwapError) (after : D)
      : Type 0 where
    pub serves : ServesOn keeps honest faults before (call_faults answer) after
    pub holds : held after ≡ held before
    pub right : OnOk answer (honest after → get_or (held before) slot [] ≡ bytes)

module _ {D : Type 0} (held : D → List (List ℕ)) where
  -- the device that is known has this slot
  abbrev pub HasSlot : KnownState D → ℕ → Type 0
  HasSlot known slot = (d : D) → known.device ≡ Some d → slot < length (held d)

  -- and the slot holds something that is known
  abbrev pub HasContent : KnownState D → ℕ → Type 0
  HasContent known slot = (d : D) → known.device ≡ Some d → get_or (held d) slot [] ≢ []

  -- a ticket for a slot is out: what whoever keeps the device knows then
  pub record GoesOut (known : KnownState D) (slot : ℕ) (errand : Errand) (known2 : KnownState D) : Type 0 where
    pub after : known2 ≡ with_ticket known slot errand
    pub out : slice_get known2.out slot ≡ Some (Some errand)
    pub there : HasSlot known slot

  -- what has begun
  abbrev pub HasBegun : KnownState D → Begun → KnownState D → Type 0
  HasBegun known (Coming fetched) known2 =
      GoesOut known fetched.ticket.slot to_read known2 × HasContent known fetched.ticket.slot
  HasBegun known (Leaving eviction) known2 = GoesOut known eviction.ticket.slot to_write known2
  HasBegun known (Neither buf) known2 = known2 ≡ known

-- Where the present call of the instance waited for a frame, a provision has made its next step ready.
abbrev pub IsMadeReady : InstId → HostState → HostState → Type 0
IsMadeReady id h h2 =
    (need : Need) → WaitsFor h id need → (gone : ℕ) × IsProvided h.space id.place need gone h2.space
