-- The tickets that are out, and what memory and device agree on.
use Rattle.std.specs.Prelude.{ℕ, List, map, Option, Some, None}
use Rattle.wh_space_model.specs.Frames.{tally, one_if}
use Rattle.wh_space_model.specs.declared.states.Slot.{Slot}
use Rattle.wh_space_model.specs.declared.states.Slot.TheVariants.{Vacant, Taken, Evicting, EvictVoid, Fetching, FetchVoid}
use Rattle.wh_space_model.specs.Parts.{Space}

-- 1 where a fetch ticket holds frame f
abbrev pub fetches_into : ℕ → Slot → ℕ
fetches_into f Vacant = 0
fetches_into f Taken = 0
fetches_into f (Evicting i p) = 0
fetches_into f (EvictVoid i) = 0
fetches_into f (Fetching i p g) = one_if f g
fetches_into f (FetchVoid i g) = one_if f g

-- 1 where a ticket is out for the slot
abbrev pub is_ticket : Slot → ℕ
is_ticket Vacant = 0
is_ticket Taken = 0
is_ticket (Evicting i p) = 1
is_ticket (EvictVoid i) = 1
is_ticket (Fetching i p g) = 1
is_ticket (FetchVoid i g) = 1

-- 1 where a ticket of the instance at this place is out for the slot
abbrev pub ticket_of : ℕ → Slot → ℕ
ticket_of i Vacant = 0
ticket_of i Taken = 0
ticket_of i (Evicting j p) = one_if i j
ticket_of i (EvictVoid j) = one_if i j
ticket_of i (Fetching j p g) = one_if i j
ticket_of i (FetchVoid j g) = one_if i j

-- how many tickets are out
abbrev pub tickets : Space → ℕ
tickets s = tally is_ticket s.slots.uses

-- what a device is asked to do with a slot: to be written, or to be read
pub data Errand : Type 0 where
  to_write : Errand
  to_read : Errand

-- the ticket that is out for a slot: what it is for, but not whether it is void
abbrev pub errand_for : Slot → Option Errand
errand_for Vacant = None
errand_for Taken = None
errand_for (Evicting i p) = Some to_write
errand_for (EvictVoid i) = Some to_write
errand_for (Fetching i p f) = Some to_read
errand_for (FetchVoid i f) = Some to_read

-- What the memory and whoever holds the device agree on, by slot: what it holds, and the ticket that is out for it. A
-- ticket becomes void without the device, so that isn't a part of it.
pub record Pass : Type 0 where
  pub held : List (List ℕ)
  pub out : List (Option Errand)

abbrev pub pass_of : Space → Pass
pass_of s = record { held = s.slots.held; out = map errand_for s.slots.uses }
