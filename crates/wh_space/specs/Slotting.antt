-- What slots are used for when pages are written or go.
use Rattle.std.specs.Prelude.{ℕ, ◌≡◌, ◌<◌, ◌++◌, List, [], ◌∷◌, Option, Some, None, length, get_or, slice_set}
use Rattle.wh_space_model.specs.Frames.{one_if, tally}
use Rattle.wh_space_model.specs.declared.states.Page.{Page}
use Rattle.wh_space_model.specs.declared.states.Page.TheVariants.{Untouched, Private, Shared, Leaving, LeavingShared, Coming, Swapped}
use Rattle.wh_space_model.specs.declared.states.Slot.{Slot}
use Rattle.wh_space_model.specs.declared.states.Slot.TheVariants.{Vacant, Taken, Evicting, EvictVoid, Fetching, FetchVoid}
use Rattle.wh_space_model.specs.Parts.{Slots}
use Rattle.wh_space.specs.declared.occupant_entry.OccupantEntry.{OccupantEntry}

-- the slot by which a page of whoever is there leaves
abbrev pub leaver_of : Option OccupantEntry → Option ℕ
leaver_of None = None
leaver_of (Some t) = t.leaves

-- what a ticket is out for is of no use
abbrev pub void_use : Slot → Slot
void_use Vacant = Vacant
void_use Taken = Taken
void_use (Evicting i p) = EvictVoid i
void_use (EvictVoid i) = EvictVoid i
void_use (Fetching i p f) = FetchVoid i f
void_use (FetchVoid i f) = FetchVoid i f

-- the ticket of slot k is void, if there is one
abbrev pub voids_slot : Option ℕ → Slots → Slots
voids_slot None slots = slots
voids_slot (Some k) slots = record slots { uses = slice_set slots.uses k (void_use (get_or slots.uses k Vacant)) }

-- that with which this page is leaving is, if it is
abbrev pub voids_leaver : Option ℕ → Page → Slots → Slots
voids_leaver slot Untouched slots = slots
voids_leaver slot (Private f) slots = slots
voids_leaver slot (Shared f) slots = slots
voids_leaver slot (Leaving f) slots = voids_slot slot slots
voids_leaver slot (LeavingShared f) slots = voids_slot slot slots
voids_leaver slot (Coming k) slots = slots
voids_leaver slot (Swapped k) slots = slots

-- a page goes: its slot is vacant, and the ticket with which it was coming void
abbrev pub slot_gone : Page → Slots → Slots
slot_gone Untouched slots = slots
slot_gone (Private f) slots = slots
slot_gone (Shared f) slots = slots
slot_gone (Leaving f) slots = slots
slot_gone (LeavingShared f) slots = slots
slot_gone (Coming k) slots = voids_slot (Some k) slots
slot_gone (Swapped k) slots = record slots { uses = slice_set slots.uses k Vacant; vacant = slots.vacant ++ k ∷ [] }

-- it can: its slot is there, and isn't among the vacant ones
abbrev pub CanLeaveSlot : Page → Slots → Type 0
CanLeaveSlot Untouched slots = Unit {0}
CanLeaveSlot (Private f) slots = Unit {0}
CanLeaveSlot (Shared f) slots = Unit {0}
CanLeaveSlot (Leaving f) slots = Unit {0}
CanLeaveSlot (LeavingShared f) slots = Unit {0}
CanLeaveSlot (Coming k) slots = k < length slots.uses
CanLeaveSlot (Swapped k) slots = (k < length slots.uses) × (tally (one_if k) slots.vacant ≡ 0)

-- these pages go, one after the other
abbrev pub slots_gone : List Page → Slots → Slots
slots_gone [] slots = slots
slots_gone (x ∷ xs) slots = slots_gone xs (slot_gone x slots)

-- and each of them can when its turn comes
abbrev pub CanLeaveSlots : List Page → Slots → Type 0
CanLeaveSlots [] slots = Unit {0}
CanLeaveSlots (x ∷ xs) slots = CanLeaveSlot x slots × CanLeaveSlots xs (slot_gone x slots)
