-- Whose page a slot's ticket is for.
use Rattle.std.specs.Prelude.{ℕ, Option, Some, None, get_or}
use Rattle.wh_space_model.specs.declared.states.Slot.{Slot}
use Rattle.wh_space_model.specs.declared.states.Slot.TheVariants.{Vacant, Taken, Evicting, EvictVoid, Fetching, FetchVoid}
use Rattle.wh_space_model.specs.Parts.{Space}

-- the place of the instance for which the ticket is out, void or not
abbrev pub place_of_use : Slot → Option ℕ
place_of_use Vacant = None
place_of_use Taken = None
place_of_use (Evicting i p) = Some i
place_of_use (EvictVoid i) = Some i
place_of_use (Fetching i p f) = Some i
place_of_use (FetchVoid i f) = Some i

abbrev pub ticket_place : Space → ℕ → Option ℕ
ticket_place s k = place_of_use (get_or s.slots.uses k Vacant)
