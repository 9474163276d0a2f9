-- Who has a place.
use Rattle.std.specs.Prelude.{ℕ, ◌+◌, ◌-◌, ◌==◌, cond, false, Option, Some, None}
use Rattle.wh_model.specs.declared.memory.Need.{Need}
use Rattle.wh_space.specs.declared.occupant_entry.OccupantEntry.{OccupantEntry}

-- who is there is blocked on these bytes, or on none
abbrev pub entry_awaiting : Option OccupantEntry → Option Need → Option OccupantEntry
entry_awaiting None need = None
entry_awaiting (Some occupant_entry) need = Some (record occupant_entry { stands = need })

-- who was there has gone, and keeps the place while a ticket is out
abbrev pub occupant_gone : Option OccupantEntry → Option OccupantEntry
occupant_gone None = None
occupant_gone (Some occupant_entry) =
    cond (occupant_entry.tickets == 0) None (Some (record occupant_entry { live = false; stands = None }))

-- a page begins to leave by this slot, and has left or stays; one begins to come, and has come or hasn't
abbrev pub begins_leaving : ℕ → Option OccupantEntry → Option OccupantEntry
begins_leaving k None = None
begins_leaving k (Some occupant_entry) = Some (record occupant_entry { leaves = Some k; tickets = occupant_entry.tickets + 1 })

abbrev pub ends_leaving : Option OccupantEntry → Option OccupantEntry
ends_leaving None = None
ends_leaving (Some occupant_entry) = Some (record occupant_entry { leaves = None; tickets = occupant_entry.tickets - 1 })

abbrev pub begins_coming : Option OccupantEntry → Option OccupantEntry
begins_coming None = None
begins_coming (Some occupant_entry) = Some (record occupant_entry { tickets = occupant_entry.tickets + 1 })

abbrev pub ends_coming : Option OccupantEntry → Option OccupantEntry
ends_coming None = None
ends_coming (Some occupant_entry) = Some (record occupant_entry { tickets = occupant_entry.tickets - 1 })

-- who has gone gives up the place with the last ticket
abbrev pub settles : Option OccupantEntry → Option OccupantEntry
settles None = None
settles (Some occupant_entry) =
    cond occupant_entry.live (Some occupant_entry) (cond (occupant_entry.tickets == 0) None (Some occupant_entry))
