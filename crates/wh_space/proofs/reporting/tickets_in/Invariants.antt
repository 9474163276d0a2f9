use Rattle.std.proofs.Common.{◌≡◌, ◌≤◌, take}
use Rattle.wh_space_model.specs.{tally, is_ticket}
use Rattle.wh_space.proofs.reporting.tickets_in.Given as goal

-- the count so far
abbrev pub invariant-loop-slot : goal.invariant-loop-slot
invariant-loop-slot l = (l.tickets ≡ tally is_ticket (take l.slot l.slots.uses)) × (l.tickets ≤ l.slot)
