-- The buffer of a ticket, lent to be filled.
use Rattle.std.specs.Prelude.{ℕ, List}
use Rattle.std.specs.Borrow.{Lends, MutBor, Fml, Array, u8}
use Rattle.wh_reclaim.specs.contracts.tickets.FetchTicket.{the_row}
use Rattle.wh_reclaim.specs.TicketViews.{Ticket}

-- the ticket with other bytes
abbrev pub refilled : Ticket → List ℕ → Ticket
refilled ticket bytes = record ticket { bytes = bytes }

-- the ticket ends with the bytes as they were last written, and for the same slot
abbrev pub LendsBuffer : MutBor Ticket → MutBor (List ℕ) → Fml
LendsBuffer ticket bytes = Lends the_row (Array u8 4096) ticket bytes (refilled ticket.now)
