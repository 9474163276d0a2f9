-- Tickets of pages in transit, as their holders see them.
use Rattle.std.specs.Prelude.{ℕ, List, [], Option, Some, None, Result, Ok, Err}
use Rattle.wh_reclaim.specs.declared.tickets.EvictTicket.TheInside.{Inside as EvictInside}
use Rattle.wh_reclaim.specs.declared.tickets.FetchTicket.TheInside.{Inside as FetchInside}

-- the slot that is to be written or read, and the bytes of the page
pub record Ticket : Type 0 where
  pub slot : ℕ
  pub bytes : List ℕ

abbrev pub evict_ticket_of : EvictInside → Ticket
evict_ticket_of a = record { slot = a.slot; bytes = a.bytes.value }

abbrev pub fetch_ticket_of : FetchInside → Ticket
fetch_ticket_of a = record { slot = a.slot; bytes = a.bytes.value }

-- the slot of a ticket, if there is one, and its bytes
abbrev pub slot_begun : {B : Type 0} → Result Ticket B → Option ℕ
slot_begun (Ok ticket) = Some ticket.slot
slot_begun (Err buf) = None

abbrev pub bytes_begun : {B : Type 0} → Result Ticket B → List ℕ
bytes_begun (Ok ticket) = ticket.bytes
bytes_begun (Err buf) = []
