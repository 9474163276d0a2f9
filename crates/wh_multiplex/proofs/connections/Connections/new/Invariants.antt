-- There are so many slots, with no connection.
use Rattle.std.proofs.Common.{◌≡◌, ℕ, length, None}
use Rattle.wh_multiplex.specs.Multiplexing.{open_at}
use Rattle.wh_multiplex.proofs.connections.Connections.new.Given as goal

abbrev pub invariant-loop-number : goal.invariant-loop-number
invariant-loop-number g l = (length l.slots.items ≡ l._number) × ((c : ℕ) → open_at l.slots.items c ≡ None)
