-- What stands before the place was read, and there is more room.
use Rattle.std.proofs.Common.{◌≡◌, ◌<◌, length, take}
use Rattle.std.specs.Io.KnownBytes.{Consumes}
use Rattle.wh_multiplex.proofs.moving.fill.Given as goal

abbrev pub invariant-loop : goal.invariant-loop
invariant-loop g l =
    (l.at < length l.buffer) × Consumes (g.R.Read.remaining l.fn.reader) (g.R.Read.remaining l.reader) (take l.at l.buffer)
