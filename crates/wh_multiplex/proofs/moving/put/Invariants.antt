-- Of the bytes those before the rest were written.
use Rattle.std.proofs.Common.{◌≡◌, ℕ, List, ◌++◌}
use Rattle.std.specs.Io.KnownBytes.{Appends}
use Rattle.wh_multiplex.proofs.moving.put.Given as goal

abbrev pub invariant-loop : goal.invariant-loop
invariant-loop g l =
    (went : List ℕ) × (l.fn.bytes ≡ went ++ l.rest) × Appends (g.W.Write.contents l.fn.writer) (g.W.Write.contents l.writer) went
