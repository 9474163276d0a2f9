use Rattle.std.proofs.Common.{◌≡◌, length}
use Rattle.wh_instance.specs.Pieces.{pieces_left, HasWritten}
use Rattle.wh_instance.proofs.writing.write_pieces.Given as goal

abbrev pub invariant-loop-next : goal.invariant-loop-next
invariant-loop-next g l = record {
  written : HasWritten g.M.LinearMem.bytes g.M.LinearMem.ready g.M.LinearMem.keeps (pieces_left l.segments l.places l.fn.cursor) l.fn.memory l.count (pieces_left l.segments l.places l.cursor) l.memory;
  size : length (g.M.LinearMem.bytes l.memory) ≡ length (g.M.LinearMem.bytes l.fn.memory);
  keeps : g.M.LinearMem.keeps l.fn.memory l.memory;
}

abbrev pub decreases-loop-next : goal.decreases-loop-next
decreases-loop-next g l = length (pieces_left l.segments l.places l.cursor)
