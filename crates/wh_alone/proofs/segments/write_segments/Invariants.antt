use Rattle.std.proofs.Common.{◌≡◌, List, drop, length}
use Rattle.wh_model.specs.Execution.{Piece, Within}
use Rattle.wh_alone.specs.ModuleCalls.{ArePieces, written_over}
use Rattle.wh_alone.proofs.segments.write_segments.Given as goal

abbrev pub invariant-loop-at : goal.invariant-loop-at
invariant-loop-at l = record {
  bytes : (ps : List Piece) → ArePieces ps l.places l.segments → Within (length l.initial.memory.bytes) ps → written_over l.memory.bytes (drop l.at ps) ≡ written_over l.initial.memory.bytes ps;
  size : length l.memory.bytes ≡ length l.initial.memory.bytes;
  limit : l.memory.limit ≡ l.initial.memory.limit;
}
