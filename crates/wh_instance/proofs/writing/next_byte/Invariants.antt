use Rattle.std.proofs.Common.{◌≡◌, drop}
use Rattle.wh_instance.specs.Pieces.{placed_data, fragments_behind, pieces_left}
use Rattle.wh_instance.proofs.writing.next_byte.Given as goal

abbrev pub invariant-loop-segment : goal.invariant-loop-segment
invariant-loop-segment l = fragments_behind l.at (drop l.segment (placed_data l.segments l.places)) ≡ pieces_left l.segments l.places l.fn.from
