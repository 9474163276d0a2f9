use Rattle.std.proofs.Common.{◌≡◌, ◌++◌, drop, map, take}
use Rattle.wolqedir.specs.Shapes.{type_bits}
use Rattle.wolqedir.proofs.looking.lay_bits.Given as goal

abbrev pub invariant-loop-at : goal.invariant-loop-at
invariant-loop-at l = l.room ≡ take l.at (map type_bits l.params ++ map type_bits l.results) ++ drop l.at l.initial.room
