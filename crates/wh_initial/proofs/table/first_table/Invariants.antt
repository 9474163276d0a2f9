use Rattle.std.proofs.Common.{◌≡◌, None, map, drop, replicate, length}
use Rattle.wh_model.specs.Execution.{filled}
use Rattle.wh_initial.specs.ConstantWords.{element_piece}
use Rattle.wh_initial.specs.InBasis.{words_of_basis}
use Rattle.wh_initial.proofs.table.first_table.Given as goal

-- with the segments to come written into it, the table is what it is to be
abbrev pub invariant-loop-element : goal.invariant-loop-element
invariant-loop-element l = record {
  size : length l.table.items ≡ l.size;
  table : filled l.table.items
      (map (element_piece (words_of_basis l.basis)) (drop l.element-index l.basis.module.now.elements.items))
      ≡ filled (replicate l.size None)
      (map (element_piece (words_of_basis l.basis)) l.basis.module.now.elements.items);
}
