use Rattle.std.proofs.Common.{map}
use Rattle.wh_syntax.specs.Shown.{instr_of}
use Rattle.wh_expr.proofs.Expressions.{well_nested}
use Rattle.wh_expr.proofs.reader.whole.Goals as goal

pub new-requires-clause-nests : goal.new-requires-clause-nests
new-requires-clause-nests c = rw c.shrink_to_fit.ensures.items (well_nested c.most_instructions-most.result c.args.bytes.now c.args.at (map (instr_of c.in_ok-instrs.labels.items) c.in_ok-instrs.instrs.items) c.in_ok-instrs.next c.requires.inside c.in_ok-instrs.ensures.exact)
