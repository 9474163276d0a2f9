use Rattle.std.proofs.Common.{arith}
use Rattle.wh_initial.proofs.TableLemmas.{one_more}
use Rattle.wh_initial.proofs.table.write_element.Goals as goal

pub loop-at-preserved : goal.loop-at-preserved
loop-at-preserved c = one_more c.args.table.now.items c.loop-at.table.items c.args.place c.args.funcs.now c.loop-at.at c.requires (omega arith) c.loop-at.invariant
