use Rattle.std.proofs.Common.{arith}
use Rattle.wh_tables.proofs.Lines.{none_behind}
use Rattle.wh_tables.proofs.line.leave_line.Goals as goal

pub take_out-requires : goal.take_out-requires
take_out-requires c = (c.args.numbers.now.items, c.requires)

pub returns-then-len-place-clause-items : goal.returns-then-len-place-clause-items
returns-then-len-place-clause-items c = none_behind c.args.numbers.now.items c.args.line.now.items c.args.place c.requires (omega arith)
