use Rattle.wh_expr.proofs.Immediates.{is_in_pool, grows_none, is_paid}
use Rattle.wh_expr.proofs.reader.immediates.Goals as goal

pub returns-clause-exact : goal.returns-clause-exact
returns-clause-exact c = c.operands.ensures.exact c.args.labels.now.items

pub returns-clause-in_pool : goal.returns-clause-in_pool
returns-clause-in_pool c = is_in_pool c.args.labels.now.items c.args.at c.requires.paid c.operands.result c.operands.ensures.in_pool

pub returns-clause-grows : goal.returns-clause-grows
returns-clause-grows c = grows_none c.args.labels.now.items c.args.at c.requires.paid c.operands.result

pub returns-clause-paid : goal.returns-clause-paid
returns-clause-paid c = is_paid c.args.labels.now.items c.args.at c.requires.paid c.operands.result c.operands.ensures.further
