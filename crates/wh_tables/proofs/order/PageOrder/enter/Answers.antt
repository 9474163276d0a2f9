use Rattle.std.proofs.Common.{rules}
use Rattle.wh_tables.proofs.Rows.{map_row}
use Rattle.wh_tables.proofs.order.PageOrder.enter.Goals as goal

pub returns-clause-ok : goal.returns-clause-ok
returns-clause-ok c = search (rules, map_row)
