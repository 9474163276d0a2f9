use Rattle.std.proofs.Common.{arith}
use Rattle.wh_syntax.specs.View.{view_table}
use Rattle.wh_validate.specs.Sizing.{IsTable}
use Rattle.wh_validate.proofs.Lists.{one_all}
use Rattle.wh_validate.proofs.sizes.check_tables.Goals as goal

pub returns-in-len1-clause-decides : goal.returns-in-len1-clause-decides
returns-in-len1-clause-decides c = (omega (arith, c.in-len1.len_below), one_all (λ t. IsTable (view_table t)) c.args.tables.now _ c.in-len1.len_below c.if-is_table.ensures)
