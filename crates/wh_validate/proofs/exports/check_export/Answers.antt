use Rattle.wh_validate.proofs.Deciding.{decides_same}
use Rattle.wh_validate.proofs.ExportLemmas.{func_export, table_export, memory_export, global_export}
use Rattle.wh_validate.proofs.exports.check_export.Goals as goal

pub returns-in-Func-clause-decides : goal.returns-in-Func-clause-decides
returns-in-Func-clause-decides c = decides_same c.check_index.result (func_export c.args.context.now c.args.export.now c.in-Func.is) c.check_index.ensures.decides

pub returns-in-Table-clause-decides : goal.returns-in-Table-clause-decides
returns-in-Table-clause-decides c = decides_same c.check_index-in-Table.result (table_export c.args.context.now c.args.export.now c.in-Table.is) c.check_index-in-Table.ensures.decides

pub returns-in-Memory-clause-decides : goal.returns-in-Memory-clause-decides
returns-in-Memory-clause-decides c = decides_same c.check_index-in-Memory.result (memory_export c.args.context.now c.args.export.now c.in-Memory.is) c.check_index-in-Memory.ensures.decides

pub returns-in-Global-clause-decides : goal.returns-in-Global-clause-decides
returns-in-Global-clause-decides c = decides_same c.check_index-in-Global.result (global_export c.args.context.now c.args.export.now c.in-Global.is) c.check_index-in-Global.ensures.decides
