use Rattle.std.proofs.Common.{rules}
use Rattle.wh_tables.proofs.Mapping.{one_more}
use Rattle.wh_tables.proofs.index.clear_active.Goals as goal

pub loop-place-preserved : goal.loop-place-preserved
loop-place-preserved c = search (rules, one_more)
