use Rattle.std.proofs.Common.{rules}
use Rattle.wh_space.proofs.Summing.{tally_next}
use Rattle.wh_space.proofs.reporting.tickets_in.Goals as goal

pub loop-slot-preserved : goal.loop-slot-preserved
loop-slot-preserved c = search (rules, tally_next)
