use Rattle.std.proofs.Common.{◌≡◌, ◌+◌}
use Rattle.wh_scheduler.proofs.turn_job.TurnJob.run_series.Given as goal

abbrev pub decreases-loop-order : goal.decreases-loop-order
decreases-loop-order g l = l.order.count

abbrev pub invariant-loop-order : goal.invariant-loop-order
invariant-loop-order g l =
    (l.worker.from ≡ l.fn.worker.from)
    × (l.worker.tally.turns + l.order.count ≡ l.fn.worker.tally.turns + l.fn.order.count)
