use Rattle.std.proofs.Common.{◌≡◌, ◌+◌, ◌<◌}
use Rattle.wh_scheduler.proofs.turn_job.TurnJob.hold.Given as goal

abbrev pub decreases-loop-last : goal.decreases-loop-last
decreases-loop-last g l = l.order.count

abbrev pub invariant-loop-last : goal.invariant-loop-last
invariant-loop-last g l =
    (l.worker.from ≡ l.fn.worker.from)
    × (l.worker.tally.turns + l.order.count ≡ l.fn.worker.tally.turns + l.fn.order.count)
    × (l.order.count < l.fn.order.count)
