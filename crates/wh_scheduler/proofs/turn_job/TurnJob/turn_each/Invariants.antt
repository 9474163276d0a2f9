use Rattle.std.proofs.Common.{◌≡◌, ◌+◌, ◌-◌, ◌≤◌, length}
use Rattle.wh_threads.specs.Working.{turns_due}
use Rattle.wh_scheduler.proofs.turn_job.TurnJob.turn_each.Given as goal

abbrev pub decreases-loop-at : goal.decreases-loop-at
decreases-loop-at g l = length l.orders - l.at

abbrev pub invariant-loop-at : goal.invariant-loop-at
invariant-loop-at g l =
    (l.worker.from ≡ l.fn.worker.from)
    × (l.worker.tally.turns + turns_due l.orders ≡ l.fn.worker.tally.turns + turns_due l.fn.orders)
    × (l.fn.from ≤ l.at)
