use Rattle.std.proofs.Common.{◌≡◌, ◌+◌, ◌-◌, vec_len, vec_capacity}
use Rattle.wh_threads.specs.Working.{turns_due}
use Rattle.wh_scheduler.proofs.turn_job.TurnJob.run_left_out.Given as goal

abbrev pub decreases-loop-at : goal.decreases-loop-at
decreases-loop-at g l = vec_len l.orders - l.at

abbrev pub invariant-loop-at : goal.invariant-loop-at
invariant-loop-at g l =
    (l.worker.from ≡ l.fn.worker.from)
    × (l.worker.tally.turns + turns_due l.orders.items ≡ l.fn.worker.tally.turns + turns_due l.fn.orders.items)
    × (vec_capacity l.orders ≡ vec_capacity l.fn.orders)
