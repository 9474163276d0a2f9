use Rattle.std.proofs.Common.{◌≡◌, ◌+◌, ◌≤◌, vec_capacity, vec_len}
use Rattle.wh_threads.specs.Working.{turns_due}
use Rattle.wh_scheduler.proofs.turn_job.TurnJobTurns.run_all.Given as goal

abbrev pub decreases-loop-order : goal.decreases-loop-order
decreases-loop-order g l = vec_len l.orders

abbrev pub invariant-loop-order : goal.invariant-loop-order
invariant-loop-order g l =
    (l.worker.from ≡ l.fn.worker.from)
    × (l.worker.tally.turns + turns_due l.orders.items ≡ l.fn.worker.tally.turns + turns_due l.fn.orders.items)
    × (vec_capacity l.fn.orders ≤ vec_capacity l.orders)
