use Rattle.std.proofs.Common.{◌≡◌, ◌+◌, vec_capacity}
use Rattle.wh_threads.specs.Working.{turns_due}
use Rattle.wh_scheduler.proofs.turn_job.TurnJob.run_rounds.Given as goal

abbrev pub invariant-loop : goal.invariant-loop
invariant-loop g l =
    (l.worker.from ≡ l.fn.worker.from)
    × (l.worker.tally.turns + turns_due l.orders.items ≡ l.fn.worker.tally.turns + turns_due l.fn.orders.items)
    × (vec_capacity l.orders ≡ vec_capacity l.fn.orders)
