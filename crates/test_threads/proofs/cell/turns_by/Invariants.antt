use Rattle.std.proofs.Common.{◌+◌, ◌<◌, ◌^◌}
use Rattle.test_threads.proofs.cell.turns_by.Given as goal

abbrev pub decreases-loop-turned : goal.decreases-loop-turned
decreases-loop-turned g l = l.order.count

abbrev pub invariant-loop-turned : goal.invariant-loop-turned
invariant-loop-turned g l = l.worker.tally.turns + l.order.count < 2 ^ 64
