use Rattle.std.proofs.Common.{◌≡◌, ◌+◌}
use Rattle.test_threads.proofs.workers.count_all.Given as goal

abbrev pub decreases-loop-books : goal.decreases-loop-books
decreases-loop-books g l = l.order.count

abbrev pub invariant-loop-books : goal.invariant-loop-books
invariant-loop-books g l =
    (l.worker.from ≡ l.fn.worker.from)
    × (l.worker.tally.turns + l.order.count ≡ l.fn.worker.tally.turns + l.fn.order.count)
