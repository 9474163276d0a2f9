use Rattle.crossbeam_channel.specs.Ends.{receives_on}
use Rattle.wh_threads.specs.Working.{HasWorked}
use Rattle.wh_threads.proofs.work.work.Given as goal

abbrev pub invariant-loop : goal.invariant-loop
invariant-loop g l =
    (goal.iterator-loop g).can_next l.iterator' × (goal.iterator-loop g).is_finite l.iterator'
    × HasWorked (receives_on l.receiver) l.fn.worker.from l.worker l.slip
