use Rattle.wh_scheduler.specs.RunQueues.{HasNoEntry}
use Rattle.wh_scheduler.proofs.run_queue.entry_between.Given as goal

abbrev pub invariant-loop-at : goal.invariant-loop-at
invariant-loop-at l = HasNoEntry l.id l.entries l.from l.at
