use Rattle.std.proofs.Common.{◌≡◌, map, take}
use Rattle.wh_scheduler.specs.RunQueues.{idle_entry}
use Rattle.wh_scheduler.proofs.run_queue.RunQueue.new.Given as goal

abbrev pub invariant-loop-id : goal.invariant-loop-id
invariant-loop-id l = l.entries.items ≡ map idle_entry (take l.id-index l.ids)
