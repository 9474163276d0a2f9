use Rattle.std.proofs.Common.{◌≡◌, None}
use Rattle.wh_scheduler.proofs.run_queue.RunQueue.begin_with_next.Given as goal

abbrev pub invariant-loop-step : goal.invariant-loop-step
invariant-loop-step l =
    (l.self.entries ≡ l.fn.self.entries) × (l.self.ready ≡ l.fn.self.ready) × (l.self.served ≡ None)
    × (l.self.needs_rescan ≡ l.fn.self.needs_rescan)
