use Rattle.std.proofs.Common.{◌≡◌, false, true}
use Rattle.wh_scheduler.specs.RunQueues.{HasTurnOut, OutOrDoneBetween, RestBetween, WantsFrame}
use Rattle.wh_scheduler.proofs.run_queue.RunQueue.choose_between.Given as goal

abbrev pub invariant-loop-at : goal.invariant-loop-at
invariant-loop-at l =
    (l.self.entries.items ≡ l.fn.self.entries.items)
    × (l.self.ready ≡ l.fn.self.ready)
    × (l.waits ≡ false → OutOrDoneBetween l.host l.fn.self.entries.items l.from l.at)
    × (l.waits ≡ false → l.is_dispatched ≡ false → RestBetween l.host l.fn.self.entries.items l.from l.at)
    × (l.waits ≡ true → WantsFrame l.host l.fn.self.entries.items l.fn.self.ready)
    × (l.is_dispatched ≡ true → HasTurnOut l.fn.self.entries.items)
    × (l.self.needs_rescan ≡ l.fn.self.needs_rescan)
    × (l.self.arrivals ≡ l.fn.self.arrivals)
    × (l.self.calm_from ≡ l.fn.self.calm_from)
    × (l.self.turns ≡ l.fn.self.turns)
