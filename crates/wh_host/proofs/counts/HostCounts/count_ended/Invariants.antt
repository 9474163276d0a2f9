use Rattle.std.proofs.Common.{◌≡◌, drop}
use Rattle.wh_host.specs.HostCounting.{with_ended_calls}
use Rattle.wh_host.proofs.counts.HostCounts.count_ended.Given as goal

-- those that are left are to be counted yet
abbrev pub invariant-loop-at : goal.invariant-loop-at
invariant-loop-at l = with_ended_calls l.self (drop l.at l.journal.ended) ≡ with_ended_calls l.fn.self (drop l.before l.journal.ended)
