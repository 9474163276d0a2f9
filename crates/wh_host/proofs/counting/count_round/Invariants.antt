use Rattle.std.proofs.Common.{◌≡◌, drop}
use Rattle.wh_host.specs.HostCounting.{with_series_of}
use Rattle.wh_host.proofs.counting.count_round.Given as goal

-- those of the runners that are left are to be counted yet
abbrev pub invariant-loop-at : goal.invariant-loop-at
invariant-loop-at l = with_series_of l.entries.slots l.counts (drop l.at l.runners) ≡ with_series_of l.entries.slots l.fn.counts l.runners
