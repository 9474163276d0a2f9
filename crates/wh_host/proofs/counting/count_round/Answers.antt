use Rattle.std.proofs.Common.{◌∙◌, ◌<◌, ◌≤◌, Some, ap, length, sym, arith}
use Rattle.wh_host.specs.HostCounting.{with_series_of}
use Rattle.wh_host.proofs.RunnerLists.{at_index}
use Rattle.wh_host.proofs.KeptCounts.{runner_counted, runners_counted}
use Rattle.wh_host.proofs.counting.count_round.Goals as goal

pub loop-at-preserved : goal.loop-at-preserved
loop-at-preserved c =
    let now = c.loop-at in
    let ys = c.args.runners.now in
    let rs = c.args.entries.now.slots in
    let y = c.index-runners-at.result in
    let less : now.at < length ys = omega (arith, c.loop-at-test.true, now.auto.at-end) in
    runner_counted rs now.counts c.count_series.new.counts ys now.at y (with_series_of rs c.args.counts.now ys) (at_index ys now.at y less ∙ ap Some (sym c.index-runners-at.is)) c.count_series.ensures now.invariant

pub returns : goal.returns
returns c =
    let now = c.loop-at in
    let ys = c.args.runners.now in
    let rs = c.args.entries.now.slots in
    let past : length ys ≤ now.at = omega (arith, c.loop-at-test.false, now.auto.at-end) in
    runners_counted rs now.counts ys now.at (with_series_of rs c.args.counts.now ys) past now.invariant
