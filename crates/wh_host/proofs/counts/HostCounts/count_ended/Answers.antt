use Rattle.std.proofs.Common.{◌∙◌, ◌<◌, ◌≤◌, ap, drop, length, arith}
use Rattle.wh_host.specs.HostCounting.{with_ended_call, with_ended_calls}
use Rattle.wh_host.proofs.KeptCounts.{call_counted, calls_counted}
use Rattle.wh_host.proofs.counts.HostCounts.count_ended.Goals as goal

pub loop-at-preserved : goal.loop-at-preserved
loop-at-preserved c =
    let now = c.loop-at in
    let calls = c.args.journal.now.ended in
    let less : now.at < length calls = omega (arith, c.loop-at-test.true, c.ended_len-at-end.ensures) in
    call_counted now.self c.count_call.new.self calls now.at (with_ended_calls c.args.self.now (drop c.args.before calls)) less (λ call there. c.count_call.ensures ∙ ap (with_ended_call now.self) (c.end_at.ensures call there)) now.invariant

pub returns : goal.returns
returns c =
    let now = c.loop-at in
    let calls = c.args.journal.now.ended in
    let past : length calls ≤ now.at = omega (arith, c.loop-at-test.false, c.ended_len-at-end.ensures) in
    calls_counted now.self calls now.at (with_ended_calls c.args.self.now (drop c.args.before calls)) past now.invariant
