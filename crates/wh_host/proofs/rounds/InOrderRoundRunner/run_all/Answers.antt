use Rattle.std.proofs.Common.{◌+◌, ◌<◌, length, slice_index_or, arith, rules}
use Rattle.wh_host.specs.Rounds.{RunsAt}
use Rattle.wh_host.proofs.RunnerLists.{at_index, each_all, each_next}
use Rattle.wh_host.proofs.rounds.InOrderRoundRunner.run_all.Goals as goal

pub run-requires : goal.run-requires
run-requires c = λ sits.
    (let now = c.loop-at in
    let y = slice_index_or now.runners now.at c.index-runners-at.result in
    let less : now.at < length now.runners = omega (arith, c.loop-at-test.true, now.auto.runners, now.auto.at-end) in
    c.requires.may now.at y (now.invariant.0.rest now.at y (omega arith) (at_index now.runners now.at c.index-runners-at.result less)) sits)

pub loop-at-preserved : goal.loop-at-preserved
loop-at-preserved c = search (rules, slice_index_or, each_next, at_index)

pub returns : goal.returns
returns c =
    let now = c.loop-at in
    each_all (RunsAt c.args.round.now.modules.now.slots c.args.round.now.memory.now c.args.round.now.burst.quantum (c.args.round.now.burst.further + 1)) c.args.runners.now now.runners now.at now.invariant.0 (omega (arith, c.loop-at-test.false, now.auto.runners, now.auto.at-end))
