use Rattle.std.proofs.Common.{◌<◌, length, slice_index_or, arith, rules}
use Rattle.wh_host.proofs.RunnerLists.{at_index, index_there, lent_next, none_lent, taken_next, taken_none}
use Rattle.wh_host.proofs.joining.take_all.Goals as goal

pub loop-at-init : goal.loop-at-init
loop-at-init c = (taken_none c.args.entries.now.slots c.args.runners.now c.requires, (let none = none_lent c.args.runners.now c.requires in omega (arith, none)))

pub loop-at-preserved : goal.loop-at-preserved
loop-at-preserved c =
    let now = c.loop-at in
    let y = slice_index_or now.runners now.at c.index-runners-at.result in
    let less : now.at < length now.runners = omega (arith, c.loop-at-test.true, now.auto.runners, now.auto.at-end) in
    let there = at_index now.runners now.at c.index-runners-at.result less in
    let n = c.min-lent.result in
    let y2 = c.take_out.new.runner in
    let more = lent_next now.entries.slots now.runners now.at y n c.take_out.new.entries.slots y2 there c.take_out.ensures in
    let least = c.min-lent.ensures in (
      taken_next c.args.entries.now.slots c.args.runners.now now.entries.slots now.runners now.at y n c.take_out.new.entries.slots y2 now.invariant.0 there c.take_out.ensures,
      omega (arith, more, now.invariant.1, least),
    )

pub returns-clause-frames : goal.returns-clause-frames
returns-clause-frames c = let few = c.loop-at.invariant.1 in omega (arith, few)

pub returns-clause-rest : goal.returns-clause-rest
returns-clause-rest c = search (rules, index_there)

pub returns-clause-left : goal.returns-clause-left
returns-clause-left c = search (rules, index_there)
