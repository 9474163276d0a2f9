use Rattle.std.proofs.Common.{◌<◌, length, slice_index_or, arith, rules}
use Rattle.wh_host.proofs.RunnerLists.{at_index, index_there}
use Rattle.wh_host.proofs.RunnerTurns.{all_laid, can_finish_at, laid_next, laid_none}
use Rattle.wh_host.proofs.joining.lay_all.Goals as goal

pub loop-at-init : goal.loop-at-init
loop-at-init c = laid_none c.args.entries.now.slots c.args.memory.now c.args.runners.now

pub lay_at-requires : goal.lay_at-requires
lay_at-requires c = λ sits.
    (let r = c.requires in
    let now = c.loop-at in
    let h = now.invariant in
    let y = slice_index_or now.runners now.at c.index-runners-at.result in
    let less : now.at < length now.runners = omega (arith, c.loop-at-test.true, now.auto.runners, now.auto.at-end) in
    (r.1, can_finish_at r.0 r.4 r.1 r.2 r.5 now.entries.slots now.memory now.runners now.at now.at y (h.stands r.0 r.1 r.2 r.3 r.4 r.5 r.6 r.7) (at_index now.runners now.at c.index-runners-at.result less) sits))

pub loop-at-preserved : goal.loop-at-preserved
loop-at-preserved c =
    let now = c.loop-at in
    let y = slice_index_or now.runners now.at c.index-runners-at.result in
    let less : now.at < length now.runners = omega (arith, c.loop-at-test.true, now.auto.runners, now.auto.at-end) in (
    laid_next c.args.entries.now.slots c.args.memory.now c.args.runners.now now.entries.slots now.memory now.runners now.at y c.lay_at.new.entries.slots c.lay_at.new.memory c.lay_at.new.runner now.invariant
    (at_index now.runners now.at c.index-runners-at.result less) c.lay_at.ensures)

pub returns-clause-free : goal.returns-clause-free
returns-clause-free c = search (rules, index_there)

pub returns-clause-turns : goal.returns-clause-turns
returns-clause-turns c = λ h q most before s w run host.
    (let now = c.loop-at in
    let i = now.invariant in
    all_laid h s q most w now.entries.slots now.memory now.runners now.at (i.stands h q most before s w run host) (omega (arith, c.loop-at-test.false, now.auto.runners, now.auto.at-end)) (returns-clause-free c))

pub returns-clause-answers : goal.returns-clause-answers
returns-clause-answers c = λ k y there.
    (let now = c.loop-at in
    let within = index_there now.runners k y there in
    now.invariant.answers k y (omega (arith, within, c.loop-at-test.false, now.auto.runners, now.auto.at-end)) there)
