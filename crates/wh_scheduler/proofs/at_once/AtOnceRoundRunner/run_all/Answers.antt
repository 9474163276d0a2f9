use Rattle.std.proofs.Common.{◌≡◌, ◌∙◌, ◌+◌, ◌<◌, get_or, ap, Some, sym, subst, arith}
use Rattle.std.proofs.lemmas.Option.{get_or_from_slice_get, slice_get-get_or, slice_get_within}
use Rattle.wh_host.specs.Rounds.{RunsAt}
use Rattle.wh_host.specs.declared.rounds.Runner.{Runner}
use Rattle.wh_scheduler.proofs.at_once.AtOnceRoundRunner.run_all.Goals as goal

pub for_each_mut-requires-clause-accepts : goal.for_each_mut-requires-clause-accepts
for_each_mut-requires-clause-accepts g c κs within i p less is taken =
    c.requires.may i p.now (slice_get-get_or c.args.runners.now i p.now less ∙ ap Some (sym is)) taken

pub returns : goal.returns
returns g c k y2 there =
    let round = c.args.round.now in
    let xs = c.args.runners.now in
    let ys = c.for_each_mut.new.s in
    let long = c.for_each_mut.auto.s in
    let less = slice_get_within ys k y2 there in
    let change = (c.for_each_mut.ensures k y2 (omega (arith, less, long))).1 in
    let left = change.left ∙ get_or_from_slice_get ys k y2 y2 there in
    let Runs : Runner → Runner → Type 0 = λ y z. RunsAt round.modules.now.slots round.memory.now round.burst.quantum (round.burst.further + 1) y z in
    (get_or xs k y2, slice_get-get_or xs k y2 (omega (arith, less, long)), subst (λ z. Runs (get_or xs k y2) z) left (subst (λ y. Runs y change.after_call.now) change.argument_is change.call))
