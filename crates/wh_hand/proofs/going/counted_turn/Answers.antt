use Rattle.std.proofs.Common.{sym, subst}
use Rattle.wh_hand.proofs.Counted.{counts_turned, is_no_idle}
use Rattle.wh_hand.proofs.Events.{live_turned, on_turned}
use Rattle.wh_host.specs.HostCounting.{ended_meanwhile, fewer_sharing}
use Rattle.wh_hand.specs.RunCounting.{CountsRun}
use Rattle.wh_hand.proofs.Steps.{turned_keeps}
use Rattle.wh_hand.proofs.going.counted_turn.Goals as goal

pub returns-clause-runs : goal.returns-clause-runs
returns-clause-runs c =
    let made = c.turn.result in
    on_turned c.args.host.now c.turn.new.self c.args.id c.args.q made.1 made.0
    c.requires.charges c.requires.within c.requires.goes c.requires.ready c.turn.ensures.turns

pub returns-clause-others : goal.returns-clause-others
returns-clause-others c =
    turned_keeps c.args.host.now c.turn.new.self c.args.id c.args.q c.turn.result.0 c.invariant.ensures
    (λ w st. (let x = c.turn.ensures.turns w st in (x.0, x.1, x.3)))

pub returns-clause-live : goal.returns-clause-live
returns-clause-live c =
    let made = c.turn.result in
    live_turned c.args.host.now c.turn.new.self c.args.id c.args.q made.1 made.0 c.invariant.ensures c.turn.ensures.turns

pub returns-clause-counts : goal.returns-clause-counts
returns-clause-counts c =
    let h = c.args.host.now in
    let h2 = c.turn.new.self in
    let made = c.turn.result in
    let some = is_no_idle h h2 c.args.id c.args.q made.1 made.0 c.requires.goes c.turn.ensures.turns in
    let counted = counts_turned h.counts made.0 made.1 (ended_meanwhile h.entries c.args.id.place h2.entries) (fewer_sharing h.space h2.space) some in
    subst (λ n. CountsRun h.counts made.1 n) (sym c.turn.ensures.counts) counted
