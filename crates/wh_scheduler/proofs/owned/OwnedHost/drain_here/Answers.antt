use Rattle.std.proofs.Common.{inl, arith}
use Rattle.wh_cell.proofs.Followed.{comes_then}
use Rattle.wh_scheduler.proofs.InHand.{came_first, can_offer_on, owed_still, paid_now}
use Rattle.wh_scheduler.proofs.OwnTurns.{works_ended, works_none, works_paid}
use Rattle.wh_scheduler.proofs.owned.OwnedHost.drain_here.Goals as goal

pub loop-turns-init : goal.loop-turns-init
loop-turns-init g c =
    let s = c.invariant.ensures in
    (omega arith, came_first g.D.SwapDev.keeps g.D.SwapDev.honest g.D.SwapDev.faults c.args.self.now s.device s.has, works_none _ _, λ can. inl (omega arith), omega arith)

pub loop-turns-preserved : goal.loop-turns-preserved
loop-turns-preserved g c =
    let was = c.loop-turns.invariant in
    let t = c.turn_each-more in
    let o = c.offer_some-offers in
    let to_turns = comes_then g.D.SwapDev.keeps g.D.SwapDev.honest g.D.SwapDev.faults _ _ _ was.1 t.ensures.came in (
      omega (arith, t.ensures.few, c.loop-turns-test.true),
      comes_then g.D.SwapDev.keeps g.D.SwapDev.honest g.D.SwapDev.faults _ _ _ to_turns o.ensures.came,
      works_paid _ _ _ _ _ _ _ _ _ _ _ _ was.2 t.ensures.works o.ensures.works,
      λ can. paid_now _ _ _ _ _ c.saturating_sub-owed.ensures (o.ensures.all (can_offer_on g.D.SwapDev.keeps g.D.SwapDev.honest g.D.SwapDev.faults c.args.self.now t.new.host c.args.ids.now to_turns can)),
      omega (arith, o.ensures.few, c.saturating_sub-owed.ensures, was.4),
    )

pub returns-then-more-eq0-clause-came : goal.returns-then-more-eq0-clause-came
returns-then-more-eq0-clause-came g c = comes_then g.D.SwapDev.keeps g.D.SwapDev.honest g.D.SwapDev.faults _ _ _ c.loop-turns.invariant.1 c.turn_each-more.ensures.came

pub returns-then-more-eq0-clause-works : goal.returns-then-more-eq0-clause-works
returns-then-more-eq0-clause-works g c = works_ended _ _ _ _ _ _ _ _ _ c.loop-turns.invariant.2 c.turn_each-more.ensures.works c.if-more-eq0.true

pub returns-then-more-eq0-clause-owed : goal.returns-then-more-eq0-clause-owed
returns-then-more-eq0-clause-owed g c = λ can. owed_still _ _ _ _ _ _ _ c.turn_each-more.ensures.works (c.loop-turns.invariant.3 can)
