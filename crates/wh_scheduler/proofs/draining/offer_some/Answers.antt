use Rattle.std.proofs.Common.{arith}
use Rattle.wh_cell.proofs.Followed.{comes_then}
use Rattle.wh_scheduler.proofs.InHand.{came_first, none_more}
use Rattle.wh_scheduler.proofs.OwnTurns.{works_more, works_none, works_same}
use Rattle.wh_scheduler.proofs.draining.offer_some.Goals as goal

pub loop-offers-init : goal.loop-offers-init
loop-offers-init g c =
    let s = c.invariant.ensures in
    (omega arith, came_first g.D.SwapDev.keeps g.D.SwapDev.honest g.D.SwapDev.faults c.args.host.now s.device s.has, works_none _ _)

pub loop-offers-preserved : goal.loop-offers-preserved
loop-offers-preserved g c =
    let was = c.loop-offers.invariant in (
      omega (arith, c.loop-offers-test.true),
      comes_then g.D.SwapDev.keeps g.D.SwapDev.honest g.D.SwapDev.faults _ _ _ was.1 c.offer_next.ensures.came,
      works_more _ _ _ _ _ _ _ _ _ _ was.2 (c.offer_next.ensures.works c.if-not-offer_next.false),
    )

pub returns-then-not-offer_next-clause-came : goal.returns-then-not-offer_next-clause-came
returns-then-not-offer_next-clause-came g c = comes_then g.D.SwapDev.keeps g.D.SwapDev.honest g.D.SwapDev.faults _ _ _ c.loop-offers.invariant.1 c.offer_next.ensures.came

pub returns-then-not-offer_next-clause-works : goal.returns-then-not-offer_next-clause-works
returns-then-not-offer_next-clause-works g c =
    let none = c.offer_next.ensures.none c.if-not-offer_next.true in
    works_same _ _ _ _ _ _ _ _ c.loop-offers.invariant.2 none.2 none.3

pub returns-then-not-offer_next-clause-all : goal.returns-then-not-offer_next-clause-all
returns-then-not-offer_next-clause-all g c = λ can.
    (let none = c.offer_next.ensures.none c.if-not-offer_next.true in
    none_more g.D.SwapDev.keeps g.D.SwapDev.honest g.D.SwapDev.faults c.args.host.now c.loop-offers.host c.offer_next.new.host c.args.ids.now c.loop-offers.offers c.args.wanted c.loop-offers.invariant.1 none.0 none.3 can)
