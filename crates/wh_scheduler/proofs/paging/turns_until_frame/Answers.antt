use Rattle.std.proofs.Common.{arith}
use Rattle.wh_cell.proofs.Followed.{comes_then}
use Rattle.wh_scheduler.proofs.InHand.{came_first}
use Rattle.wh_scheduler.proofs.OwnTurns.{ran_more, ran_none}
use Rattle.wh_scheduler.proofs.paging.turns_until_frame.Goals as goal

pub loop-turns-init : goal.loop-turns-init
loop-turns-init g c =
    let s = c.invariant.ensures in
    (omega arith, came_first g.D.SwapDev.keeps g.D.SwapDev.honest g.D.SwapDev.faults c.args.host.now s.device s.has, ran_none _ _)

pub loop-turns-preserved : goal.loop-turns-preserved
loop-turns-preserved g c =
    let was = c.loop-turns.invariant in (
      omega (arith, c.loop-turns-test.true),
      comes_then g.D.SwapDev.keeps g.D.SwapDev.honest g.D.SwapDev.faults _ _ _ was.1 c.turn_here.ensures.came,
      ran_more _ _ _ _ _ _ _ _ was.2 c.turn_here.ensures.runs,
    )

pub returns-then-ne-clause-came : goal.returns-then-ne-clause-came
returns-then-ne-clause-came g c =
    comes_then g.D.SwapDev.keeps g.D.SwapDev.honest g.D.SwapDev.faults _ _ _ c.loop-turns.invariant.1 c.turn_here.ensures.came

pub returns-then-ne-clause-runs : goal.returns-then-ne-clause-runs
returns-then-ne-clause-runs g c = ran_more _ _ _ _ _ _ _ _ c.loop-turns.invariant.2 c.turn_here.ensures.runs
