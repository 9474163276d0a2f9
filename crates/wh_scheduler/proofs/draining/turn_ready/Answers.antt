use Rattle.wh_cell.proofs.Followed.{comes_then}
use Rattle.wh_scheduler.specs.InHand.{left_of}
use Rattle.wh_scheduler.proofs.OwnTurns.{works_by_evictions, works_by_turns, works_more}
use Rattle.wh_scheduler.proofs.draining.turn_ready.Goals as goal

pub returns-clause-came : goal.returns-clause-came
returns-clause-came g c =
    comes_then g.D.SwapDev.keeps g.D.SwapDev.honest g.D.SwapDev.faults (left_of c.args.host.now) (left_of c.provide_here.new.self) (left_of c.turn_here.new.self) c.provide_here.ensures.came c.turn_here.ensures.came

pub returns-clause-works : goal.returns-clause-works
returns-clause-works g c =
    works_more _ _ _ _ _ _ 0 0 1 0 (works_by_evictions _ _ _ _ _ c.provide_here.ensures.books c.provide_here.ensures.own) (works_by_turns _ _ _ _ _ c.turn_here.ensures.runs)
