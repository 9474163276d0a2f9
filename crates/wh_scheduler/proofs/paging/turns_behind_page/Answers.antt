use Rattle.wh_cell.proofs.Followed.{comes_then}
use Rattle.wh_scheduler.proofs.OwnTurns.{works_by_evictions}
use Rattle.wh_scheduler.proofs.Paged.{works_behind}
use Rattle.wh_scheduler.proofs.paging.turns_behind_page.Goals as goal

pub returns-then-is_err-clause-works : goal.returns-then-is_err-clause-works
returns-then-is_err-clause-works g c = works_by_evictions _ _ _ _ _ c.provide_here.ensures.books c.provide_here.ensures.own

pub returns-clause-came : goal.returns-clause-came
returns-clause-came g c = comes_then g.D.SwapDev.keeps g.D.SwapDev.honest g.D.SwapDev.faults _ _ _ c.provide_here.ensures.came c.turns_until_frame-turns.ensures.came

pub returns-clause-works : goal.returns-clause-works
returns-clause-works g c =
    works_behind _ _ _ _ _ _ _ (works_by_evictions _ _ _ _ _ c.provide_here.ensures.books c.provide_here.ensures.own) c.turns_until_frame-turns.ensures.runs
