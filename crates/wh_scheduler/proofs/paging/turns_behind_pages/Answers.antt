use Rattle.std.proofs.Common.{arith}
use Rattle.wh_cell.proofs.Followed.{comes_then}
use Rattle.wh_scheduler.proofs.InHand.{came_first}
use Rattle.wh_scheduler.proofs.OwnTurns.{works_more, works_none}
use Rattle.wh_scheduler.proofs.Paged.{fits_more}
use Rattle.wh_scheduler.proofs.paging.turns_behind_pages.Goals as goal

pub loop-init : goal.loop-init
loop-init g c =
    let s = c.invariant.ensures in
    (omega arith, came_first g.D.SwapDev.keeps g.D.SwapDev.honest g.D.SwapDev.faults c.args.host.now s.device s.has, works_none _ _, λ some. absurd (omega (arith, some)))

pub loop-preserved : goal.loop-preserved
loop-preserved g c =
    let was = c.loop.invariant in
    let t = c.turns_behind_page-more in (
      omega (arith, was.0, t.ensures.few),
      comes_then g.D.SwapDev.keeps g.D.SwapDev.honest g.D.SwapDev.faults _ _ _ was.1 t.ensures.came,
      works_more _ _ _ _ _ _ _ _ _ _ was.2 t.ensures.works,
      fits_more _ _ _ _ _ t.ensures.works _ was.3 t.ensures.fits,
    )
