use Rattle.std.proofs.Common.{arith}
use Rattle.wh_pages.proofs.Epochs.{cleared_next}
use Rattle.wh_pages.proofs.table.PageTable.clear_touched.Goals as goal

pub loop-at-preserved : goal.loop-at-preserved
loop-at-preserved c =
    cleared_next c.args.self.now c.loop-at.self c.mark.new.self c.loop-at.at (omega (arith, c.len-at-end.ensures.touched)) c.loop-at.invariant c.mark.ensures
