use Rattle.std.proofs.Common.{sym, ◌∙◌}
use Rattle.wh_kernels.proofs.Blocks.{same_more}
use Rattle.wh_kernels.proofs.pages_equal.Goals as goal

pub loop-part-preserved : goal.loop-part-preserved
loop-part-preserved c =
    let same = c.blocks_equal.ensures.0 c.if-not-blocks_equal.false in
    same_more c.args.first.now c.args.second.now c.loop-part.part c.loop-part.invariant (sym c.block.ensures ∙ same ∙ c.block-in-loop-part.ensures)
