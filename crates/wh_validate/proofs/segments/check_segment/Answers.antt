use Rattle.wh_validate.proofs.Deciding.{decides_same, decides_both}
use Rattle.wh_validate.proofs.PartLemmas.{segment_same}
use Rattle.wh_validate.proofs.segments.check_segment.Goals as goal

pub returns-clause-decides : goal.returns-clause-decides
returns-clause-decides c =
    decides_same c.check_constant.result (segment_same c.args.context.now c.args.segment.now) (decides_both _ c.check_constant.result c.in_ok-check_index.ensures.decides c.check_constant.ensures.decides)
