use Rattle.std.proofs.Common.{rules}
use Rattle.wh_validate.proofs.Deciding.{decides_same, decides_both}
use Rattle.wh_validate.proofs.PartLemmas.{element_same}
use Rattle.wh_validate.proofs.segments.check_element.Goals as goal

pub returns-clause-decides : goal.returns-clause-decides
returns-clause-decides c =
    decides_same c.check_indices.result (element_same c.args.context.now c.args.element.now)
    (decides_both _ c.check_indices.result c.in_ok-check_index.ensures.decides (decides_both _ c.check_indices.result c.in_ok-check_constant.ensures.decides (search rules)))
