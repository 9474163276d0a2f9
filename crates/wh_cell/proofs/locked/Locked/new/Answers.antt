use Rattle.std.proofs.Common.{◌∙◌, ap}
use Rattle.wh_cell.proofs.Begun.{begins_as, begun_in_step, begun_kept, leaves_as}
use Rattle.wh_cell.proofs.locked.Locked.new.Goals as goal

pub invariant_of-locked : goal.invariant_of-locked
invariant_of-locked g c =
    let made = begins_as c.of.result.value c.args.host c.of-2.result.value c.args.cell_parts.device c.of.ensures c.of-2.ensures in
    let known = c.open-agreement.ensures.second ∙ (c.open-agreement.ensures.first ∙ made) in
    let left = c.open-agreement-2.ensures.second ∙ leaves_as c.of-3.result.value c.args.host c.of-4.result.value c.open-agreement.result.2 c.open-agreement-2.result.1 c.open-agreement-2.ensures.first c.of-3.ensures c.of-4.ensures in
    begun_in_step g.D.SwapDev.held g.D.SwapDev.keeps g.D.SwapDev.honest g.D.SwapDev.faults _ c.args.cell_parts.device c.requires.uncharged c.requires.together c.requires.led
    (ap (λ b. b.charges) c.in_ok-books.ensures.books) known left

pub invariant_of-backing : goal.invariant_of-backing
invariant_of-backing g c =
    let made = begins_as c.of.result.value c.args.host c.of-2.result.value c.args.cell_parts.device c.of.ensures c.of-2.ensures in
    begun_kept c.args.cell_parts.device c.args.cell_parts.buf c.with-keeper.result c.args.host.space (g.D.SwapDev.held c.args.cell_parts.device) c.requires.together
    (c.with-keeper.ensures ∙ (c.open-agreement.ensures.first ∙ made))
