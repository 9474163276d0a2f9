use Rattle.wh_scheduler.proofs.InHand.{in_hand_first}
use Rattle.wh_scheduler.proofs.owned.OwnedHost.new.Goals as goal

pub invariant_of-result : goal.invariant_of-result
invariant_of-result g c =
    let w = c.in_ok-locked in
    in_hand_first w.field-0.owner w.field-0.shares w.field-0.locked w.field-0.backing c.args.host c.args.cell_parts.device w.ensures.host w.ensures.device w.ensures.agree w.ensures.owner w.ensures.books w.ensures.shares
