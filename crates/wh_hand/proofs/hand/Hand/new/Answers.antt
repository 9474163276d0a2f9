use Rattle.wh_hand.proofs.Steps.{new_in_hand}
use Rattle.wh_hand.proofs.hand.Hand.new.Goals as goal

pub invariant_of-result : goal.invariant_of-result
invariant_of-result c =
    new_in_hand c.in-Ok.host c.args.frames c.args.slots _ _ _ _ c.in-Ok.ensures.ok c.in_ok-device.ensures.held c.in_ok-line.ensures.items c.in_ok-line.ensures.capacity
