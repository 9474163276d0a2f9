use Rattle.std.proofs.Common.{subst}
use Rattle.wh_hand.specs.HandStates.{HandState, IsSoundByEvents}
use Rattle.wh_hand.proofs.hand.Hand.invariant.Goals as goal

pub returns : goal.returns
returns c =
    let a = c.self.invariant in
    subst (λ (z : HandState). IsSoundByEvents z.host) c.self.view_is (record { led = a.led; none_out = a.together.none_out; few = a.few })
