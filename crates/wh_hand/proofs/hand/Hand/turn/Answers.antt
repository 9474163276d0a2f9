use Rattle.std.proofs.Common.{arith}
use Rattle.wh_hand.proofs.Steps.{led_by_turn}
use Rattle.wh_hand.proofs.hand.Hand.turn.Goals as goal

pub invariant_of-self : goal.invariant_of-self
invariant_of-self c =
    let a = c.self.invariant in
    let e = c.advance.ensures in
    record {
      led = led_by_turn c.self.inside.host c.advance.new.host c.advance.result e.same e.runs a.led;
      together = e.together;
      lists = e.lists;
      few = (let few = a.few in let live = e.live in omega (arith, few, live));
      enough = e.room;
    }
