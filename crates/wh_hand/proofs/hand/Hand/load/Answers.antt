use Rattle.std.specs.VecDeque.{deque_capacity}
use Rattle.wh_swap.specs.MemorySwaps.{memory_held}
use Rattle.wh_hand.proofs.Asked.{loaded_in_hand}
use Rattle.wh_hand.proofs.hand.Hand.load.Goals as goal

pub invariant_of-self : goal.invariant_of-self
invariant_of-self c =
    let i = c.self.inside in
    loaded_in_hand i.host c.load.new.self c.args.bytes.now c.load.result (memory_held i.device) i.line.items (deque_capacity i.line) c.self.invariant
    c.load.ensures.loads c.load.ensures.backing
