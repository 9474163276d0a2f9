use Rattle.std.specs.VecDeque.{deque_capacity}
use Rattle.wh_swap.specs.MemorySwaps.{memory_held}
use Rattle.wh_hand.proofs.Asked.{unloaded_in_hand}
use Rattle.wh_hand.proofs.hand.Hand.unload.Goals as goal

pub invariant_of-self : goal.invariant_of-self
invariant_of-self c =
    let i = c.self.inside in
    unloaded_in_hand i.host c.unload.new.self c.args.id.number c.unload.result (memory_held i.device) i.line.items (deque_capacity i.line) c.self.invariant
    c.unload.ensures.unloads c.unload.ensures.backing
