use Rattle.std.proofs.Common.{subst}
use Rattle.wh_hand.specs.HandStates.{HandState}
use Rattle.wh_host.specs.Paging.{MovesOnly}
use Rattle.std.specs.VecDeque.{deque_capacity}
use Rattle.wh_swap.specs.MemorySwaps.{memory_held}
use Rattle.wh_hand.proofs.Steps.{only_moved_in_hand}
use Rattle.wh_hand.proofs.hand.Hand.epoch.Goals as goal

pub invariant_of-self : goal.invariant_of-self
invariant_of-self c =
    let i = c.self.inside in
    only_moved_in_hand i.host c.epoch.new.self (memory_held i.device) i.line.items (deque_capacity i.line) c.self.invariant c.epoch.ensures.moves c.epoch.ensures.backing

pub returns-clause-moves : goal.returns-clause-moves
returns-clause-moves c = subst (λ (z : HandState). MovesOnly z.host c.epoch.new.self) c.self.view_is c.epoch.ensures.moves
