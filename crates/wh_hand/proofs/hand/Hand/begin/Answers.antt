use Rattle.wh_hand.proofs.Counted.{counts_itself}
use Rattle.wh_hand.proofs.Events.{on_itself}
use Rattle.std.specs.VecDeque.{deque_capacity}
use Rattle.wh_swap.specs.MemorySwaps.{memory_held}
use Rattle.wh_hand.proofs.Steps.{moved_in_hand}
use Rattle.wh_hand.proofs.hand.Hand.begin.Goals as goal

pub invariant_of-self : goal.invariant_of-self
invariant_of-self c =
    let i = c.self.inside in
    moved_in_hand i.host c.begin_epoch.new.host (memory_held i.device) i.line.items (deque_capacity i.line) c.self.invariant c.begin_epoch.ensures.moves

pub returns-then-is_empty-clause-runs : goal.returns-then-is_empty-clause-runs
returns-then-is_empty-clause-runs c = on_itself c.args.self.now.host

pub returns-then-is_empty-clause-counts : goal.returns-then-is_empty-clause-counts
returns-then-is_empty-clause-counts c = counts_itself c.args.self.now.host.counts
