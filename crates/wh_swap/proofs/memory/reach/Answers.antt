use Rattle.std.proofs.Common.{◌+◌, ◌∙◌, None, arith}
use Rattle.wh_swap.proofs.Reserved.{next_there}
use Rattle.wh_swap.proofs.memory.reach.Goals as goal

pub loop-slots-preserved : goal.loop-slots-preserved
loop-slots-preserved c = record {
  items = next_there (c.args.slot + 1) c.loop-slots.slots.items c.push_reserved.new.self.items None c.push_reserved.ensures.items (omega (arith, c.len.ensures, c.loop-slots-test.true)) ∙ c.loop-slots.invariant.items;
  capacity = c.push_reserved.ensures.capacity ∙ c.loop-slots.invariant.capacity;
}
