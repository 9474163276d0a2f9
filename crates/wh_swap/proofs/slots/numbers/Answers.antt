use Rattle.std.proofs.Common.{◌-◌, arith, rules}
use Rattle.wh_swap.proofs.Once.{numbers_next}
use Rattle.wh_swap.proofs.slots.numbers.Goals as goal

pub loop-left-preserved : goal.loop-left-preserved
loop-left-preserved c = record {
  items = numbers_next c.loop-left.left (c.loop-left.left - 1) c.loop-left.list.items c.push_reserved.new.self.items _ (omega arith) c.push_reserved.ensures.items c.loop-left.invariant.items;
  long = search rules;
  room = search rules;
}
