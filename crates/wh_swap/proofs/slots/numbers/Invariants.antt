use Rattle.std.proofs.Common.{◌≡◌, ◌≤◌, ◌+◌, ◌++◌, vec_capacity, vec_len}
use Rattle.wh_space_model.specs.{numbers_below}
use Rattle.wh_swap.proofs.slots.numbers.Given as goal

-- the greatest are there, the ones below `left` are to come, and there is room for them
abbrev pub invariant-loop-left : goal.invariant-loop-left
invariant-loop-left l = record {
  items : l.list.items ++ numbers_below l.left ≡ numbers_below l.count;
  long : vec_len l.list + l.left ≡ l.count;
  room : l.count ≤ vec_capacity l.list;
}

abbrev pub decreases-loop-left : goal.decreases-loop-left
decreases-loop-left l = l.left
