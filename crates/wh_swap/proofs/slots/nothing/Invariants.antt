use Rattle.std.proofs.Common.{◌≡◌, ◌≤◌, [], replicate, vec_capacity, vec_len}
use Rattle.wh_swap.specs.SlotParts.{all_held}
use Rattle.wh_swap.proofs.slots.nothing.Given as goal

-- n so far, and there is room for all
abbrev pub invariant-loop : goal.invariant-loop
invariant-loop l = record {
  held : all_held l.tags.items ≡ replicate l.counter [];
  long : vec_len l.tags ≡ l.counter;
  room : l.count ≤ vec_capacity l.tags;
}
