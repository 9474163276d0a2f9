use Rattle.std.proofs.Common.{◌≡◌, ◌-◌, ◌+◌, ◌++◌, ℕ, List, Option, None, replicate, length, vec_capacity}
use Rattle.wh_swap.proofs.memory.reach.Given as goal

-- the ones that are to come are of nothing
abbrev pub invariant-loop-slots : goal.invariant-loop-slots
invariant-loop-slots l = record {
  items : l.slots.items ++ replicate {A = Option (List ℕ)} (l.slot + 1 - length l.slots.items) None ≡ l.fn.slots.items ++ replicate {A = Option (List ℕ)} (l.slot + 1 - length l.fn.slots.items) None;
  capacity : vec_capacity l.slots ≡ vec_capacity l.fn.slots;
}

abbrev pub decreases-loop-slots : goal.decreases-loop-slots
decreases-loop-slots l = l.slot + 1 - length l.slots.items
