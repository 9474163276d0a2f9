use Rattle.std.proofs.Common.{◌≡◌, replicate, None}
use Rattle.wh_swap.proofs.stream.open_slots.Given as goal

-- n open slots so far
abbrev pub invariant-loop : goal.invariant-loop
invariant-loop l = l.list.items ≡ replicate l.counter None
