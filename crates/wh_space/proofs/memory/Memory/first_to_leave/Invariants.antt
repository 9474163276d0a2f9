use Rattle.std.proofs.Common.{ℕ, ◌<◌, ◌≤◌}
use Rattle.wh_space.specs.Claiming.{MightLeave}
use Rattle.wh_space.proofs.memory.Memory.first_to_leave.Given as goal

-- none so far might leave
abbrev pub invariant-loop : goal.invariant-loop
invariant-loop l = record {
  passed : (q : ℕ) → q < l.from → ¬ MightLeave l.self l.place l.idle q;
  far : l.counter ≤ l.from;
}
