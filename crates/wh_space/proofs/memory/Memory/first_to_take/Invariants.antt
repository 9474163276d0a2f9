use Rattle.std.proofs.Common.{ℕ, ◌<◌, ◌≤◌}
use Rattle.wh_space.specs.Claiming.{MightBeTaken}
use Rattle.wh_space.proofs.memory.Memory.first_to_take.Given as goal

-- none so far might be taken
abbrev pub invariant-loop : goal.invariant-loop
invariant-loop l = record {
  passed : (q : ℕ) → q < l.from → ¬ MightBeTaken l.self l.place l.idle q;
  far : l.counter ≤ l.from;
}
