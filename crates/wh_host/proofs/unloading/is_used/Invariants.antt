use Rattle.std.proofs.Common.{ℕ, ◌<◌}
use Rattle.wh_host.specs.Unloading.{Uses}
use Rattle.wh_host.proofs.unloading.is_used.Given as goal

-- none so far
abbrev pub invariant-loop-place : goal.invariant-loop-place
invariant-loop-place l = (p : ℕ) → p < l.place → ¬ (Uses l.entries.slots l.number p)
