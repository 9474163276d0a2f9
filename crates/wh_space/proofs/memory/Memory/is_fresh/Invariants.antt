use Rattle.std.proofs.Common.{◌≡◌, ◌≢◌, ◌<◌, ℕ, Some, slice_get}
use Rattle.wh_space.specs.declared.occupant_entry.OccupantEntry.{OccupantEntry}
use Rattle.wh_space.proofs.memory.Memory.is_fresh.Given as goal

-- nobody so far has the number
abbrev pub invariant-loop-place : goal.invariant-loop-place
invariant-loop-place l = (j : ℕ) (t : OccupantEntry) → j < l.place → slice_get l.self-inside.occupant_entries.items j ≡ Some (Some t) → t.number ≢ l.number
