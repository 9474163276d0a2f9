use Rattle.std.proofs.Common.{ℕ, ◌≤◌, ◌%◌, slice_get}
use Rattle.wh_space_model.specs.{HasHash}
use Rattle.wh_content.specs.Chains.{IsPlace}
use Rattle.wh_content.proofs.table.Table.look.Given as goal

-- it is at a place of the hash's chain, and no frame from there on has the hash
abbrev pub invariant-loop-frame : goal.invariant-loop-frame
invariant-loop-frame l = record {
  place : IsPlace l.self-inside.frames l.self-inside.marks (l.hash % l.self-inside.frames) l.place;
  without : (f : ℕ) → l.place ≤ f → ¬ HasHash (slice_get l.self-inside.marks f) l.hash;
}

abbrev pub decreases-loop-frame : goal.decreases-loop-frame
decreases-loop-frame l = l.place
