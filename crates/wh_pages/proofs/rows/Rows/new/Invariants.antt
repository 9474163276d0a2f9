use Rattle.std.proofs.Common.{◌≡◌, length}
use Rattle.wh_pages.specs.Leaves.{HasWholeLeaves}
use Rattle.wh_pages.proofs.rows.Rows.new.Given as goal

-- n leaves so far, all whole
abbrev pub invariant-loop : goal.invariant-loop
invariant-loop l = record { count : length l.directory.items ≡ l.counter; whole : HasWholeLeaves l.directory.items }
