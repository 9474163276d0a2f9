use Rattle.std.proofs.Common.{◌≡◌, map, take}
use Rattle.wh_host.specs.InstanceRefs.{rows_by}
use Rattle.wh_host.specs.Reporting.{view_row}
use Rattle.wh_host.proofs.reporting.all_rows.Given as goal

-- those so far
abbrev pub invariant-loop-at : goal.invariant-loop-at
invariant-loop-at l = map view_row l.rows.items ≡ rows_by l.memory l.entries.slots (take l.at l.instance_refs)
