use Rattle.std.proofs.Common.{◌≡◌, map, take}
use Rattle.wh_host.specs.Reporting.{view_row}
use Rattle.wolqedir.specs.Shapes.{raw_row_of}
use Rattle.wolqedir.proofs.shapes.raw_rows.Given as goal

abbrev pub invariant-loop-row : goal.invariant-loop-row
invariant-loop-row l = l.raw.items ≡ map raw_row_of (map view_row (take l.row-index l.rows))
