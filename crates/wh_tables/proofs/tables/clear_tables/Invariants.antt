use Rattle.std.proofs.Common.{◌≡◌, ◌++◌, drop, map, take}
use Rattle.wh_tables.specs.Tables.{without_touched}
use Rattle.wh_tables.proofs.tables.clear_tables.Given as goal

-- the first tables are done
abbrev pub invariant-loop-place : goal.invariant-loop-place
invariant-loop-place l = l.tables.items ≡ map without_touched (take l.place l.fn.tables.items) ++ drop l.place l.fn.tables.items
