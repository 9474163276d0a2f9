use Rattle.std.proofs.Common.{◌≡◌, ◌++◌, drop, map, take}
use Rattle.wh_tables.specs.Index.{without_active}
use Rattle.wh_tables.proofs.index.clear_active.Given as goal

-- the first places are done
abbrev pub invariant-loop-place : goal.invariant-loop-place
invariant-loop-place l = l.counts.items ≡ map without_active (take l.place l.fn.counts.items) ++ drop l.place l.fn.counts.items
