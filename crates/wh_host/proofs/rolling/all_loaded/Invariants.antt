use Rattle.std.proofs.Common.{◌≡◌, map, take}
use Rattle.wh_host.specs.Rolls.{listed_modules, view_listed_module}
use Rattle.wh_host.proofs.rolling.all_loaded.Given as goal

-- those so far
abbrev pub invariant-loop-at : goal.invariant-loop-at
invariant-loop-at l = map view_listed_module l.list.items ≡ listed_modules l.modules.slots (take l.at l.module_refs)
