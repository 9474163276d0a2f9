use Rattle.std.proofs.Common.{◌≡◌, map, take}
use Rattle.wh_host.specs.Rolls.{listed_refs, view_listed}
use Rattle.wh_host.proofs.rolling.all_enrolled.Given as goal

-- those so far
abbrev pub invariant-loop-at : goal.invariant-loop-at
invariant-loop-at l = map view_listed l.list.items ≡ listed_refs l.entries.slots (take l.at l.instance_refs)
