use Rattle.std.proofs.Common.{◌≡◌}
use Rattle.wh_host.specs.InstanceRefs.{number_at, refs_below}
use Rattle.wh_host.proofs.instance_refs.refs_below.Given as goal

-- those so far
abbrev pub invariant-loop-place : goal.invariant-loop-place
invariant-loop-place l = l.instance_refs.items ≡ refs_below (number_at l.entries.slots) l.place
