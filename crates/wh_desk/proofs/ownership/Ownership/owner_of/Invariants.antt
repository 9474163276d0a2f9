use Rattle.std.proofs.Common.{◌≡◌, drop}
use Rattle.wh_desk.specs.Permits.{owner_of}
use Rattle.wh_desk.proofs.ownership.Ownership.owner_of.Given as goal

abbrev pub invariant-loop-owned : goal.invariant-loop-owned
invariant-loop-owned l = owner_of l.id l.self.instances.items ≡ owner_of l.id (drop l.owned-index l.self.instances.items)
