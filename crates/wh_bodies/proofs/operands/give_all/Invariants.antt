use Rattle.std.proofs.Common.{◌≡◌, drop}
use Rattle.wh_bodies.specs.Known.{known, give_all}
use Rattle.wh_bodies.proofs.operands.give_all.Given as goal

abbrev pub invariant-loop-of : goal.invariant-loop-of
invariant-loop-of l = give_all (known l.operands) (drop l.of-index l.types) ≡ give_all (known l.initial.operands) l.types
