use Rattle.std.proofs.Common.{◌≡◌, ◌≤◌, length, reverse, take}
use Rattle.wh_bodies.specs.Known.{known, take_all}
use Rattle.wh_bodies.proofs.operands.take_all.Given as goal

abbrev pub invariant-left : goal.invariant-left
invariant-left l = record {
  within : l.left ≤ length l.wanted;
  same : take_all (known l.operands) (reverse (take l.left l.wanted)) ≡ take_all (known l.initial.operands) (reverse l.wanted);
}

abbrev pub decreases-left : goal.decreases-left
decreases-left l = l.left
