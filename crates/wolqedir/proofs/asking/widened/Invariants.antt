use Rattle.std.proofs.Common.{◌≡◌, take}
use Rattle.wolqedir.proofs.asking.widened.Given as goal

abbrev pub invariant-loop-arg : goal.invariant-loop-arg
invariant-loop-arg l = l.wide.items ≡ take l.arg-index l.args
