use Rattle.wh_host.proofs.RunnerTurns.{LaidSoFar}
use Rattle.wh_host.proofs.joining.lay_all.Given as goal

abbrev pub invariant-loop-at : goal.invariant-loop-at
invariant-loop-at l = LaidSoFar l.fn.entries.slots l.fn.memory l.fn.runners l.entries.slots l.memory l.runners l.at
