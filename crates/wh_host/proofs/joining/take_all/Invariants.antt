use Rattle.std.proofs.Common.{◌+◌, ◌≤◌}
use Rattle.wh_host.specs.Rounds.{lent_to_all}
use Rattle.wh_host.proofs.RunnerLists.{TakenSoFar}
use Rattle.wh_host.proofs.joining.take_all.Given as goal

abbrev pub invariant-loop-at : goal.invariant-loop-at
invariant-loop-at l = TakenSoFar l.fn.entries.slots l.fn.runners l.entries.slots l.runners l.at × (lent_to_all l.runners + l.left ≤ l.fn.frames)
