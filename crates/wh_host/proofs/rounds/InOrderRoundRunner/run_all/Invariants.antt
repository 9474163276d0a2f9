use Rattle.std.proofs.Common.{◌≡◌, ◌+◌}
use Rattle.wh_host.specs.Rounds.{RunsAt}
use Rattle.wh_host.proofs.RunnerLists.{EachSoFar}
use Rattle.wh_host.proofs.rounds.InOrderRoundRunner.run_all.Given as goal

abbrev pub invariant-loop-at : goal.invariant-loop-at
invariant-loop-at l =
    EachSoFar (RunsAt l.fn.round.modules.now.slots l.fn.round.memory.now l.fn.round.burst.quantum (l.fn.round.burst.further + 1)) l.fn.runners l.runners l.at × (l.round ≡ l.fn.round)
