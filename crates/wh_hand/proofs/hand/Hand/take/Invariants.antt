use Rattle.std.proofs.Common.{◌≡◌, ◌-◌, ◌≤◌}
use Rattle.wh_reclaim.specs.Whole.{IsAsWhole}
use Rattle.wh_hand.specs.RunCounting.{CountsRun}
use Rattle.wh_hand.specs.RunParts.{RunsPart}
use Rattle.wh_hand.proofs.hand.Hand.take.Given as goal

-- n charges were taken in n turns
abbrev pub invariant-loop-turns : goal.invariant-loop-turns
invariant-loop-turns l =
    RunsPart l.fn.self.host (l.fn.charges - l.left) l.turns l.self.host × (l.left ≤ l.fn.charges)
    × IsAsWhole l.fn.self.host.space l.self.host.space × (l.self.output ≡ l.fn.self.output)
    × CountsRun l.fn.self.host.counts (l.fn.charges - l.left) l.self.host.counts
