use Rattle.std.proofs.Common.{◌-◌, ◌≡◌, ◌≤◌}
use Rattle.wh_scheduler.specs.InHand.{RunsHere}
use Rattle.wh_scheduler.proofs.here.turns_here.Given as goal

abbrev pub invariant-loop-turns : goal.invariant-loop-turns
invariant-loop-turns g l =
    (l.turns ≤ l.most)
    × RunsHere l.fn.locked.books l.fn.shares.owner l.turns l.locked.books l.shares.owner
    × (l.shares ≡ record l.fn.shares { owner = l.shares.owner })
    × (l.locked.known ≡ l.fn.locked.known)

abbrev pub decreases-loop-turns : goal.decreases-loop-turns
decreases-loop-turns g l = l.most - l.turns
