use Rattle.std.proofs.Common.{◌-◌, ◌≤◌}
use Rattle.wh_cell.specs.Owning.{ComesOn}
use Rattle.wh_scheduler.specs.InHand.{RunsHere, left_of}
use Rattle.wh_scheduler.proofs.paging.turns_until_frame.Given as goal

abbrev pub invariant-loop-turns : goal.invariant-loop-turns
invariant-loop-turns g l =
    (l.turns ≤ l.most)
    × ComesOn g.D.SwapDev.keeps g.D.SwapDev.honest g.D.SwapDev.faults (left_of l.fn.host) (left_of l.host)
    × RunsHere l.fn.host.books l.fn.host.own l.turns l.host.books l.host.own

abbrev pub decreases-loop-turns : goal.decreases-loop-turns
decreases-loop-turns g l = l.most - l.turns
