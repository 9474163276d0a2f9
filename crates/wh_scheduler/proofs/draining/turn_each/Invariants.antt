use Rattle.std.proofs.Common.{◌≡◌, ◌≤◌}
use Rattle.wh_cell.specs.Owning.{ComesOn}
use Rattle.wh_scheduler.specs.InHand.{Rests, WorksHere, left_of}
use Rattle.wh_scheduler.proofs.OwnTurns.{EachBelow}
use Rattle.wh_scheduler.proofs.draining.turn_each.Given as goal

abbrev pub invariant-loop-at : goal.invariant-loop-at
invariant-loop-at g l =
    (l.turns ≤ l.most)
    × (l.turns ≤ l.at)
    × ComesOn g.D.SwapDev.keeps g.D.SwapDev.honest g.D.SwapDev.faults (left_of l.fn.host) (left_of l.host)
    × WorksHere l.fn.host.books l.fn.host.own l.turns 0 l.host.books l.host.own
    × (l.turns ≡ 0 → EachBelow Rests l.host.host l.ids l.at)
