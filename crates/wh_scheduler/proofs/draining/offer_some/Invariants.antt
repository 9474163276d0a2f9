use Rattle.std.proofs.Common.{◌-◌, ◌≤◌}
use Rattle.wh_cell.specs.Owning.{ComesOn}
use Rattle.wh_scheduler.specs.InHand.{WorksHere, left_of}
use Rattle.wh_scheduler.proofs.draining.offer_some.Given as goal

abbrev pub invariant-loop-offers : goal.invariant-loop-offers
invariant-loop-offers g l =
    (l.offers ≤ l.wanted)
    × ComesOn g.D.SwapDev.keeps g.D.SwapDev.honest g.D.SwapDev.faults (left_of l.fn.host) (left_of l.host)
    × WorksHere l.fn.host.books l.fn.host.own 0 l.offers l.host.books l.host.own

abbrev pub decreases-loop-offers : goal.decreases-loop-offers
decreases-loop-offers g l = l.wanted - l.offers
