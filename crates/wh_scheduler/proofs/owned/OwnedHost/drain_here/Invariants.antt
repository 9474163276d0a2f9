use Rattle.std.proofs.Common.{◌≡◌, ◌⊎◌, ◌-◌, ◌/◌, ◌^◌, ◌≤◌}
use Rattle.wh_cell.specs.Owning.{ComesOn}
use Rattle.wh_scheduler.specs.InHand.{EachCanOffer, WorksHere, left_of}
use Rattle.wh_scheduler.proofs.owned.OwnedHost.drain_here.Given as goal

abbrev pub invariant-loop-turns : goal.invariant-loop-turns
invariant-loop-turns g l =
    (l.turns ≤ l.most)
    × ComesOn g.D.SwapDev.keeps g.D.SwapDev.honest g.D.SwapDev.faults (left_of l.fn.self) (left_of l.self)
    × WorksHere l.fn.self.books l.fn.self.own l.turns l.offers l.self.books l.self.own
    × (EachCanOffer l.fn.self.host l.ids → (l.turns / 64 ≤ l.offers) ⊎ (l.self.own.offers ≡ 2 ^ 64 - 1))
    × (l.offers ≤ l.turns)

abbrev pub decreases-loop-turns : goal.decreases-loop-turns
decreases-loop-turns g l = l.most - l.turns
