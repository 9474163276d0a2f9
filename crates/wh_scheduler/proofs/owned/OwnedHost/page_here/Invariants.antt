use Rattle.std.proofs.Common.{◌≡◌, ◌⊎◌, ◌+◌, ◌*◌, ◌-◌, ◌/◌, ◌^◌, ◌≤◌}
use Rattle.wh_cell.specs.Owning.{ComesOn}
use Rattle.wh_scheduler.specs.declared.here.Outlook.TheVariants.{Rests as OutlookRests}
use Rattle.wh_scheduler.specs.InHand.{EachCanOffer, EachIs, Rests, WorksHere, left_of}
use Rattle.wh_scheduler.proofs.owned.OwnedHost.page_here.Given as goal

abbrev pub invariant-loop-self : goal.invariant-loop-self
invariant-loop-self g l =
    (l.turns + l.spare + 4096 * l.fn.self.own.evictions ≤ 4096 * l.self.own.evictions)
    × ComesOn g.D.SwapDev.keeps g.D.SwapDev.honest g.D.SwapDev.faults (left_of l.fn.self) (left_of l.self)
    × WorksHere l.fn.self.books l.fn.self.own l.turns l.offers l.self.books l.self.own
    × (EachCanOffer l.fn.self.host l.ids → (l.turns / 64 ≤ l.offers) ⊎ (l.self.own.offers ≡ 2 ^ 64 - 1))
    × (l.offers ≤ l.turns)
    × (l.outlook ≡ OutlookRests → EachIs Rests l.self.host l.ids)

abbrev pub decreases-loop-self : goal.decreases-loop-self
decreases-loop-self g l = 2 ^ 64 - 1 - l.turns
