use Rattle.std.proofs.Common.{ap, refl, subst}
use Rattle.wh_host.specs.Paging.{MovesOnly}
use Rattle.wh_cell.specs.Locking.{LockedState}
use Rattle.wh_cell.proofs.Steps.{moved_in_step}
use Rattle.wh_cell.proofs.locked.Locked.own_offer.Goals as goal

pub invariant_of-self : goal.invariant_of-self
invariant_of-self g c = moved_in_step g.D.SwapDev.held g.D.SwapDev.keeps g.D.SwapDev.honest g.D.SwapDev.faults _ c.offer-offered.new.self _ c.self.invariant c.offer-offered.ensures.moves c.offer-offered.ensures.backing (ap (λ b. b.charges) c.own_offers.ensures.books)

pub invariant_of-self-else-is_some : goal.invariant_of-self-else-is_some
invariant_of-self-else-is_some g c = moved_in_step g.D.SwapDev.held g.D.SwapDev.keeps g.D.SwapDev.honest g.D.SwapDev.faults _ c.offer-offered.new.self _ c.self.invariant c.offer-offered.ensures.moves c.offer-offered.ensures.backing refl

pub returns-then-is_some-clause-moves : goal.returns-then-is_some-clause-moves
returns-then-is_some-clause-moves g c = subst (λ (l : LockedState g.row.D.Denot). MovesOnly l.host c.offer-offered.new.self) c.self.view_is c.offer-offered.ensures.moves

pub returns-else-is_some-clause-moves : goal.returns-else-is_some-clause-moves
returns-else-is_some-clause-moves g c = subst (λ (l : LockedState g.row.D.Denot). MovesOnly l.host c.offer-offered.new.self) c.self.view_is c.offer-offered.ensures.moves
