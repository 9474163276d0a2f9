use Rattle.std.proofs.Common.{◌≡◌, ◌+◌, ap, subst}
use Rattle.wh_host_model.specs.Host.{World}
use Rattle.wh_host.specs.Hosting.{IsHost}
use Rattle.wh_cell.specs.Going.{TurnsIfGoing}
use Rattle.wh_cell.specs.LeftByOwner.{HasTakenOn}
use Rattle.wh_cell.specs.Locking.{BooksState, LockedState}
use Rattle.wh_cell.proofs.Steps.{turned_in_step}
use Rattle.wh_cell.proofs.locked.Locked.own_turn.Goals as goal

pub invariant_of-self : goal.invariant_of-self
invariant_of-self g c =
    let t = c.counted_turn-end in
    turned_in_step g.D.SwapDev.held g.D.SwapDev.keeps g.D.SwapDev.honest g.D.SwapDev.faults _ t.new.host _ c.args.id c.args.quantum t.result.1 t.result.0 c.self.invariant t.ensures.turns t.ensures.taken t.ensures.backing (ap (λ b. b.charges) c.own_turn.ensures.books)

pub returns-clause-turns : goal.returns-clause-turns
returns-clause-turns g c =
    let t = c.counted_turn-end in
    subst (λ (l : LockedState g.row.D.Denot). ((w : World) → IsHost l.host w → (w2 : World) × TurnsIfGoing w c.args.id c.args.quantum t.result.0 w2 × IsHost t.new.host w2)) c.self.view_is t.ensures.turns

pub returns-clause-counted : goal.returns-clause-counted
returns-clause-counted g c =
    let t = c.counted_turn-end in
    let taken = t.result.1 in
    let b = c.own_turn.new.self in
    let now : BooksState = record { turns = b.turns; charges = b.charges; offers = b.offers; evictions = b.evictions } in
    let was = c.self.inside.books in
    let then : BooksState = record { turns = was.turns + 1; charges = was.charges + taken; offers = was.offers; evictions = was.evictions } in
    let counts : now ≡ then = ap (λ z. (let r : BooksState = record { turns = z.turns; charges = z.charges; offers = z.offers; evictions = z.evictions } in r)) c.own_turn.ensures.books in (
      taken,
      subst (λ (l : LockedState g.row.D.Denot). HasTakenOn l.host taken t.new.host) c.self.view_is t.ensures.taken,
      c.own_turn.ensures.shares,
      subst (λ (l : LockedState g.row.D.Denot). now ≡ record l.books { turns = l.books.turns + 1; charges = l.books.charges + taken }) c.self.view_is counts,
    )
