use Rattle.std.proofs.Common.{◌≡◌, ◌+◌, ℕ, ap, subst}
use Rattle.wh_space_model.specs.declared.plain.InstId.{InstId}
use Rattle.wh_host_model.specs.Host.{World}
use Rattle.wh_host.specs.Hosting.{HostState, IsHost}
use Rattle.wh_cell.specs.Going.{TurnsIfGoing}
use Rattle.wh_cell.specs.LeftByOwner.{HasTakenOn}
use Rattle.wh_cell.specs.Locking.{BooksState, LockedState}
use Rattle.wh_cell.proofs.Steps.{turned_in_step}
use Rattle.wh_cell.proofs.locked.Locked.turn.Goals as goal

pub invariant_of-self : goal.invariant_of-self
invariant_of-self g c =
    let t = c.counted_turn-end in
    turned_in_step g.D.SwapDev.held g.D.SwapDev.keeps g.D.SwapDev.honest g.D.SwapDev.faults _ t.new.host _ c.instance-instance.result c.quantum-quantum.result t.result.1 t.result.0 c.self.invariant t.ensures.turns t.ensures.taken t.ensures.backing (ap (λ b. b.charges) c.turn.ensures.books)

pub returns-clause-turns : goal.returns-clause-turns
returns-clause-turns g c =
    let t = c.counted_turn-end in
    let of : HostState → InstId → ℕ → Type 0 = λ h id q. ((w : World) → IsHost h w → (w2 : World) × TurnsIfGoing w id q t.result.0 w2 × IsHost t.new.host w2) in
    let here : of c.args.self.now.host c.instance-instance.result c.quantum-quantum.result =
    subst (λ (l : LockedState g.row.D.Denot). of l.host c.instance-instance.result c.quantum-quantum.result) c.self.view_is t.ensures.turns in
    subst (λ q. of c.args.self.now.host c.args.order.now.instance q) c.quantum-quantum.ensures
    (subst (λ id. of c.args.self.now.host id c.quantum-quantum.result) c.instance-instance.ensures here)

pub returns-clause-counted : goal.returns-clause-counted
returns-clause-counted g c =
    let t = c.counted_turn-end in
    let taken = t.result.1 in
    let b = c.turn.new.self in
    let now : BooksState = record { turns = b.turns; charges = b.charges; offers = b.offers; evictions = b.evictions } in
    let was = c.self.inside.books in
    let then : BooksState = record { turns = was.turns + 1; charges = was.charges + taken; offers = was.offers; evictions = was.evictions } in
    let counts : now ≡ then = ap (λ z. (let r : BooksState = record { turns = z.turns; charges = z.charges; offers = z.offers; evictions = z.evictions } in r)) c.turn.ensures.books in (
      taken,
      subst (λ (l : LockedState g.row.D.Denot). HasTakenOn l.host taken t.new.host) c.self.view_is t.ensures.taken,
      c.turn.ensures.worker,
      subst (λ (l : LockedState g.row.D.Denot). now ≡ record l.books { turns = l.books.turns + 1; charges = l.books.charges + taken }) c.self.view_is counts,
    )
