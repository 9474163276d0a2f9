use Rattle.std.proofs.Common.{◌+◌, ap, subst, arith}
use Rattle.wh_host_model.specs.Host.{World}
use Rattle.wh_host.specs.Hosting.{HostState, IsHost}
use Rattle.wh_host.specs.Rounds.{AllTurn, NoneIsLeftOut}
use Rattle.wh_threads.specs.declared.books.Books.{Books}
use Rattle.wh_cell.specs.LeftByOwner.{HasTakenOn}
use Rattle.wh_cell.specs.Locking.{LockedState}
use Rattle.wh_cell.specs.RoundCounts.{charges_of_round}
use Rattle.wh_cell.proofs.RoundTurns.{are_few, round_taken, works_by_round}
use Rattle.wh_cell.proofs.Steps.{worked_in_step}
use Rattle.wh_cell.proofs.locked.Locked.turns_at_once.Goals as goal

pub count_round-requires : goal.count_round-requires
count_round-requires g c =
    let t = c.turns_at_once in
    let some = c.self.invariant.some in
    let x = t.ensures.turns some.0 some.1 in
    let r = c.requires in
    record {
      room = omega (arith, r.room, t.auto.runners);
      due = are_few c.args.burst.quantum (c.args.burst.further + 1) some.0 x.0 c.args.runners.now t.new.runners c.args.orders.now r.quantum r.further r.received t.ensures.same x.1;
    }

pub invariant_of-self : goal.invariant_of-self
invariant_of-self g c =
    let t = c.turns_at_once in
    let i = c.self.invariant in
    let some = i.some in
    let x = t.ensures.turns some.0 some.1 in
    let h = c.self.inside.host in
    let q = c.args.burst.quantum in
    let most = c.args.burst.further + 1 in
    worked_in_step g.D.SwapDev.held g.D.SwapDev.keeps g.D.SwapDev.honest g.D.SwapDev.faults _ t.new.self _ (charges_of_round t.new.runners) i (x.0, x.2)
    (works_by_round h t.new.self q most t.new.runners t.ensures.turns) (round_taken h t.new.self q most t.new.runners some t.ensures.turns) t.ensures.backing
    (ap (λ (b : Books g.row.T.Denot g.row.C.Denot g.row.O.Denot g.row.E.Denot). b.charges) c.count_round.ensures.books)

pub returns-clause-turns : goal.returns-clause-turns
returns-clause-turns g c =
    let t = c.turns_at_once in
    let of : HostState → Type 0 = λ h. ((w : World) → IsHost h w → (w2 : World) × AllTurn c.args.burst.quantum (c.args.burst.further + 1) w t.new.runners w2 × IsHost t.new.self w2) in
    subst (λ (l : LockedState g.row.D.Denot). of l.host) c.self.view_is t.ensures.turns

pub returns-clause-all : goal.returns-clause-all
returns-clause-all g c =
    let t = c.turns_at_once in
    let of : HostState → Type 0 = λ h. ((w : World) → IsHost h w → NoneIsLeftOut w t.new.runners) in
    subst (λ (l : LockedState g.row.D.Denot). of l.host) c.self.view_is t.ensures.all

pub returns-clause-taken : goal.returns-clause-taken
returns-clause-taken g c =
    let t = c.turns_at_once in
    subst (λ (l : LockedState g.row.D.Denot). HasTakenOn l.host (charges_of_round t.new.runners) t.new.self) c.self.view_is
    (round_taken c.self.inside.host t.new.self c.args.burst.quantum (c.args.burst.further + 1) t.new.runners c.self.invariant.some t.ensures.turns)
