use Rattle.std.proofs.Common.{ap, sym}
use Rattle.wh_cell.specs.LeftByOwner.{LeftState}
use Rattle.wh_scheduler.proofs.InHand.{books_on, in_hand_on, on_owned}
use Rattle.wh_scheduler.proofs.owned.OwnedHost.ask.Goals as goal

pub invariant_of-self : goal.invariant_of-self
invariant_of-self g c =
    in_hand_on c.self.inside.locked c.self.inside.backing c.self.inside.owner c.ask.new.owner c.self.inside.shares c.in-Some.locked c.ask.new.self c.self.invariant c.in-Some.is c.ask.ensures.known c.ask.ensures.books c.ask.ensures.knows

pub returns-clause-asks : goal.returns-clause-asks
returns-clause-asks g c =
    on_owned (λ h h2. g.Q.Request.asks c.args.request h c.ask.result h2) c.self.inside.locked c.self.inside.backing c.self.inside.owner c.self.inside.shares c.args.self.now c.in-Some.locked c.ask.new.self.host c.ask.new.owner.host
    c.self.invariant c.self.view_is c.in-Some.is (sym (ap (λ (z : LeftState g.row.D.Denot). z.host) c.ask.ensures.knows)) c.ask.ensures.asks

pub returns-clause-books : goal.returns-clause-books
returns-clause-books g c =
    books_on c.self.inside.locked c.self.inside.owner c.ask.new.owner c.self.inside.shares c.args.self.now c.in-Some.locked c.ask.new.self c.self.view_is c.in-Some.is c.ask.ensures.books
