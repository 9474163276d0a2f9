use Rattle.std.proofs.Common.{◌∙◌, ap, subst, sym}
use Rattle.wh_cell.specs.LeftByOwner.{LeftState}
use Rattle.wh_cell.specs.Locking.{BooksState}
use Rattle.wh_host_model.specs.Host.{World}
use Rattle.wh_host.specs.Hosting.{IsHost}
use Rattle.wh_cell.specs.Going.{TurnsIfGoing}
use Rattle.wh_scheduler.specs.InHand.{AreSums, RunsHere}
use Rattle.wh_scheduler.proofs.InHand.{counts_on, in_hand_counted, on_owned}
use Rattle.wh_scheduler.proofs.OwnTurns.{ran_sums}
use Rattle.wh_scheduler.proofs.owned.OwnedHost.turn_here.Goals as goal

pub invariant_of-self : goal.invariant_of-self
invariant_of-self g c =
    let t = c.turn_in_hand-end in
    in_hand_counted c.self.inside.locked c.self.inside.backing c.self.inside.owner c.sync_owner.new.owner c.self.inside.shares t.new.shares c.in-Some.locked c.sync_owner.new.self c.self.invariant c.in-Some.is
    (c.sync_owner.ensures.known ∙ t.ensures.known)
    (λ sums. subst (λ (b : BooksState). AreSums b t.new.shares) (sym c.sync_owner.ensures.books) (ran_sums _ _ _ _ _ t.ensures.only t.ensures.runs sums))
    c.sync_owner.ensures.knows

pub returns-clause-turns : goal.returns-clause-turns
returns-clause-turns g c =
    let t = c.turn_in_hand-end in
    on_owned (λ h h2. ((w : World) → IsHost h w → (w2 : World) × TurnsIfGoing w c.args.id c.args.quantum t.result w2 × IsHost h2 w2)) c.self.inside.locked c.self.inside.backing c.self.inside.owner c.self.inside.shares c.args.self.now c.in-Some.locked t.new.locked.host c.sync_owner.new.owner.host
    c.self.invariant c.self.view_is c.in-Some.is (sym c.sync_owner.ensures.host ∙ sym (ap (λ (z : LeftState g.row.D.Denot). z.host) c.sync_owner.ensures.knows)) t.ensures.turns

pub returns-clause-runs : goal.returns-clause-runs
returns-clause-runs g c =
    let t = c.turn_in_hand-end in
    counts_on (λ b o. RunsHere b o 1 c.sync_owner.new.self.books t.new.shares.owner) c.self.inside.locked c.self.inside.owner c.self.inside.shares c.args.self.now c.in-Some.locked c.self.view_is c.in-Some.is
    (subst (λ b. RunsHere c.in-Some.locked.books c.self.inside.shares.owner 1 b t.new.shares.owner) (sym c.sync_owner.ensures.books) t.ensures.runs)
