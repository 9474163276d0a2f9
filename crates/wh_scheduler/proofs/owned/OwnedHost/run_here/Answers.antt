use Rattle.std.proofs.Common.{◌∙◌, subst, sym}
use Rattle.wh_cell.specs.Locking.{BooksState}
use Rattle.wh_scheduler.specs.InHand.{AreSums}
use Rattle.wh_scheduler.proofs.InHand.{in_hand_counted}
use Rattle.wh_scheduler.proofs.OwnTurns.{ran_sums}
use Rattle.wh_scheduler.proofs.owned.OwnedHost.run_here.Goals as goal

pub invariant_of-self : goal.invariant_of-self
invariant_of-self g c =
    let t = c.turns_here-ran in
    in_hand_counted c.self.inside.locked c.self.inside.backing c.self.inside.owner c.sync_owner.new.owner c.self.inside.shares t.new.shares c.in-Some.locked c.sync_owner.new.self c.self.invariant c.in-Some.is
    (c.sync_owner.ensures.known ∙ t.ensures.known)
    (λ sums. subst (λ (b : BooksState). AreSums b t.new.shares) (sym c.sync_owner.ensures.books) (ran_sums _ _ _ _ _ t.ensures.only t.ensures.runs sums))
    c.sync_owner.ensures.knows
