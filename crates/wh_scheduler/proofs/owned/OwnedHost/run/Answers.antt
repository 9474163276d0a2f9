use Rattle.std.proofs.Common.{◌∙◌, ap, sym}
use Rattle.wh_threads.specs.Counting.{turns_of}
use Rattle.wh_threads.specs.declared.own_count.OwnCount.{OwnCount}
use Rattle.wh_cell.specs.Knowing.{BackingState, known_of}
use Rattle.wh_cell.specs.Locking.{BooksState, LockedState}
use Rattle.wh_scheduler.proofs.InHand.{at_err, comes_on, in_hand_still, now_same, sums_before, sums_of}
use Rattle.wh_scheduler.proofs.OwnTurns.{no_fewer, none_counted, owed_where_ok, ran_where_ok, turns_where_ok}
use Rattle.wh_scheduler.proofs.owned.OwnedHost.run.Goals as goal

pub invariant_of-self : goal.invariant_of-self
invariant_of-self g c =
    let a = c.agree.ensures in
    let agree = c.sync_owner.ensures.known ∙ a.same.1 ∙ ap (λ (l : LockedState g.row.D.Denot). l.known) c.sync_device.ensures.same.0 ∙ c.sync_device.ensures.agreed
    ∙ ap (λ (b : BackingState g.row.D.Denot). known_of b) (sym c.sync_device.ensures.same.1) in
    in_hand_still c.sync_owner.new.owner c.agree.new.shares c.sync_owner.new.self c.sync_device.new.backing agree c.sync_owner.ensures.knows
    (sums_of c.sync_device.new.self.books c.sync_owner.new.self.books _ c.agree.new.shares a.turns a.charges a.offers a.evictions (c.sync_owner.ensures.books ∙ a.same.2) a.same.4)

pub returns-clause-came : goal.returns-clause-came
returns-clause-came g c =
    comes_on g.D.SwapDev.keeps g.D.SwapDev.honest g.D.SwapDev.faults c.self.inside.locked c.self.inside.owner c.self.inside.shares c.args.self.now c.sync_owner.new.owner c.agree.new.self c.self.view_is c.sync_owner.ensures.came
    (c.sync_owner.ensures.knows ∙ now_same c.sync_owner.new.self c.agree.new.self c.sync_owner.ensures.host c.sync_owner.ensures.known)

pub returns-clause-grown : goal.returns-clause-grown
returns-clause-grown g c =
    let was = sums_before c.self.inside.locked c.self.inside.backing c.self.inside.owner c.self.inside.shares c.args.self.now c.self.invariant c.self.view_is in
    let is = ap (λ (z : BooksState). z.turns) (c.sync_owner.ensures.books ∙ c.agree.ensures.same.2) ∙ c.agree.ensures.turns in
    let same = ap (λ (o : OwnCount). o.turns) c.run_between-served.ensures.owner in
    ran_where_ok c.run_between-served.result.0 _ _ _ _ _ _ was.turns is same c.run_between-served.ensures.grown

pub returns-clause-turns : goal.returns-clause-turns
returns-clause-turns g c =
    let was = sums_before c.self.inside.locked c.self.inside.backing c.self.inside.owner c.self.inside.shares c.args.self.now c.self.invariant c.self.view_is in
    let is = ap (λ (z : BooksState). z.turns) (c.sync_owner.ensures.books ∙ c.agree.ensures.same.2) ∙ c.agree.ensures.turns in
    let same = ap (λ (o : OwnCount). o.turns) c.run_between-served.ensures.owner in
    turns_where_ok c.run_between-served.result.0 _ _ _ _ _ _ was.turns is same c.run_between-served.ensures.turns

pub returns-clause-owed : goal.returns-clause-owed
returns-clause-owed g c =
    let was = sums_before c.self.inside.locked c.self.inside.backing c.self.inside.owner c.self.inside.shares c.args.self.now c.self.invariant c.self.view_is in
    let is = ap (λ (z : BooksState). z.offers) (c.sync_owner.ensures.books ∙ c.agree.ensures.same.2) ∙ c.agree.ensures.offers in
    let same = ap (λ (o : OwnCount). o.offers) c.run_between-served.ensures.owner in
    owed_where_ok c.run_between-served.result.0 _ _ _ _ _ _ was.offers is same c.run_between-served.ensures.owed

pub returns-clause-err : goal.returns-clause-err
returns-clause-err g c =
    let was = sums_before c.self.inside.locked c.self.inside.backing c.self.inside.owner c.self.inside.shares c.args.self.now c.self.invariant c.self.view_is in
    let is = ap (λ (z : BooksState). z.turns) (c.sync_owner.ensures.books ∙ c.agree.ensures.same.2) ∙ c.agree.ensures.turns in
    let same = ap (λ (o : OwnCount). o.turns) c.run_between-served.ensures.owner in
    at_err _ _ c.run_between-served.result.0 (λ none. none_counted _ _ _ _ _ _ was.turns is same (ap turns_of none)) c.run_between-served.ensures.err

pub returns-clause-offers : goal.returns-clause-offers
returns-clause-offers g c =
    let was = sums_before c.self.inside.locked c.self.inside.backing c.self.inside.owner c.self.inside.shares c.args.self.now c.self.invariant c.self.view_is in
    let is = ap (λ (z : BooksState). z.offers) (c.sync_owner.ensures.books ∙ c.agree.ensures.same.2) ∙ c.agree.ensures.offers in
    let same = ap (λ (o : OwnCount). o.offers) c.run_between-served.ensures.owner in
    no_fewer _ _ _ _ _ _ was.offers is same c.run_between-served.ensures.offers

pub returns-clause-evictions : goal.returns-clause-evictions
returns-clause-evictions g c =
    let was = sums_before c.self.inside.locked c.self.inside.backing c.self.inside.owner c.self.inside.shares c.args.self.now c.self.invariant c.self.view_is in
    let is = ap (λ (z : BooksState). z.evictions) (c.sync_owner.ensures.books ∙ c.agree.ensures.same.2) ∙ c.agree.ensures.evictions in
    let same = ap (λ (o : OwnCount). o.evictions) c.run_between-served.ensures.owner in
    no_fewer _ _ _ _ _ _ was.evictions is same c.run_between-served.ensures.evictions
