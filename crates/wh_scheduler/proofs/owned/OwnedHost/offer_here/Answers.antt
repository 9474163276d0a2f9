use Rattle.std.proofs.Common.{◌≡◌, ◌⊎◌, ◌-◌, ◌^◌, ◌∙◌, ap, subst, sym}
use Rattle.wh_cell.specs.LeftByOwner.{LeftState}
use Rattle.wh_cell.specs.Locking.{BooksState}
use Rattle.std.specs.Prelude.{IfNone, IfSome}
use Rattle.wh_threads.specs.Counting.{SharesState}
use Rattle.wh_threads.specs.declared.own_count.OwnCount.{OwnCount}
use Rattle.wh_space_model.specs.{OffersOf}
use Rattle.wh_host.specs.Backing.{KeepsBacking}
use Rattle.wh_host.specs.Paging.{MovesOnly}
use Rattle.wh_host.specs.Sharing.{CanOffer}
use Rattle.wh_scheduler.specs.InHand.{AreSums, OwnedState, WorksHere}
use Rattle.wh_scheduler.proofs.InHand.{books_on, counts_on, in_hand_counted, none_on, on_owned}
use Rattle.wh_scheduler.proofs.OwnTurns.{offered_sums}
use Rattle.wh_scheduler.proofs.owned.OwnedHost.offer_here.Goals as goal

pub invariant_of-self : goal.invariant_of-self
invariant_of-self g c =
    let t = c.offer_in_hand-offered in
    in_hand_counted c.self.inside.locked c.self.inside.backing c.self.inside.owner c.sync_owner.new.owner c.self.inside.shares t.new.shares c.in-Some.locked c.sync_owner.new.self c.self.invariant c.in-Some.is
    (c.sync_owner.ensures.known ∙ t.ensures.known)
    (λ sums. subst (λ (b : BooksState). AreSums b t.new.shares) (sym c.sync_owner.ensures.books) (offered_sums _ _ _ _ _ _ t.result t.ensures.only t.ensures.works t.ensures.none sums))
    c.sync_owner.ensures.knows

pub returns-clause-moves : goal.returns-clause-moves
returns-clause-moves g c =
    let t = c.offer_in_hand-offered in
    on_owned (λ h h2. MovesOnly h h2) c.self.inside.locked c.self.inside.backing c.self.inside.owner c.self.inside.shares c.args.self.now c.in-Some.locked t.new.locked.host c.sync_owner.new.owner.host
    c.self.invariant c.self.view_is c.in-Some.is (sym c.sync_owner.ensures.host ∙ sym (ap (λ (z : LeftState g.row.D.Denot). z.host) c.sync_owner.ensures.knows)) t.ensures.moves

pub returns-clause-some : goal.returns-clause-some
returns-clause-some g c =
    let t = c.offer_in_hand-offered in
    on_owned (λ h h2. IfSome t.result (λ answer. OffersOf (g.H.PageHash.hashes c.args.hasher.now) h.space c.args.id.place c.args.id.number c.args.page c.args.hash answer h2.space)) c.self.inside.locked c.self.inside.backing c.self.inside.owner c.self.inside.shares c.args.self.now c.in-Some.locked t.new.locked.host c.sync_owner.new.owner.host
    c.self.invariant c.self.view_is c.in-Some.is (sym c.sync_owner.ensures.host ∙ sym (ap (λ (z : LeftState g.row.D.Denot). z.host) c.sync_owner.ensures.knows)) t.ensures.some

pub returns-clause-backing : goal.returns-clause-backing
returns-clause-backing g c =
    let t = c.offer_in_hand-offered in
    on_owned (λ h h2. KeepsBacking h.space h2.space) c.self.inside.locked c.self.inside.backing c.self.inside.owner c.self.inside.shares c.args.self.now c.in-Some.locked t.new.locked.host c.sync_owner.new.owner.host
    c.self.invariant c.self.view_is c.in-Some.is (sym c.sync_owner.ensures.host ∙ sym (ap (λ (z : LeftState g.row.D.Denot). z.host) c.sync_owner.ensures.knows)) t.ensures.backing

pub returns-clause-works : goal.returns-clause-works
returns-clause-works g c =
    let t = c.offer_in_hand-offered in
    counts_on (λ b o. IfSome t.result (λ _. WorksHere b o 0 1 c.sync_owner.new.self.books t.new.shares.owner)) c.self.inside.locked c.self.inside.owner c.self.inside.shares c.args.self.now c.in-Some.locked c.self.view_is c.in-Some.is
    (subst (λ b. IfSome t.result (λ _. WorksHere c.in-Some.locked.books c.self.inside.shares.owner 0 1 b t.new.shares.owner)) (sym c.sync_owner.ensures.books) t.ensures.works)

pub returns-clause-none : goal.returns-clause-none
returns-clause-none g c =
    let t = c.offer_in_hand-offered in
    let now = c.args.self.now in
    let own_was : c.self.inside.shares.owner ≡ now.own = ap (λ (z : OwnedState g.row.D.Denot). z.own) c.self.view_is in
    on_owned
    (λ h h2. IfNone t.result (((¬ (CanOffer h.space c.args.id.place)) ⊎ (now.own.offers ≡ 2 ^ 64 - 1)) × (h2 ≡ h) × (c.sync_owner.new.self.books ≡ now.books) × (t.new.shares.owner ≡ now.own)))
    c.self.inside.locked c.self.inside.backing c.self.inside.owner c.self.inside.shares now c.in-Some.locked t.new.locked.host c.sync_owner.new.owner.host
    c.self.invariant c.self.view_is c.in-Some.is (sym c.sync_owner.ensures.host ∙ sym (ap (λ (z : LeftState g.row.D.Denot). z.host) c.sync_owner.ensures.knows))
    (none_on _ _ t.result (λ n. (
      subst (λ (o : OwnCount). (¬ (CanOffer c.in-Some.locked.host.space c.args.id.place)) ⊎ (o.offers ≡ 2 ^ 64 - 1)) own_was n.0,
      n.1,
      books_on c.self.inside.locked c.self.inside.owner c.sync_owner.new.owner c.self.inside.shares now c.in-Some.locked c.sync_owner.new.self c.self.view_is c.in-Some.is (c.sync_owner.ensures.books ∙ n.2),
      ap (λ (z : SharesState). z.owner) n.3 ∙ own_was,
    )) t.ensures.none)
