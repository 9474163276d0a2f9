use Rattle.std.proofs.Common.{◌≡◌, ◌+◌, ◌∙◌, ap, subst, sym}
use Rattle.wh_cell.specs.Counted.{countable, offers_of}
use Rattle.wh_cell.specs.LeftByOwner.{LeftState}
use Rattle.wh_cell.specs.Locking.{BooksState}
use Rattle.wh_host.specs.Backing.{KeepsBacking}
use Rattle.wh_host.specs.Paging.{MovesOnly}
use Rattle.wh_cell.specs.Scanned.{IsScanned}
use Rattle.wh_scheduler.specs.InHand.{AreSums}
use Rattle.wh_scheduler.proofs.InHand.{counts_on, in_hand_counted, on_owned}
use Rattle.wh_scheduler.proofs.OwnTurns.{works_by_offers, works_sums}
use Rattle.wh_scheduler.proofs.owned.OwnedHost.scan_here.Goals as goal

pub invariant_of-self : goal.invariant_of-self
invariant_of-self g c =
    let t = c.scan_in_hand-offered in
    in_hand_counted c.self.inside.locked c.self.inside.backing c.self.inside.owner c.sync_owner.new.owner c.self.inside.shares t.new.shares c.in-Some.locked c.sync_owner.new.self c.self.invariant c.in-Some.is
    (c.sync_owner.ensures.known ∙ t.ensures.known)
    (λ sums. subst (λ (b : BooksState). AreSums b t.new.shares) (sym c.sync_owner.ensures.books) (works_sums _ _ _ _ _ _ t.ensures.only (works_by_offers _ _ _ _ _ t.ensures.books t.ensures.own) sums))
    c.sync_owner.ensures.knows

pub returns-clause-moves : goal.returns-clause-moves
returns-clause-moves g c =
    let t = c.scan_in_hand-offered in
    on_owned (λ h h2. MovesOnly h h2) c.self.inside.locked c.self.inside.backing c.self.inside.owner c.self.inside.shares c.args.self.now c.in-Some.locked t.new.locked.host c.sync_owner.new.owner.host
    c.self.invariant c.self.view_is c.in-Some.is (sym c.sync_owner.ensures.host ∙ sym (ap (λ (z : LeftState g.row.D.Denot). z.host) c.sync_owner.ensures.knows)) t.ensures.moves

pub returns-clause-scans : goal.returns-clause-scans
returns-clause-scans g c =
    let t = c.scan_in_hand-offered in
    on_owned (λ h h2. IsScanned (g.H.PageHash.hashes c.args.hasher.now) h t.result h2) c.self.inside.locked c.self.inside.backing c.self.inside.owner c.self.inside.shares c.args.self.now c.in-Some.locked t.new.locked.host c.sync_owner.new.owner.host
    c.self.invariant c.self.view_is c.in-Some.is (sym c.sync_owner.ensures.host ∙ sym (ap (λ (z : LeftState g.row.D.Denot). z.host) c.sync_owner.ensures.knows)) t.ensures.scans

pub returns-clause-backing : goal.returns-clause-backing
returns-clause-backing g c =
    let t = c.scan_in_hand-offered in
    on_owned (λ h h2. KeepsBacking h.space h2.space) c.self.inside.locked c.self.inside.backing c.self.inside.owner c.self.inside.shares c.args.self.now c.in-Some.locked t.new.locked.host c.sync_owner.new.owner.host
    c.self.invariant c.self.view_is c.in-Some.is (sym c.sync_owner.ensures.host ∙ sym (ap (λ (z : LeftState g.row.D.Denot). z.host) c.sync_owner.ensures.knows)) t.ensures.backing

pub returns-clause-books : goal.returns-clause-books
returns-clause-books g c =
    let t = c.scan_in_hand-offered in
    counts_on (λ b o. c.sync_owner.new.self.books ≡ record b { offers = b.offers + countable o.offers (offers_of t.result) }) c.self.inside.locked c.self.inside.owner c.self.inside.shares c.args.self.now c.in-Some.locked c.self.view_is c.in-Some.is
    (c.sync_owner.ensures.books ∙ t.ensures.books)

pub returns-clause-own : goal.returns-clause-own
returns-clause-own g c =
    let t = c.scan_in_hand-offered in
    counts_on (λ b o. t.new.shares.owner ≡ record o { offers = o.offers + countable o.offers (offers_of t.result) }) c.self.inside.locked c.self.inside.owner c.self.inside.shares c.args.self.now c.in-Some.locked c.self.view_is c.in-Some.is
    t.ensures.own
