use Rattle.std.proofs.Common.{◌≡◌, ◌+◌, ◌∙◌, Some, ap, subst, sym}
use Rattle.std.specs.Prelude.{IfOk, OnErr, OnOk}
use Rattle.wh_host.specs.Backing.{KeepsBacking}
use Rattle.wh_host.specs.Paging.{MovesOnly}
use Rattle.wh_cell.specs.Counted.{countable, offers_of}
use Rattle.wh_cell.specs.Knowing.{KnownState}
use Rattle.wh_cell.specs.Locking.{BooksState}
use Rattle.wh_cell.specs.Scanned.{IsScanned}
use Rattle.wh_scheduler.specs.InHand.{AreSums, OwnedState, by_scanners, owned_of}
use Rattle.wh_scheduler.proofs.InHand.{in_hand_counted}
use Rattle.wh_scheduler.proofs.Scans.{Came, came_backing, came_books, came_known, came_moves, came_own, came_same, came_scans, came_sums, on_both, owned_is, owned_then, sums_now}
use Rattle.wh_scheduler.proofs.owned.OwnedHost.scan.Goals as goal

pub invariant_of-self : goal.invariant_of-self
invariant_of-self g c =
    let t = c.scan_there-answer in
    let hashes = g.H.PageHash.hashes c.args.hasher in
    let came : Came hashes c.in-Some.locked c.self.inside.shares t.result.0 t.result.1 t.new.shares = (t.ensures.ok, t.ensures.err, t.ensures.only) in
    in_hand_counted c.self.inside.locked c.self.inside.backing c.self.inside.owner c.sync_owner.new.owner c.self.inside.shares t.new.shares c.in-Some.locked c.sync_owner.new.self c.self.invariant (sym c.take.ensures.value ∙ c.in-Some.is)
    (c.sync_owner.ensures.known ∙ came_known hashes c.in-Some.locked c.self.inside.shares t.result.0 t.result.1 t.new.shares came)
    (λ sums. subst (λ (b : BooksState). AreSums b t.new.shares) (sym c.sync_owner.ensures.books) (came_sums hashes c.in-Some.locked c.self.inside.shares t.result.0 t.result.1 t.new.shares came sums)) c.sync_owner.ensures.knows

pub returns-clause-moves : goal.returns-clause-moves
returns-clause-moves g c =
    let t = c.scan_there-answer in
    let l = c.in-Some.locked in
    let is = sym c.take.ensures.value ∙ c.in-Some.is in
    let hashes = g.H.PageHash.hashes c.args.hasher in
    let came : Came hashes c.in-Some.locked c.self.inside.shares t.result.0 t.result.1 t.new.shares = (t.ensures.ok, t.ensures.err, t.ensures.only) in
    on_both (λ (o o2 : OwnedState g.row.D.Denot). OnOk t.result.0 (MovesOnly o.host o2.host)) c.args.self.now (owned_of (Some c.sync_owner.new.self) c.sync_owner.new.owner t.new.shares) l t.result.1 c.self.inside.shares t.new.shares
    (owned_is c.self.inside.locked c.self.inside.backing c.self.inside.owner c.self.inside.shares c.args.self.now l c.self.invariant c.self.view_is is)
    (owned_then t.result.1 c.sync_owner.new.self c.sync_owner.new.owner t.new.shares c.sync_owner.ensures.host c.sync_owner.ensures.known c.sync_owner.ensures.books c.sync_owner.ensures.knows) (came_moves hashes l c.self.inside.shares t.result.0 t.result.1 t.new.shares came)

pub returns-clause-backing : goal.returns-clause-backing
returns-clause-backing g c =
    let t = c.scan_there-answer in
    let l = c.in-Some.locked in
    let is = sym c.take.ensures.value ∙ c.in-Some.is in
    let hashes = g.H.PageHash.hashes c.args.hasher in
    let came : Came hashes c.in-Some.locked c.self.inside.shares t.result.0 t.result.1 t.new.shares = (t.ensures.ok, t.ensures.err, t.ensures.only) in
    on_both (λ (o o2 : OwnedState g.row.D.Denot). KeepsBacking o.host.space o2.host.space) c.args.self.now (owned_of (Some c.sync_owner.new.self) c.sync_owner.new.owner t.new.shares) l t.result.1 c.self.inside.shares t.new.shares
    (owned_is c.self.inside.locked c.self.inside.backing c.self.inside.owner c.self.inside.shares c.args.self.now l c.self.invariant c.self.view_is is)
    (owned_then t.result.1 c.sync_owner.new.self c.sync_owner.new.owner t.new.shares c.sync_owner.ensures.host c.sync_owner.ensures.known c.sync_owner.ensures.books c.sync_owner.ensures.knows) (came_backing hashes l c.self.inside.shares t.result.0 t.result.1 t.new.shares came)

pub returns-clause-scans : goal.returns-clause-scans
returns-clause-scans g c =
    let t = c.scan_there-answer in
    let l = c.in-Some.locked in
    let is = sym c.take.ensures.value ∙ c.in-Some.is in
    let hashes = g.H.PageHash.hashes c.args.hasher in
    let came : Came hashes c.in-Some.locked c.self.inside.shares t.result.0 t.result.1 t.new.shares = (t.ensures.ok, t.ensures.err, t.ensures.only) in
    on_both (λ (o o2 : OwnedState g.row.D.Denot). IfOk t.result.0 (λ offered. IsScanned hashes o.host offered o2.host)) c.args.self.now (owned_of (Some c.sync_owner.new.self) c.sync_owner.new.owner t.new.shares) l t.result.1 c.self.inside.shares t.new.shares
    (owned_is c.self.inside.locked c.self.inside.backing c.self.inside.owner c.self.inside.shares c.args.self.now l c.self.invariant c.self.view_is is)
    (owned_then t.result.1 c.sync_owner.new.self c.sync_owner.new.owner t.new.shares c.sync_owner.ensures.host c.sync_owner.ensures.known c.sync_owner.ensures.books c.sync_owner.ensures.knows) (came_scans hashes l c.self.inside.shares t.result.0 t.result.1 t.new.shares came)

pub returns-clause-device : goal.returns-clause-device
returns-clause-device g c =
    let t = c.scan_there-answer in
    let l = c.in-Some.locked in
    let is = sym c.take.ensures.value ∙ c.in-Some.is in
    let hashes = g.H.PageHash.hashes c.args.hasher in
    let came : Came hashes c.in-Some.locked c.self.inside.shares t.result.0 t.result.1 t.new.shares = (t.ensures.ok, t.ensures.err, t.ensures.only) in
    on_both (λ (o o2 : OwnedState g.row.D.Denot). o2.device ≡ o.device) c.args.self.now (owned_of (Some c.sync_owner.new.self) c.sync_owner.new.owner t.new.shares) l t.result.1 c.self.inside.shares t.new.shares
    (owned_is c.self.inside.locked c.self.inside.backing c.self.inside.owner c.self.inside.shares c.args.self.now l c.self.invariant c.self.view_is is)
    (owned_then t.result.1 c.sync_owner.new.self c.sync_owner.new.owner t.new.shares c.sync_owner.ensures.host c.sync_owner.ensures.known c.sync_owner.ensures.books c.sync_owner.ensures.knows) (ap (λ (k : KnownState g.row.D.Denot). k.device) (came_known hashes l c.self.inside.shares t.result.0 t.result.1 t.new.shares came))

pub returns-clause-books : goal.returns-clause-books
returns-clause-books g c =
    let t = c.scan_there-answer in
    let l = c.in-Some.locked in
    let is = sym c.take.ensures.value ∙ c.in-Some.is in
    let hashes = g.H.PageHash.hashes c.args.hasher in
    let came : Came hashes c.in-Some.locked c.self.inside.shares t.result.0 t.result.1 t.new.shares = (t.ensures.ok, t.ensures.err, t.ensures.only) in
    on_both (λ (o o2 : OwnedState g.row.D.Denot). IfOk t.result.0 (λ offered. o2.books ≡ record o.books { offers = o.books.offers + countable (by_scanners o.books o.own) (offers_of offered) })) c.args.self.now (owned_of (Some c.sync_owner.new.self) c.sync_owner.new.owner t.new.shares) l t.result.1 c.self.inside.shares t.new.shares
    (owned_is c.self.inside.locked c.self.inside.backing c.self.inside.owner c.self.inside.shares c.args.self.now l c.self.invariant c.self.view_is is)
    (owned_then t.result.1 c.sync_owner.new.self c.sync_owner.new.owner t.new.shares c.sync_owner.ensures.host c.sync_owner.ensures.known c.sync_owner.ensures.books c.sync_owner.ensures.knows) (came_books hashes l c.self.inside.shares t.result.0 t.result.1 t.new.shares came (sums_now c.self.inside.locked c.self.inside.backing c.self.inside.owner c.self.inside.shares l c.self.invariant is))

pub returns-clause-err : goal.returns-clause-err
returns-clause-err g c =
    let t = c.scan_there-answer in
    let l = c.in-Some.locked in
    let is = sym c.take.ensures.value ∙ c.in-Some.is in
    let hashes = g.H.PageHash.hashes c.args.hasher in
    let came : Came hashes c.in-Some.locked c.self.inside.shares t.result.0 t.result.1 t.new.shares = (t.ensures.ok, t.ensures.err, t.ensures.only) in
    on_both (λ (o o2 : OwnedState g.row.D.Denot). OnErr t.result.0 (o2 ≡ o)) c.args.self.now (owned_of (Some c.sync_owner.new.self) c.sync_owner.new.owner t.new.shares) l t.result.1 c.self.inside.shares t.new.shares
    (owned_is c.self.inside.locked c.self.inside.backing c.self.inside.owner c.self.inside.shares c.args.self.now l c.self.invariant c.self.view_is is)
    (owned_then t.result.1 c.sync_owner.new.self c.sync_owner.new.owner t.new.shares c.sync_owner.ensures.host c.sync_owner.ensures.known c.sync_owner.ensures.books c.sync_owner.ensures.knows) (came_same hashes l c.self.inside.shares t.result.0 t.result.1 t.new.shares came)

pub returns-clause-own : goal.returns-clause-own
returns-clause-own g c =
    let t = c.scan_there-answer in
    let l = c.in-Some.locked in
    let is = sym c.take.ensures.value ∙ c.in-Some.is in
    let hashes = g.H.PageHash.hashes c.args.hasher in
    let came : Came hashes c.in-Some.locked c.self.inside.shares t.result.0 t.result.1 t.new.shares = (t.ensures.ok, t.ensures.err, t.ensures.only) in
    on_both (λ (o o2 : OwnedState g.row.D.Denot). o2.own ≡ o.own) c.args.self.now (owned_of (Some c.sync_owner.new.self) c.sync_owner.new.owner t.new.shares) l t.result.1 c.self.inside.shares t.new.shares
    (owned_is c.self.inside.locked c.self.inside.backing c.self.inside.owner c.self.inside.shares c.args.self.now l c.self.invariant c.self.view_is is)
    (owned_then t.result.1 c.sync_owner.new.self c.sync_owner.new.owner t.new.shares c.sync_owner.ensures.host c.sync_owner.ensures.known c.sync_owner.ensures.books c.sync_owner.ensures.knows) (came_own hashes l c.self.inside.shares t.result.0 t.result.1 t.new.shares came)
