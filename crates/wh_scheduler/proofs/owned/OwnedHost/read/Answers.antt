use Rattle.std.proofs.Common.{◌≡◌, ◌∙◌, Option, Some, refl, ap, subst, sym}
use Rattle.std.specs.Prelude.{IfErr, IfSome, Result, Ok, Err, OnOk, length}
use Rattle.wh_host.specs.declared.error.ReadError.{ReadError}
use Rattle.wh_host.specs.Hosting.{HostState}
use Rattle.wh_host.specs.HostReads.{ReadsBytes, RefusesRead, read_faults}
use Rattle.wh_cell.specs.LeftByOwner.{LeftState}
use Rattle.wh_cell.specs.Locking.{BooksState}
use Rattle.wh_scheduler.specs.InHand.{AreSums}
use Rattle.wh_scheduler.proofs.InHand.{counts_on, device_is, device_was, in_hand_still, same_host, served_on, where_some}
use Rattle.wh_scheduler.proofs.Scans.{sums_now}
use Rattle.wh_scheduler.proofs.owned.OwnedHost.read.Goals as goal

-- what is said of the host in hand, where the device has read right, is said of what contracts see
seen_on : {D : Type 0} (honest : D → Type 0) (P : HostState → Type 0) (result : Result Unit ReadError) (h h2 : HostState) (new : Option D) (d2 : D) → new ≡ Some d2 → h ≡ h2
    → OnOk result (honest d2 → P h) → OnOk result (IfSome new (λ after. honest after → P h2))
seen_on honest P (Err e) h h2 new d2 is same right = tt
seen_on honest P (Ok done) h h2 new d2 is same right = where_some (λ after. honest after → P h2) new d2 is (λ was. subst P same (right was))

pub invariant_of-self : goal.invariant_of-self
invariant_of-self g c =
    let r = c.read-read in
    in_hand_still c.sync_owner.new.owner c.self.inside.shares c.sync_owner.new.self r.new.backing (c.sync_owner.ensures.known ∙ r.ensures.knows) c.sync_owner.ensures.knows
    (subst (λ (b : BooksState). AreSums b c.self.inside.shares) (sym (c.sync_owner.ensures.books ∙ r.ensures.books))
    (sums_now c.self.inside.locked c.self.inside.backing c.self.inside.owner c.self.inside.shares c.in-Some.locked c.self.invariant c.in-Some.is))

pub returns-clause-reads : goal.returns-clause-reads
returns-clause-reads g c =
    let r = c.read-read in
    seen_on g.D.SwapDev.honest (λ h. ReadsBytes h c.args.id c.args.at r.new.into) r.result c.in-Some.locked.host c.args.self.now.host c.sync_owner.new.owner.device r.new.backing.device
    (device_is c.sync_owner.new.owner r.new.self c.sync_owner.new.self r.new.backing c.sync_owner.ensures.knows c.sync_owner.ensures.known r.ensures.knows)
    (same_host c.self.inside.locked c.self.inside.backing c.self.inside.owner c.self.inside.shares c.args.self.now c.in-Some.locked c.self.invariant c.self.view_is c.in-Some.is) r.ensures.reads

pub returns-clause-err : goal.returns-clause-err
returns-clause-err g c =
    let r = c.read-read in
    subst (λ h. IfErr r.result (RefusesRead h c.args.id c.args.at (length c.args.into.now)))
    (same_host c.self.inside.locked c.self.inside.backing c.self.inside.owner c.self.inside.shares c.args.self.now c.in-Some.locked c.self.invariant c.self.view_is c.in-Some.is) r.ensures.err

pub returns-clause-host : goal.returns-clause-host
returns-clause-host g c =
    let same = same_host c.self.inside.locked c.self.inside.backing c.self.inside.owner c.self.inside.shares c.args.self.now c.in-Some.locked c.self.invariant c.self.view_is c.in-Some.is in
    ap (λ (z : LeftState g.row.D.Denot). z.host) c.sync_owner.ensures.knows ∙ c.sync_owner.ensures.host ∙ c.read-read.ensures.host ∙ same

pub returns-clause-serves : goal.returns-clause-serves
returns-clause-serves g c =
    let r = c.read-read in
    served_on g.D.SwapDev.keeps g.D.SwapDev.honest g.D.SwapDev.faults (read_faults r.result) c.args.self.now.device c.sync_owner.new.owner.device c.in-Some-backing.backing.device r.new.backing.device
    (device_was c.self.inside.locked c.self.inside.backing c.self.inside.owner c.self.inside.shares c.args.self.now c.in-Some-backing.backing c.self.invariant c.self.view_is c.in-Some-backing.is)
    (device_is c.sync_owner.new.owner r.new.self c.sync_owner.new.self r.new.backing c.sync_owner.ensures.knows c.sync_owner.ensures.known r.ensures.knows) r.ensures.serves

pub returns-clause-books : goal.returns-clause-books
returns-clause-books g c =
    counts_on (λ b o. c.sync_owner.new.self.books ≡ b) c.self.inside.locked c.self.inside.owner c.self.inside.shares c.args.self.now c.in-Some.locked c.self.view_is c.in-Some.is
    (c.sync_owner.ensures.books ∙ c.read-read.ensures.books)

pub returns-clause-own : goal.returns-clause-own
returns-clause-own g c =
    counts_on (λ b o. c.self.inside.shares.owner ≡ o) c.self.inside.locked c.self.inside.owner c.self.inside.shares c.args.self.now c.in-Some.locked c.self.view_is c.in-Some.is refl
