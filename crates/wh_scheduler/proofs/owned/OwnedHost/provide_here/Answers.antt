use Rattle.std.proofs.Common.{◌≡◌, ◌+◌, ◌∙◌, Some, ap, subst, sym}
use Rattle.std.specs.Prelude.{OnOk, Ok}
use Rattle.wh_model.specs.declared.memory.Need.{Need}
use Rattle.wh_host_model.specs.Host.{AwaitsFrame}
use Rattle.wh_host.specs.Paging.{MovesAnyhow, MovesWith, WaitsFor, provide_fault}
use Rattle.wh_swap.specs.DeviceCalls.{call_faults}
use Rattle.wh_cell.specs.Calling.{IsMadeReady}
use Rattle.wh_cell.specs.Counted.{countable, evictions_of}
use Rattle.wh_cell.specs.LeftByOwner.{LeftState}
use Rattle.wh_cell.specs.Locking.{BooksState}
use Rattle.wh_scheduler.specs.InHand.{AreSums}
use Rattle.wh_scheduler.proofs.InHand.{counts_on, device_is, device_was, in_hand_still, on_owned, served_on, where_some}
use Rattle.wh_scheduler.proofs.OwnTurns.{works_by_evictions, works_sums}
use Rattle.wh_scheduler.proofs.Scans.{sums_now}
use Rattle.wh_scheduler.proofs.owned.OwnedHost.provide_here.Goals as goal

pub invariant_of-self : goal.invariant_of-self
invariant_of-self g c =
    let t = c.provide_in_hand-provided in
    in_hand_still c.sync_owner.new.owner t.new.shares c.sync_owner.new.self t.new.backing (c.sync_owner.ensures.known ∙ t.ensures.knows) c.sync_owner.ensures.knows
    (subst (λ (b : BooksState). AreSums b t.new.shares) (sym c.sync_owner.ensures.books)
    (works_sums _ _ _ _ _ _ t.ensures.only (works_by_evictions _ _ _ _ _ t.ensures.books t.ensures.own)
    (sums_now c.self.inside.locked c.self.inside.backing c.self.inside.owner c.self.inside.shares c.in-Some.locked c.self.invariant c.in-Some.is)))

pub returns-clause-serves : goal.returns-clause-serves
returns-clause-serves g c =
    let t = c.provide_in_hand-provided in
    served_on g.D.SwapDev.keeps g.D.SwapDev.honest g.D.SwapDev.faults (call_faults t.result) c.args.self.now.device c.sync_owner.new.owner.device c.in-Some-backing.backing.device t.new.backing.device
    (device_was c.self.inside.locked c.self.inside.backing c.self.inside.owner c.self.inside.shares c.args.self.now c.in-Some-backing.backing c.self.invariant c.self.view_is c.in-Some-backing.is)
    (device_is c.sync_owner.new.owner t.new.locked c.sync_owner.new.self t.new.backing c.sync_owner.ensures.knows c.sync_owner.ensures.known t.ensures.knows) t.ensures.serves

pub returns-clause-moves : goal.returns-clause-moves
returns-clause-moves g c =
    let t = c.provide_in_hand-provided in
    where_some _ c.sync_owner.new.owner.device t.new.backing.device
    (device_is c.sync_owner.new.owner t.new.locked c.sync_owner.new.self t.new.backing c.sync_owner.ensures.knows c.sync_owner.ensures.known t.ensures.knows)
    (λ right. on_owned (λ h h2. MovesWith h c.args.id AwaitsFrame (provide_fault t.result) h2) c.self.inside.locked c.self.inside.backing c.self.inside.owner c.self.inside.shares c.args.self.now c.in-Some.locked t.new.locked.host c.sync_owner.new.owner.host
    c.self.invariant c.self.view_is c.in-Some.is (sym c.sync_owner.ensures.host ∙ sym (ap (λ (z : LeftState g.row.D.Denot). z.host) c.sync_owner.ensures.knows)) (t.ensures.moves right))

pub returns-clause-anyhow : goal.returns-clause-anyhow
returns-clause-anyhow g c =
    let t = c.provide_in_hand-provided in
    on_owned (λ h h2. MovesAnyhow h c.args.id AwaitsFrame (provide_fault t.result) h2) c.self.inside.locked c.self.inside.backing c.self.inside.owner c.self.inside.shares c.args.self.now c.in-Some.locked t.new.locked.host c.sync_owner.new.owner.host
    c.self.invariant c.self.view_is c.in-Some.is (sym c.sync_owner.ensures.host ∙ sym (ap (λ (z : LeftState g.row.D.Denot). z.host) c.sync_owner.ensures.knows)) t.ensures.anyhow

pub returns-clause-ready : goal.returns-clause-ready
returns-clause-ready g c =
    let t = c.provide_in_hand-provided in
    on_owned (λ h h2. OnOk t.result (IsMadeReady c.args.id h h2)) c.self.inside.locked c.self.inside.backing c.self.inside.owner c.self.inside.shares c.args.self.now c.in-Some.locked t.new.locked.host c.sync_owner.new.owner.host
    c.self.invariant c.self.view_is c.in-Some.is (sym c.sync_owner.ensures.host ∙ sym (ap (λ (z : LeftState g.row.D.Denot). z.host) c.sync_owner.ensures.knows)) t.ensures.ready

pub returns-clause-idle : goal.returns-clause-idle
returns-clause-idle g c =
    let t = c.provide_in_hand-provided in
    let was = device_was c.self.inside.locked c.self.inside.backing c.self.inside.owner c.self.inside.shares c.args.self.now c.in-Some-backing.backing c.self.invariant c.self.view_is c.in-Some-backing.is in
    let is = device_is c.sync_owner.new.owner t.new.locked c.sync_owner.new.self t.new.backing c.sync_owner.ensures.knows c.sync_owner.ensures.known t.ensures.knows in
    on_owned (λ h h2. (((need : Need) → ¬ (WaitsFor h c.args.id need)) → (h2 ≡ h) × (c.sync_owner.new.owner.device ≡ c.args.self.now.device) × (t.result ≡ Ok 0))) c.self.inside.locked c.self.inside.backing c.self.inside.owner c.self.inside.shares c.args.self.now c.in-Some.locked t.new.locked.host c.sync_owner.new.owner.host
    c.self.invariant c.self.view_is c.in-Some.is (sym c.sync_owner.ensures.host ∙ sym (ap (λ (z : LeftState g.row.D.Denot). z.host) c.sync_owner.ensures.knows))
    (λ none. (let x = t.ensures.idle none in (x.0, is ∙ ap (λ d. Some d) x.1 ∙ sym was, x.2)))

pub returns-clause-books : goal.returns-clause-books
returns-clause-books g c =
    let t = c.provide_in_hand-provided in
    counts_on (λ b o. c.sync_owner.new.self.books ≡ record b { evictions = b.evictions + countable o.evictions (evictions_of t.result) }) c.self.inside.locked c.self.inside.owner c.self.inside.shares c.args.self.now c.in-Some.locked c.self.view_is c.in-Some.is
    (c.sync_owner.ensures.books ∙ t.ensures.books)

pub returns-clause-own : goal.returns-clause-own
returns-clause-own g c =
    let t = c.provide_in_hand-provided in
    counts_on (λ b o. t.new.shares.owner ≡ record o { evictions = o.evictions + countable o.evictions (evictions_of t.result) }) c.self.inside.locked c.self.inside.owner c.self.inside.shares c.args.self.now c.in-Some.locked c.self.view_is c.in-Some.is
    t.ensures.own
