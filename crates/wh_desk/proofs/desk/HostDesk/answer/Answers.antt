use Rattle.std.proofs.Common.{◌≡◌, sym, subst}
use Rattle.wh_cell.specs.Locking.{IsInStep, now_of}
use Rattle.wh_desk.specs.declared.trace.TraceEntry.{TraceEntry}
use Rattle.wh_desk.specs.Bounded.{OwnsAll}
use Rattle.wh_desk.specs.Permits.{OwnershipState, ownership_of}
use Rattle.wh_desk.specs.Questions.{question_of}
use Rattle.wh_desk.specs.Tracing.{Follows, Replies, entry, with_entry}
use Rattle.wh_desk.proofs.Owning.{replied_owns}
use Rattle.wh_desk.proofs.Traced.{counted_so, entered, follows_so, found_owned, goes_on, left_so, owned_so, replies_so, told}
use Rattle.wh_desk.proofs.desk.HostDesk.answer.Goals as goal

module _ (g : _) (c : goal.After-drop-guard g) where
  abbrev e : TraceEntry g.row.D.Denot
  e = entry c.args.who (question_of c.args.request) c.respond-reply.result c.sync_owner.new.owner c.respond-reply.new.owner

  is : c.change.new.self ≡ with_entry e c.self.inside.record
  is = entered c.args.who _ c.args.request _ c.respond-reply.result _ c.sync_owner.new.owner _ c.respond-reply.new.owner c.self.inside.record c.change.new.self c.change.ensures c.of-asked.ensures c.of.ensures c.of-at.ensures c.of-2.ensures

  at : c.sync_owner.new.owner ≡ now_of c.deref_mut-locked.result.now
  at = told c.deref_mut-locked.result.now c.sync_owner.new.self c.sync_owner.new.owner c.sync_owner.ensures.knows c.sync_owner.ensures.host c.sync_owner.ensures.known

  follows : Follows g.D.SwapDev.keeps g.D.SwapDev.honest g.D.SwapDev.faults c.self.inside.record.first c.self.inside.record.entries e
  follows =
      follows_so g.D.SwapDev.held g.D.SwapDev.keeps g.D.SwapDev.honest g.D.SwapDev.faults c.self.inside.record e c.deref_mut-locked.result.now c.self.inside.owner _
      c.self.invariant.1 c.self.invariant.2
      (subst (IsInStep g.D.SwapDev.held g.D.SwapDev.keeps g.D.SwapDev.honest g.D.SwapDev.faults) (sym c.deref_mut-locked.ensures.value) c.lock-guard.ensures)
      at c.sync_owner.ensures.came c.respond-reply.ensures.right

  owns : OwnsAll (ownership_of c.self.inside.ownership) c.sync_owner.new.owner.host
  owns = found_owned g.D.SwapDev.keeps g.D.SwapDev.honest g.D.SwapDev.faults (ownership_of c.self.inside.ownership) c.self.inside.owner c.sync_owner.new.owner c.deref_mut-locked.result.now at c.sync_owner.ensures.came c.self.invariant.4

pub respond-reply-requires-clause-owns : goal.respond-reply-requires-clause-owns
respond-reply-requires-clause-owns g c =
    found_owned g.D.SwapDev.keeps g.D.SwapDev.honest g.D.SwapDev.faults (ownership_of c.self.inside.ownership) c.self.inside.owner c.sync_owner.new.owner c.deref_mut-locked.result.now
    (told c.deref_mut-locked.result.now c.sync_owner.new.self c.sync_owner.new.owner c.sync_owner.ensures.knows c.sync_owner.ensures.host c.sync_owner.ensures.known)
    c.sync_owner.ensures.came c.self.invariant.4

pub invariant_of-self : goal.invariant_of-self
invariant_of-self g c = (
  goes_on g.D.SwapDev.keeps g.D.SwapDev.honest g.D.SwapDev.faults c.self.inside.record c.change.new.self (e g c) c.self.invariant.0 (follows g c) (is g c),
  left_so (e g c) c.self.inside.record c.change.new.self (is g c),
  owned_so (e g c) c.self.inside.record c.change.new.self _ _ (is g c) c.self.invariant.2 c.respond-reply.ensures.owned,
  counted_so (e g c) c.self.inside.record c.change.new.self _ _ (is g c) c.self.invariant.3 c.add.ensures.total,
  subst (λ (z : OwnershipState). OwnsAll z c.respond-reply.new.owner.host) (sym c.respond-reply.ensures.owned)
      (replied_owns g.D.SwapDev.keeps g.D.SwapDev.honest g.D.SwapDev.faults _ (e g c) c.respond-reply.ensures.right (owns g c)),
  c.respond-reply.ensures.room,
)

pub returns-clause-replies : goal.returns-clause-replies
returns-clause-replies g c =
    subst (λ t. Replies g.D.SwapDev.keeps g.D.SwapDev.honest g.D.SwapDev.faults t c.args.who (question_of c.args.request) c.respond-reply.result c.change.new.self)
    c.self.view_is
    (replies_so g.D.SwapDev.keeps g.D.SwapDev.honest g.D.SwapDev.faults c.self.inside.record c.change.new.self (e g c) (follows g c) (is g c))
