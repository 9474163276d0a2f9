use Rattle.std.proofs.Common.{sym, ap, subst, ◌∙◌, length}
use Rattle.wh_desk.specs.declared.trace.Trace.{Trace}
use Rattle.wh_desk.specs.Bounded.{OwnsAll}
use Rattle.wh_desk.specs.Permits.{OwnershipState}
use Rattle.wh_desk.specs.Tracing.{left_by, owned_in}
use Rattle.wh_desk.proofs.Owning.{new_owns}
use Rattle.wh_desk.proofs.Traced.{begins_so}
use Rattle.wh_desk.proofs.desk.HostDesk.new.Goals as goal

pub invariant_of-desk : goal.invariant_of-desk
invariant_of-desk g c =
    let is = sym c.open-record.ensures in (
      begins_so g.D.SwapDev.keeps g.D.SwapDev.honest g.D.SwapDev.faults c.open-record.result c.args.owner c.open-record.ensures c.requires.new,
      ap (λ (t : Trace g.row.D.Denot). left_by t.first t.entries) is,
      c.in_ok-ownership.ensures.nothing ∙ ap (λ (t : Trace g.row.D.Denot). owned_in t.entries) is,
      c.open-replies.ensures.total ∙ ap (λ (t : Trace g.row.D.Denot). length t.entries) is,
      subst (λ (z : OwnershipState). OwnsAll z c.args.owner.host) (sym c.in_ok-ownership.ensures.nothing) (new_owns c.args.owner.host c.requires.new),
      c.in_ok-ownership.ensures.room,
    )
