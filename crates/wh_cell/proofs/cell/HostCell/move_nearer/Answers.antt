use Rattle.std.proofs.Common.{sym, subst}
use Rattle.wh_space_model.specs.{IsProvided}
use Rattle.wh_cell.specs.Locking.{IsInStep, LockedState}
use Rattle.wh_cell.proofs.cell.HostCell.move_nearer.Goals as goal

pub returns-in-Ok-clause-ready : goal.returns-in-Ok-clause-ready
returns-in-Ok-clause-ready g c is =
    let before = c.deref_mut-2.result.now in (
      before,
      c.deref-2.result.now,
      subst (IsInStep g.D.SwapDev.held g.D.SwapDev.keeps g.D.SwapDev.honest g.D.SwapDev.faults)
          (sym c.deref_mut-2.ensures.value) c.lock_to_work-locked.ensures,
      c.invariant.ensures,
      λ need waits. (
        c.in-Ok.field-0,
        subst (λ (l : LockedState g.row.D.Denot). IsProvided before.host.space c.args.id.place need c.in-Ok.field-0 l.host.space)
            (sym c.deref-2.ensures) (c.in-Ok.ensures.right need waits),
      ),
    )
