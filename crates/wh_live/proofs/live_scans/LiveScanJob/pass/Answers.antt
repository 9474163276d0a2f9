use Rattle.std.proofs.Common.{sym, subst}
use Rattle.wh_cell.specs.Locking.{IsInStep, LockedState}
use Rattle.wh_cell.specs.Scanned.{ScansLocked}
use Rattle.wh_live.specs.Passed.{PassOver}
use Rattle.wh_live.proofs.live_scans.LiveScanJob.pass.Goals as goal

pub of-requires : goal.of-requires
of-requires g c =
    let before = c.deref_mut.result.now in
    let behind = c.deref.result.now in
    let hashes = g.H.PageHash.hashes c.args.self.now.scans.hasher in
    let made : PassOver g.D.SwapDev.held g.D.SwapDev.keeps g.D.SwapDev.honest g.D.SwapDev.faults hashes c.scan-offered.result = record {
      before = before;
      behind = behind;
      count = c.args.helper.now.count;
      counted = c.scan-offered.new.scanner.count;
      begins = subst (IsInStep g.D.SwapDev.held g.D.SwapDev.keeps g.D.SwapDev.honest g.D.SwapDev.faults)
          (sym c.deref_mut.ensures.value) c.lock-locked.ensures;
      scans = subst (λ (l : LockedState g.row.D.Denot). ScansLocked hashes before c.args.helper.now.count c.scan-offered.result l c.scan-offered.new.scanner.count)
          (sym c.deref.ensures) c.scan-offered.ensures.scans;
      ends = c.invariant.ensures;
    } in
    ∣ made ∣₁
