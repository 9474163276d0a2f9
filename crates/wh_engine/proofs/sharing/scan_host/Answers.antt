use Rattle.std.proofs.Common.{◌≡◌, inl, inr, refl, subst, true}
use Rattle.wh_host.specs.Backing.{KeepsBacking}
use Rattle.wh_host.specs.Paging.{MovesOnly}
use Rattle.wh_scheduler.specs.InHand.{OwnedState}
use Rattle.wh_cell.specs.Scanned.{IsScanned}
use Rattle.std.specs.Prelude.{Option, ℕ}
use Rattle.wh_engine.specs.Draining.{CountsPass}
use Rattle.wh_engine.proofs.Turned.{at_err_of, at_ok_of, some_of}
use Rattle.wh_engine.proofs.sharing.scan_host.Goals as goal

pub returns-then-is_ok-clause-moves : goal.returns-then-is_ok-clause-moves
returns-then-is_ok-clause-moves g c = at_ok_of c.scan.result c.if-is_ok.ensures.value c.scan.ensures.moves

pub returns-then-is_ok-clause-scans : goal.returns-then-is_ok-clause-scans
returns-then-is_ok-clause-scans g c =
    let s = some_of c.scan.result c.if-is_ok.ensures.value c.scan.ensures.scans c.scan.ensures.books in
    (s.0, s.1, inl (c.scan.ensures.own, s.2))

pub returns-clause-moves : goal.returns-clause-moves
returns-clause-moves g c =
    let same = at_err_of c.scan.result c.if-is_ok.ensures.value c.scan.ensures.err in
    subst (λ (o : OwnedState g.row.D.Denot). MovesOnly o.host c.scan_here.new.self.host) same c.scan_here.ensures.moves

pub returns-clause-backing : goal.returns-clause-backing
returns-clause-backing g c =
    let same = at_err_of c.scan.result c.if-is_ok.ensures.value c.scan.ensures.err in
    subst (λ (o : OwnedState g.row.D.Denot). KeepsBacking o.host.space c.scan_here.new.self.host.space) same c.scan_here.ensures.backing

pub returns-clause-device : goal.returns-clause-device
returns-clause-device g c =
    let same = at_err_of c.scan.result c.if-is_ok.ensures.value c.scan.ensures.err in
    subst (λ (o : OwnedState g.row.D.Denot). c.scan_here.new.self.device ≡ o.device) same c.scan_here.ensures.device

pub returns-clause-scans : goal.returns-clause-scans
returns-clause-scans g c =
    let same = at_err_of c.scan.result c.if-is_ok.ensures.value c.scan.ensures.err in
    let s = c.scan_here.ensures in
    subst (λ (o : OwnedState g.row.D.Denot). (offered : Option ℕ) × IsScanned (g.H.PageHash.hashes c.args.hasher) o.host offered c.scan_here.new.self.host × CountsPass true o offered c.scan_here.new.self) same
    (c.scan_here.result, s.scans, inr (refl, s.own, s.books))
