use Rattle.std.proofs.Common.{sym, subst}
use Rattle.std.specs.Prelude.{IfSome}
use Rattle.wh_host.specs.Hosting.{HostState}
use Rattle.wh_host.specs.Showing.{RepresentsReached}
use Rattle.wh_cell.proofs.locked.Locked.transcript.Goals as goal

pub returns-clause-replays : goal.returns-clause-replays
returns-clause-replays g c honest =
    let s = c.invariant.ensures in
    c.transcript.ensures.replays
    (subst (λ (h : HostState). RepresentsReached h) (sym c.host.ensures)
    (s.led (subst (λ x. IfSome x (λ device. g.D.SwapDev.honest device)) s.agrees.has honest)))
