use Rattle.wh_engine.proofs.Runs.{stays_told}
use Rattle.wh_engine.proofs.Turned.{pass_told, told_before}
use Rattle.wh_engine.proofs.script_host.ScriptHost.scan.Goals as goal

pub returns-clause-stands : goal.returns-clause-stands
returns-clause-stands g c =
    rw (← c.self.view_is) (stays_told _ c.scan_host-lacked.new.host _ c.scan_host-lacked.ensures.moves c.scan_host-lacked.ensures.backing)

pub returns-clause-scans : goal.returns-clause-scans
returns-clause-scans g c =
    rw (← c.self.view_is) (
    let s = c.scan_host-lacked.ensures.scans in
    (s.0, s.1, pass_told c.self.inside.lacked_threads c.scan_host-lacked.result c.self.inside.host c.scan_host-lacked.new.host s.0 s.2))

pub returns-clause-lacking : goal.returns-clause-lacking
returns-clause-lacking g c = rw (← c.self.view_is) (told_before c.self.inside.lacked_threads c.scan_host-lacked.result)
