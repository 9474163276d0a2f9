use Rattle.wh_engine.proofs.Runs.{stays_so}
use Rattle.wh_engine.proofs.script_host.ScriptHost.epoch.Goals as goal

pub returns-clause-stands : goal.returns-clause-stands
returns-clause-stands g c = rw (← c.self.view_is) (stays_so _ c.epoch.new.self c.epoch.ensures.moves c.epoch.ensures.backing)
