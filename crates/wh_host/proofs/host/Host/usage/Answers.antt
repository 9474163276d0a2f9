use Rattle.wh_host.specs.Reporting.{view_usage}
use Rattle.wh_host.proofs.Reports.{usage_is}
use Rattle.wh_host.proofs.Fields.{host_of, shown_host}
use Rattle.wh_host.proofs.host.Host.usage.Goals as goal

pub returns : goal.returns
returns c w st = usage_is (host_of c.self.inside) (view_usage c.usage_over.result) c.usage_over.ensures w (shown_host w c.self.view_is st)
