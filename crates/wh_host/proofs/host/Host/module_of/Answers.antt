use Rattle.wh_host.proofs.Exporters.{module_found}
use Rattle.wh_host.proofs.Requests.{no_module_there}
use Rattle.wh_host.proofs.Fields.{host_of, shown_host}
use Rattle.wh_host.proofs.host.Host.module_of.Goals as goal

pub returns-in_default : goal.returns-in_default
returns-in_default c w st = no_module_there (host_of c.self.inside) w c.args.of.number (shown_host w c.self.view_is st) c.deref.ensures.value c.in_default.ensures

pub returns : goal.returns
returns c w st =
    module_found (host_of c.self.inside) w c.args.of.number c.in-Some.module_ref _ (shown_host w c.self.view_is st) c.deref.ensures.value c.in-Some.ensures c.module_at.ensures
