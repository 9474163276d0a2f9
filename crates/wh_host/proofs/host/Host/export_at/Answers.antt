use Rattle.std.proofs.lemmas.Option.{IfSome_then}
use Rattle.wh_host.specs.Hosting.{loaded_as}
use Rattle.wh_host.proofs.Exporters.{no_export_there, no_module_known}
use Rattle.wh_host.proofs.host.Host.export_at.Goals as goal

pub returns-in-Some-clause-some : goal.returns-in-Some-clause-some
returns-in-Some-clause-some c =
    IfSome_then c.exported_at.result c.exported_at.ensures.some (λ x is w st. (loaded_as c.in-Some.module.now, c.in-Some.ensures w st, is))

pub returns-in-Some-clause-none : goal.returns-in-Some-clause-none
returns-in-Some-clause-none c = no_export_there c.args.self.now c.args.of.number c.args.at c.in-Some.module.now c.exported_at.result c.in-Some.ensures c.exported_at.ensures.none

pub returns-in-None-clause-none : goal.returns-in-None-clause-none
returns-in-None-clause-none c = no_module_known c.args.self.now c.args.of.number c.args.at c.in-None.ensures
