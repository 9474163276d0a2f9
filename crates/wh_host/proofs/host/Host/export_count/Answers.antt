use Rattle.std.proofs.Common.{ap, ◌∙◌}
use Rattle.wh_syntax.specs.declared.module.Module.{Module}
use Rattle.wh_host.proofs.Exporters.{exports_counted}
use Rattle.wh_host.proofs.host.Host.export_count.Goals as goal

pub returns-in-Some : goal.returns-in-Some
returns-in-Some c w st =
    exports_counted w c.args.of.number c.func_count.result c.in-Some.module.now c.deref.result.now (c.in-Some.ensures w st) (c.deref.ensures.value ∙ ap (λ (m : Module). m.exports.items) c.module.ensures.same) c.func_count.ensures
