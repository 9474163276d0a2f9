use Rattle.std.proofs.Common.{None, ap, ◌∙◌}
use Rattle.wh_syntax.specs.declared.module.Module.{Module}
use Rattle.wh_host.proofs.ExportsThere.{export_there, has_some_type, shown_export}
use Rattle.wh_host.proofs.exporting.exported_at.Goals as goal

pub returns-in_default-clause-none : goal.returns-in_default-clause-none
returns-in_default-clause-none c =
    export_there c.args.linked.now c.deref.result.now c.args.at None (c.deref.ensures.value ∙ ap (λ (m : Module). m.exports.items) c.module-module.ensures.same) c.in_default.ensures

pub returns-in_default-type_of-clause-none : goal.returns-in_default-type_of-clause-none
returns-in_default-type_of-clause-none c =
    absurd (has_some_type c.args.linked.now c.module-module.result.now c.deref.result.now c.args.at c.in-Some.export.now c.module-module.ensures.sound.context c.module-module.ensures.same c.deref.ensures.value c.module-module.ensures.sound.valid c.in-Some.ensures c.in_default-type_of.ensures.none)

pub returns-clause-some : goal.returns-clause-some
returns-clause-some c =
    shown_export c.args.linked.now c.module-module.result.now c.deref.result.now c.args.at c.in-Some.export.now c.in-Some-type_of.func_type.now c.as_str.result.now c.as_slice.result.now c.as_slice-2.result.now c.module-module.ensures.sound.context
    c.module-module.ensures.same c.deref.ensures.value c.module-module.ensures.sound.valid c.in-Some.ensures c.in-Some-type_of.ensures.some c.as_str.ensures.value c.as_slice.ensures c.as_slice-2.ensures
