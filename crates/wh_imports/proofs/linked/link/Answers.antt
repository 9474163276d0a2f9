use Rattle.std.proofs.Common.{map, subst}
use Rattle.wh_syntax.specs.declared.module.Module.{Module}
use Rattle.wh_syntax.specs.View.{view_module}
use Rattle.wh_bodies.specs.View.{view_side}
use Rattle.wh_validate.specs.CheckedBodies.{IsChecked}
use Rattle.wh_imports.specs.Records.{AreRecords}
use Rattle.wh_imports.specs.Resolving.{IsResolved}
use Rattle.wh_imports.proofs.RecordLemmas.{decoded_named, decoded_many}
use Rattle.wh_imports.proofs.linked.link.Goals as goal

pub records_of-requires-clause-named : goal.records_of-requires-clause-named
records_of-requires-clause-named c = decoded_named c.module-2.result.now _ c.module-2.ensures.sound

pub records_of-requires-clause-same_count : goal.records_of-requires-clause-same_count
records_of-requires-clause-same_count c = decoded_many c.module-2.result.now _ c.module-2.ensures.sound

pub invariant_of-result : goal.invariant_of-result
invariant_of-result c = (
  subst (λ (m : Module). IsChecked (view_module m) (map view_side c.args.valid.tables)) c.module.ensures.same c.module.ensures.sound,
  subst (λ (m : Module). IsResolved (view_module m) c.in_ok-resolved.resolved.funcs.items c.in_ok-resolved.resolved.globals.items) c.module.ensures.same c.in_ok-resolved.ensures.resolved,
  subst (λ (m : Module). AreRecords (view_module m) c.in_ok-records.records.items) c.module-2.ensures.same c.in_ok-records.ensures.ok,
)
