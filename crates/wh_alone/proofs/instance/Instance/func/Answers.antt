use Rattle.std.proofs.Common.{IfSome, IfNone, ap, subst, ◌∙◌}
use Rattle.wh_syntax.specs.declared.module.Module.{Module}
use Rattle.wh_alone.specs.Journal.{InstanceState}
use Rattle.wh_call.specs.Exports.{Exports, LacksFunc}
use Rattle.wh_alone.proofs.instance.Instance.func.Goals as goal

pub returns-clause-some : goal.returns-clause-some
returns-clause-some c =
    subst (λ xs. IfSome c.exported.result (Exports xs c.args.name.now)) (c.deref.ensures.value ∙ ap (λ (m : Module). m.exports.items) c.module.ensures.same ∙ ap (λ (i : InstanceState). i.kept.linked.valid.decoded.exports.items) c.self.view_is) c.exported.ensures.some

pub returns-clause-none : goal.returns-clause-none
returns-clause-none c =
    subst (λ xs. IfNone c.exported.result (LacksFunc xs c.args.name.now)) (c.deref.ensures.value ∙ ap (λ (m : Module). m.exports.items) c.module.ensures.same ∙ ap (λ (i : InstanceState). i.kept.linked.valid.decoded.exports.items) c.self.view_is) c.exported.ensures.none
