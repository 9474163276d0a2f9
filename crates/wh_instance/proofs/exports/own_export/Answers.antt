use Rattle.std.proofs.Common.{IfNone, sym, ap, subst, ◌∙◌}
use Rattle.wh_syntax.specs.declared.module.Module.{Module}
use Rattle.wh_syntax.specs.View.{view_type}
use Rattle.wh_call.specs.Exports.{Exports, LacksFunc}
use Rattle.wh_instance.specs.CallsByName.{NamesOnly, NamesNone}
use Rattle.wh_instance.proofs.Named.{named_own, named_only, named_host, named_none, none_only, names_differ}
use Rattle.wh_instance.proofs.exports.own_export.Goals as goal

pub returns-in_err-index-clause-only : goal.returns-in_err-index-clause-only
returns-in_err-index-clause-only c =
    let l = c.args.linked.now in
    let es = c.deref.ensures.value ∙ ap (λ (m : Module). m.exports.items) c.module.ensures.same in
    let none = named_none l c.args.name.now
    (subst (λ xs. LacksFunc xs c.args.name.now) es c.in_err-index.ensures.none) in
    subst (NamesOnly l c.args.name.now) (sym c.from_residual.ensures) (none_only l c.args.name.now none)

pub returns-in_err-index-clause-none : goal.returns-in_err-index-clause-none
returns-in_err-index-clause-none c =
    let l = c.args.linked.now in
    let es = c.deref.ensures.value ∙ ap (λ (m : Module). m.exports.items) c.module.ensures.same in
    let none = named_none l c.args.name.now
    (subst (λ xs. LacksFunc xs c.args.name.now) es c.in_err-index.ensures.none) in
    subst (λ o. IfNone o (NamesNone l c.args.name.now)) (sym c.from_residual.ensures) none

pub returns-in-Some-clause-some : goal.returns-in-Some-clause-some
returns-in-Some-clause-some c =
    let es = c.deref.ensures.value ∙ ap (λ (m : Module). m.exports.items) c.module.ensures.same in
    named_own c.args.linked.now c.args.name.now c.in_ok-index.index (view_type c.in-Some.field-0.now)
    (subst (λ xs. Exports xs c.args.name.now c.in_ok-index.index) es c.in_ok-index.ensures.some) c.in-Some.ensures.some

pub returns-in-Some-clause-only : goal.returns-in-Some-clause-only
returns-in-Some-clause-only c =
    let l = c.args.linked.now in
    let es = c.deref.ensures.value ∙ ap (λ (m : Module). m.exports.items) c.module.ensures.same in
    named_only l c.args.name.now c.in_ok-index.index
    (names_differ l c.module.result.now c.module.ensures.same c.module.ensures.sound)
    (subst (λ xs. Exports xs c.args.name.now c.in_ok-index.index) es c.in_ok-index.ensures.some)

pub returns-in-None-clause-only : goal.returns-in-None-clause-only
returns-in-None-clause-only c =
    let l = c.args.linked.now in
    let es = c.deref.ensures.value ∙ ap (λ (m : Module). m.exports.items) c.module.ensures.same in
    none_only l c.args.name.now (named_host l c.args.name.now c.in_ok-index.index
    (names_differ l c.module.result.now c.module.ensures.same c.module.ensures.sound)
    (subst (λ xs. Exports xs c.args.name.now c.in_ok-index.index) es c.in_ok-index.ensures.some) c.in-None.ensures.none)

pub returns-in-None-clause-none : goal.returns-in-None-clause-none
returns-in-None-clause-none c =
    let l = c.args.linked.now in
    let es = c.deref.ensures.value ∙ ap (λ (m : Module). m.exports.items) c.module.ensures.same in
    named_host l c.args.name.now c.in_ok-index.index
    (names_differ l c.module.result.now c.module.ensures.same c.module.ensures.sound)
    (subst (λ xs. Exports xs c.args.name.now c.in_ok-index.index) es c.in_ok-index.ensures.some) c.in-None.ensures.none
