use Rattle.std.proofs.Common.{◌≡◌, ◌<◌, ◌≤◌, ◌-◌, ◌+◌, length, map, slice_get, sym, ap, subst, ◌∙◌, arith, IfNone}
use Rattle.wh_syntax.specs.declared.module.Module.{Module}
use Rattle.wh_syntax.specs.View.{view_module}
use Rattle.wh_bodies.specs.View.{view_side}
use Rattle.wh_validate.specs.CheckedBodies.{IsChecked}
use Rattle.wh_call.specs.Arguments.{LacksOwn}
use Rattle.wh_call.proofs.Callable.{refused_low, refused_high, type_there, typed_at}
use Rattle.wh_call.proofs.arguments.own_type.Goals as goal

pub returns-in_err-place-clause-none : goal.returns-in_err-place-clause-none
returns-in_err-place-clause-none c =
    let same = ap length c.funcs.ensures in
    let low : c.args.func < length c.args.linked.now.funcs = omega (arith, c.in_err-place.ensures, same) in
    subst (λ o. IfNone o (LacksOwn c.args.linked.now c.args.func)) (sym c.from_residual.ensures)
    (refused_low c.args.linked.now c.args.func low)

pub returns-then-place-len-clause-none : goal.returns-then-place-len-clause-none
returns-then-place-len-clause-none c =
    let same = ap length c.funcs.ensures in
    let len = c.len.ensures in
    let decoded = ap (λ (m : Module). length m.funcs.items) c.module-module.ensures.same in
    let beyond : length c.args.linked.now.valid.decoded.funcs.items ≤ c.args.func - length c.args.linked.now.funcs = omega (arith, c.if-place-len.true, c.in_ok-place.ensures, same, len, decoded) in
    refused_high c.args.linked.now c.args.func beyond

pub func_type_at-requires : goal.func_type_at-requires
func_type_at-requires c =
    let l = c.args.linked.now in
    let same = c.module-module.ensures.same in
    let sound = subst (λ m. IsChecked (view_module m)
    (map view_side l.valid.tables)) same c.module-module.ensures.sound in
    let at = ap (λ (m : Module). slice_get m.funcs.items c.in_ok-place.place) (sym same)
    ∙ ap (λ xs. slice_get xs c.in_ok-place.place) (sym c.deref-2.ensures.value) ∙ c.index_at.ensures in
    let low = type_there l sound c.in_ok-place.place c.index_at.result at in
    let types = ap (λ (m : Module). length m.types.items) same in
    let all = ap length c.deref.ensures.value in
    omega (arith, low, types, all)

pub returns-clause-some : goal.returns-clause-some
returns-clause-some c =
    let l = c.args.linked.now in
    let same = c.module-module.ensures.same in
    let sound = subst (λ m. IsChecked (view_module m)
    (map view_side l.valid.tables)) same c.module-module.ensures.sound in
    let at = ap (λ (m : Module). slice_get m.funcs.items c.in_ok-place.place) (sym same)
    ∙ ap (λ xs. slice_get xs c.in_ok-place.place) (sym c.deref-2.ensures.value) ∙ c.index_at.ensures in
    let typed = ap (λ (m : Module). slice_get m.types.items c.index_at.result) (sym same)
    ∙ ap (λ xs. slice_get xs c.index_at.result) (sym c.deref.ensures.value) ∙ c.func_type_at.ensures in
    let hosts = ap length c.funcs.ensures in
    let index : c.args.func ≡ length l.funcs + c.in_ok-place.place = omega (arith, c.in_ok-place.ensures.0, c.in_ok-place.ensures.1, hosts) in
    typed_at l sound c.args.func c.in_ok-place.place c.index_at.result c.func_type_at.result.now index at typed
