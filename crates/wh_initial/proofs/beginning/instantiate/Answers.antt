use Rattle.std.proofs.Common.{rules, ◌^◌, ◌<◌, IfOk, IfErr, map, sym, subst}
use Rattle.wh_syntax.specs.View.{view_module}
use Rattle.wh_bodies.specs.View.{view_side}
use Rattle.wh_imports.specs.Resolving.{IsResolved}
use Rattle.wh_initial.specs.Given.{view_parameters}
use Rattle.wh_initial.specs.Begins.{Instantiates, RefusesInstance}
use Rattle.wh_initial.proofs.Preparing.{prepared, ok_turned, err_turned}
use Rattle.wh_initial.proofs.beginning.instantiate.Goals as goal

pub begin-requires : goal.begin-requires
begin-requires c =
    let m = c.module.result.now in
    let p = view_parameters c.args.parameters in
    let linked = c.args.linked.now in
    let resolved = subst (IsResolved (view_module m) linked.funcs) (sym c.globals.ensures) c.module.ensures.resolved in
    let base : p.base < 2 ^ 32 = search rules in
    let salt : p.salt < 2 ^ 64 = search rules in
    prepared m c.globals.result.now linked.funcs (map view_side linked.valid.tables) p c.module.ensures.sound resolved base salt

pub returns-clause-ok : goal.returns-clause-ok
returns-clause-ok c =
    let m = c.module.result.now in
    let p = view_parameters c.args.parameters in
    let linked = c.args.linked.now in
    let resolved = subst (IsResolved (view_module m) linked.funcs) (sym c.globals.ensures) c.module.ensures.resolved in
    let base : p.base < 2 ^ 32 = search rules in
    let salt : p.salt < 2 ^ 64 = search rules in
    let turned = ok_turned m c.globals.result.now linked.funcs (map view_side linked.valid.tables) p c.module.ensures.sound resolved base salt c.begin.result c.begin.ensures.ok in
    subst (λ w. IfOk c.begin.result (Instantiates (view_module w) p)) c.module.ensures.same turned

pub returns-clause-err : goal.returns-clause-err
returns-clause-err c =
    let m = c.module.result.now in
    let p = view_parameters c.args.parameters in
    let linked = c.args.linked.now in
    let resolved = subst (IsResolved (view_module m) linked.funcs) (sym c.globals.ensures) c.module.ensures.resolved in
    let base : p.base < 2 ^ 32 = search rules in
    let salt : p.salt < 2 ^ 64 = search rules in
    let turned = err_turned m c.globals.result.now linked.funcs (map view_side linked.valid.tables) p c.module.ensures.sound resolved base salt c.begin.result c.begin.ensures.err in
    subst (λ w. IfErr c.begin.result (RefusesInstance (view_module w) p)) c.module.ensures.same turned
