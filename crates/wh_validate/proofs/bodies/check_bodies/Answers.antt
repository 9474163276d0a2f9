use Rattle.std.proofs.Common.{◌∷◌, [], map, get_or, refl, sym, ap, subst, arith, ◌∙◌, ◌+◌, ◌≢◌}
use Rattle.std.proofs.lemmas.List.{map-append}
use Rattle.wh_syntax.specs.View.{view_type, view_body}
use Rattle.wh_bodies.specs.View.{view_context, view_side}
use Rattle.wh_model.specs.declared.faults.ValidKind.TheVariants.{Memory}
use Rattle.wh_validate.specs.declared.error.ValidError.{ValidError}
use Rattle.wh_validate.proofs.Lists.{get_mapped}
use Rattle.wh_validate.proofs.BodyLemmas.{Rests, one_more_checked, all_checked, body_right, bad_body, blamed}
use Rattle.wh_validate.proofs.bodies.check_bodies.Goals as goal

pub loop-at-preserved : goal.loop-at-preserved
loop-at-preserved c =
    let k = c.loop-at.at in
    let context = view_context c.args.context.now in
    let funcs = c.args.funcs.now in
    let bodies = c.args.bodies.now in
    let x = get_or funcs k 0 in
    let given = c.index-context-funcs.result in
    let type = get_mapped view_type c.args.context.now.types.now x given (c.requires.own k 0 c.loop-at-test.true) in
    let same = c.requires.same_count in
    let more = one_more_checked context funcs bodies k x 0 c.index-bodies-at.result (view_type (get_or c.args.context.now.types.now x given)) (view_side c.in-Ok.table) (map view_side c.loop-at.tables.items) c.loop-at-test.true (omega (arith, c.loop-at-test.true, same)) refl c.index-bodies-at.is
    type c.in-Ok.ensures.valid c.in-Ok.ensures.fits c.in-Ok.ensures.table c.loop-at.invariant in
    let items = ap (map view_side) c.in_ok-push-in-Ok.ensures.items ∙ map-append view_side c.loop-at.tables.items (c.in-Ok.table ∷ []) in
    subst (λ w. Rests context funcs bodies (k + 1) w) (sym items) more

pub returns-clause-checked : goal.returns-clause-checked
returns-clause-checked c =
    let same = c.requires.same_count in
    all_checked (view_context c.args.context.now) c.args.funcs.now c.args.bodies.now c.loop-at.at (map view_side c.loop-at.tables.items) (omega (arith, c.loop-at-test.false)) (omega (arith, c.loop-at-test.false, same)) c.loop-at.invariant

-- where a body is refused, not all are valid and fit
pub returns-in-Err-clause-complete : goal.returns-in-Err-clause-complete
returns-in-Err-clause-complete c = λ other both.
    let k = c.loop-at.at in
    let types = c.args.context.now.types.now in
    let x = get_or c.args.funcs.now k 0 in
    let given = c.index-context-funcs.result in
    let type = get_mapped view_type types x given (c.requires.own k 0 c.loop-at-test.true) in
    let right = body_right (view_context c.args.context.now) c.args.funcs.now c.args.bodies.now k 0 c.index-bodies-at.result (view_type (get_or types x given)) c.loop-at-test.true c.index-bodies-at.is type both in
    c.in-Err.ensures.complete (λ e. other (ap (λ (v : ValidError). v.kind) c.in_body.ensures ∙ e)) right.0 right.1

pub returns-in-Err-clause-blames : goal.returns-in-Err-clause-blames
returns-in-Err-clause-blames c = λ other.
    let k = c.loop-at.at in
    let types = c.args.context.now.types.now in
    let x = get_or c.args.funcs.now k 0 in
    let given = c.index-context-funcs.result in
    let type = get_mapped view_type types x given (c.requires.own k 0 c.loop-at-test.true) in
    let same = c.requires.same_count in
    let other_kind : c.in-Err.fault.kind ≢ Memory = λ e. other (ap (λ (v : ValidError). v.kind) c.in_body.ensures ∙ e) in
    blamed (view_context c.args.context.now) c.args.imported c.args.funcs.now (map view_body c.args.bodies.now) k c.in-Err.fault.instr c.in-Err.fault.kind c.in_body.result c.in_body.ensures (c.in-Err.ensures.kinds other_kind)
    (bad_body (view_context c.args.context.now) c.args.funcs.now c.args.bodies.now k 0 c.index-bodies-at.result (view_type (get_or types x given)) c.in-Err.fault.instr c.loop-at-test.true (omega (arith, c.loop-at-test.true, same)) c.index-bodies-at.is type
    (λ h. c.in-Err.ensures.complete other_kind h.0 h.1) (c.in-Err.ensures.place other_kind))
