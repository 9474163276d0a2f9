use Rattle.std.proofs.Common.{◌≡◌, ◌∙◌, ap}
use Rattle.std.specs.Prelude.{slice_get}
use Rattle.wh_syntax.specs.View.{view_type, view_body}
use Rattle.wh_bodies.specs.View.{view_context, state_of}
use Rattle.wh_bodies.proofs.Bodies.{around_is, body_shown}
use Rattle.std.proofs.lemmas.Result.{err_from_is_err_and}
use Rattle.wh_bodies.proofs.BodyKinds.{whole_fault}
use Rattle.wh_bodies.proofs.FaultPlaces.{whole_place}
use Rattle.wh_bodies.proofs.Refused.{not_refused}
use Rattle.wh_bodies.proofs.Follow.{true_of}
use Rattle.wh_bodies.proofs.body.check_body.Goals as goal

pub returns : goal.returns
returns c =
    let v = view_context c.args.context.now in
    let f = view_type c.args.func_type.now in
    let b = view_body c.args.body.now in
    let of : c.copied.result ≡ slice_get f.results 0 = c.copied.ensures ∙ c.first.ensures.value ∙ ap (λ xs. slice_get xs 0) c.deref-3.ensures in
    let s = body_shown v f b _ _ (state_of c.in_ok-checker.checker) c.requires.one_result (around_is v f b c.deref.result.now c.deref-2.result.now c.copied.result c.deref.ensures c.deref-2.ensures of) c.flat-flat.ensures.instrs c.in_ok-checker.ensures in
    record { valid = s.valid; fits = (c.few_locals.ensures.0 (true_of c.if-not-few_locals.false), s.height); complete = tt; kinds = tt; place = tt; table = s.table }

pub returns-in_err-checker-clause-complete : goal.returns-in_err-checker-clause-complete
returns-in_err-checker-clause-complete c =
    let v = view_context c.args.context.now in
    let f = view_type c.args.func_type.now in
    let b = view_body c.args.body.now in
    let of : c.copied.result ≡ slice_get f.results 0 = c.copied.ensures ∙ c.first.ensures.value ∙ ap (λ xs. slice_get xs 0) c.deref-3.ensures in
    let p = err_from_is_err_and c.from_residual.result c.from_residual.ensures.1 in
    rw (p.1, p.2) (λ other valid fits. not_refused v f b _ _ c.in_err-checker.field-0.0 (around_is v f b c.deref.result.now c.deref-2.result.now c.copied.result c.deref.ensures c.deref-2.ensures of) c.flat-flat.ensures.instrs (c.in_err-checker.ensures other) valid fits.1)

pub returns-in_err-checker-clause-kinds : goal.returns-in_err-checker-clause-kinds
returns-in_err-checker-clause-kinds c =
    let v = view_context c.args.context.now in
    let f = view_type c.args.func_type.now in
    let b = view_body c.args.body.now in
    let of : c.copied.result ≡ slice_get f.results 0 = c.copied.ensures ∙ c.first.ensures.value ∙ ap (λ xs. slice_get xs 0) c.deref-3.ensures in
    let p = err_from_is_err_and c.from_residual.result c.from_residual.ensures.1 in
    rw (p.1, p.2) (λ other. whole_fault _ _ _ _ c.in_err-checker.field-0.0 (around_is v f b c.deref.result.now c.deref-2.result.now c.copied.result c.deref.ensures c.deref-2.ensures of) c.flat-flat.ensures.instrs (c.in_err-checker.ensures other))

pub returns-in_err-checker-clause-place : goal.returns-in_err-checker-clause-place
returns-in_err-checker-clause-place c =
    let v = view_context c.args.context.now in
    let f = view_type c.args.func_type.now in
    let b = view_body c.args.body.now in
    let of : c.copied.result ≡ slice_get f.results 0 = c.copied.ensures ∙ c.first.ensures.value ∙ ap (λ xs. slice_get xs 0) c.deref-3.ensures in
    let p = err_from_is_err_and c.from_residual.result c.from_residual.ensures.1 in
    rw (p.1, p.2) (λ other. whole_place _ _ _ b c.in_err-checker.field-0.0 (around_is v f b c.deref.result.now c.deref-2.result.now c.copied.result c.deref.ensures c.deref-2.ensures of) c.flat-flat.ensures.instrs (c.in_err-checker.ensures other))
