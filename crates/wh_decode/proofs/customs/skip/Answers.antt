use Rattle.std.proofs.Common.{sym, ◌∙◌, arith}
use Rattle.std.proofs.lemmas.Result.{err_from_is_err_and}
use Rattle.wh_decode.specs.ReadingModule.{skip_at}
use Rattle.wh_decode.proofs.Skips.{begun, custom_long, skip_goes, skip_fails, skip_done}
use Rattle.wh_decode.proofs.customs.skip.Goals as goal

pub returns-in_err-place-clause-exact : goal.returns-in_err-place-clause-exact
returns-in_err-place-clause-exact c =
    let p = err_from_is_err_and c.from_residual.result c.from_residual.ensures.1 in
    let first = sym c.stands_at.ensures ∙ c.loop-place-test.true in
    let lt = begun c.args.bytes.now c.loop-place.place c.loop-place.invariant.inside first in
    rw (p.1, p.2) (λ other. skip_fails c.args.bytes.now c.loop-place.place (skip_at c.args.bytes.now c.args.at) lt first c.loop-place.invariant.same c.in_err-place.field-0.0 (c.in_err-place.ensures.exact other))

pub loop-place-smaller : goal.loop-place-smaller
loop-place-smaller c =
    let long = custom_long c.args.bytes.now c.loop-place.place c.in_ok-place.ensures.exact.0 c.in_ok-place.place c.loop-place.invariant.inside c.in_ok-place.ensures.exact.1 in
    let short = c.in_ok-place.ensures.inside in
    omega arith

pub loop-place-preserved : goal.loop-place-preserved
loop-place-preserved c =
    let first = sym c.stands_at.ensures ∙ c.loop-place-test.true in
    let lt = begun c.args.bytes.now c.loop-place.place c.loop-place.invariant.inside first in
    record {
      inside = c.in_ok-place.ensures.inside;
      same = skip_goes c.args.bytes.now c.loop-place.place (skip_at c.args.bytes.now c.args.at) lt first c.loop-place.invariant.same c.in_ok-place.ensures.exact.0 c.in_ok-place.place c.in_ok-place.ensures.exact.1;
    }

pub returns-clause-exact : goal.returns-clause-exact
returns-clause-exact c = skip_done c.args.bytes.now c.loop-place.place (skip_at c.args.bytes.now c.args.at) (sym c.stands_at.ensures ∙ c.loop-place-test.false) c.loop-place.invariant.same
