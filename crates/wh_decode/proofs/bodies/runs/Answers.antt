use Rattle.std.proofs.Common.{◌+◌, ◌-◌, List, ap, ◌∙◌, arith}
use Rattle.std.proofs.lemmas.Result.{err_from_is_err_and}
use Rattle.wh_model.specs.declared.ValType.{ValType}
use Rattle.wh_leb.specs.Reading.{with_front}
use Rattle.wh_decode.specs.ReadingModule.{runs_at}
use Rattle.wh_decode.proofs.Runs.{run_goes, run_no_count, run_no_type, runs_done}
use Rattle.wh_decode.proofs.bodies.runs.Goals as goal

pub returns-in_err-number-clause-exact : goal.returns-in_err-number-clause-exact
returns-in_err-number-clause-exact c =
    let p = err_from_is_err_and c.from_residual.result c.from_residual.ensures.1 in
    let l = c.loop-index in
    rw (p.1, p.2) (λ _. run_no_count l.locals.items c.args.count l.index l.declared c.args.bytes.now l.place (runs_at c.args.count 0 c.args.bytes.now c.args.at) c.loop-index-test.true l.invariant.same c.in_err-number.field-0.0 c.in_err-number.ensures.exact)

pub returns-in_err-t-clause-exact : goal.returns-in_err-t-clause-exact
returns-in_err-t-clause-exact c =
    let p = err_from_is_err_and c.from_residual-in_err-t.result c.from_residual-in_err-t.ensures.1 in
    let l = c.loop-index in
    rw (p.1, p.2) (λ _. run_no_type l.locals.items c.args.count l.index l.declared c.args.bytes.now l.place (runs_at c.args.count 0 c.args.bytes.now c.args.at) c.loop-index-test.true l.invariant.same c.in_ok-number.number c.in_ok-number.next c.in_err-t.field-0.0 c.in_ok-number.ensures.exact c.in_err-t.ensures.exact)

pub loop-index-preserved : goal.loop-index-preserved
loop-index-preserved c =
    let l = c.loop-index in
    let step = run_goes l.locals.items c.args.count l.index l.declared c.args.bytes.now l.place (runs_at c.args.count 0 c.args.bytes.now c.args.at) c.loop-index-test.true l.invariant.same c.in_ok-number.number c.in_ok-number.next c.in_ok-t.t c.in_ok-t.next c.in_ok-number.ensures.exact c.in_ok-t.ensures.exact in
    let few-more = c.in_ok-number.ensures.few in
    record {
      inside = c.in_ok-t.ensures.inside;
      few = omega arith;
      same = ap (λ (xs : List ValType). with_front xs (runs_at (c.args.count - (l.index + 1)) (l.declared + c.in_ok-number.number) c.args.bytes.now c.in_ok-t.next)) c.in_ok-repeat.ensures.ok ∙ step;
    }

pub returns-clause-exact : goal.returns-clause-exact
returns-clause-exact c =
    let l = c.loop-index in
    runs_done l.locals.items c.args.count l.index l.declared c.args.bytes.now l.place (runs_at c.args.count 0 c.args.bytes.now c.args.at) c.loop-index-test.false l.invariant.same
