use Rattle.std.proofs.Common.{◌+◌, ◌-◌, List, sym, ap, ◌∙◌}
use Rattle.std.proofs.lemmas.Result.{err_from_is_err_and}
use Rattle.wh_model.specs.declared.ValType.{ValType}
use Rattle.wh_model.specs.Format.{value_type}
use Rattle.wh_leb.specs.Reading.{one_at, times_at, with_front}
use Rattle.wh_leb.proofs.Counted.{goes, fails, is_done}
use Rattle.wh_decode.proofs.types.val_types.Goals as goal

pub returns-in_err-t-clause-exact : goal.returns-in_err-t-clause-exact
returns-in_err-t-clause-exact g c =
    let p = err_from_is_err_and c.from_residual.result c.from_residual.ensures.1 in
    let l = c.loop-index in
    rw (p.1, p.2) (λ _. fails (one_at value_type) l.types.items c.args.count l.index c.args.bytes.now l.place (times_at c.args.count (one_at value_type) c.args.bytes.now c.args.at) c.loop-index-test.true l.invariant.same c.in_err-t.field-0.0 (sym c.in_err-t.ensures.exact))

pub loop-index-preserved : goal.loop-index-preserved
loop-index-preserved g c =
    let l = c.loop-index in
    let step = goes (one_at value_type) l.types.items c.args.count l.index c.args.bytes.now l.place (times_at c.args.count (one_at value_type) c.args.bytes.now c.args.at) c.loop-index-test.true l.invariant.same c.in_ok-t.t c.in_ok-t.next (sym c.in_ok-t.ensures.exact) in
    record {
      inside = c.in_ok-t.ensures.inside;
      same = ap (λ (xs : List ValType). with_front xs (times_at (c.args.count - (l.index + 1)) (one_at value_type) c.args.bytes.now c.in_ok-t.next)) c.in_ok-keep_type.ensures.ok ∙ step;
    }

pub returns-clause-exact : goal.returns-clause-exact
returns-clause-exact g c =
    let l = c.loop-index in
    is_done (one_at value_type) l.types.items c.args.count l.index c.args.bytes.now l.place (times_at c.args.count (one_at value_type) c.args.bytes.now c.args.at) c.loop-index-test.false l.invariant.same
