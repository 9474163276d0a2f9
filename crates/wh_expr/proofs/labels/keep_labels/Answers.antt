use Rattle.std.proofs.Common.{ℕ, ◌++◌, ◌∷◌, [], List, length, sym, ap, ◌∙◌, append_assoc, length-append, arith}
use Rattle.std.proofs.lemmas.Result.{err_from_is_err_and}
use Rattle.wh_leb.specs.Reading.{u32_at, times_at}
use Rattle.wh_leb.proofs.Counted.{goes, fails, is_done}
use Rattle.wh_expr.proofs.labels.keep_labels.Goals as goal

pub returns-in_err-label-clause-exact : goal.returns-in_err-label-clause-exact
returns-in_err-label-clause-exact c =
    let p = err_from_is_err_and c.from_residual.result c.from_residual.ensures.1 in
    let read = c.loop-index.invariant.same in
    rw (p.1, p.2) (λ _. fails u32_at read.0 c.args.count c.loop-index.index c.args.bytes.now c.loop-index.place (times_at c.args.count u32_at c.args.bytes.now c.args.at) c.loop-index-test.true read.2 c.in_err-label.field-0.0 (sym c.in_err-label.ensures.exact))

pub loop-index-preserved : goal.loop-index-preserved
loop-index-preserved c =
    let read = c.loop-index.invariant.same in
    let step = goes u32_at read.0 c.args.count c.loop-index.index c.args.bytes.now c.loop-index.place (times_at c.args.count u32_at c.args.bytes.now c.args.at) c.loop-index-test.true read.2 c.in_ok-label.label c.in_ok-label.next (sym c.in_ok-label.ensures.exact) in
    let kept = c.in_ok-keep_label.ensures.ok in
    record {
      inside = c.in_ok-label.ensures.inside;
      paid = (let before = c.loop-index.invariant.paid in let more = c.in_ok-label.ensures.beyond in omega arith);
      grows = omega (arith, c.loop-index.invariant.grows, ap length kept, length-append c.loop-index.labels.items (c.in_ok-label.label ∷ []));
      same = (read.0 ++ c.in_ok-label.label ∷ [], kept ∙ ap (λ (x : List ℕ). x ++ (c.in_ok-label.label ∷ [])) read.1 ∙ append_assoc c.args.labels.now.items read.0 (c.in_ok-label.label ∷ []), step);
    }

pub returns-clause-exact : goal.returns-clause-exact
returns-clause-exact c =
    let read = c.loop-index.invariant.same in
    (read.0, read.1, is_done u32_at read.0 c.args.count c.loop-index.index c.args.bytes.now c.loop-index.place (times_at c.args.count u32_at c.args.bytes.now c.args.at) c.loop-index-test.false read.2)
