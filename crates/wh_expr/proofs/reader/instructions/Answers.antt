use Rattle.std.proofs.Common.{◌+◌, ◌-◌, [], List, reverse, map, Ok, sym, ap, subst, ◌∙◌}
use Rattle.std.proofs.lemmas.Result.{err_from_is_err_and}
use Rattle.std.specs.List.{AllByRecursion}
use Rattle.wh_model.specs.declared.Open.{Open}
use Rattle.wh_model.specs.Format.Syntax as model
use Rattle.wh_leb.specs.Reading.{with_front}
use Rattle.wh_syntax.specs.declared.instr.Instr.{Instr}
use Rattle.wh_syntax.specs.Shown.{instr_of, InPool}
use Rattle.wh_expr.specs.ReadingCode.{instr_at, code_from}
use Rattle.wh_expr.proofs.Loop.{goes, ends, fails, no_more, shown_push, in_pool_push}
use Rattle.wh_expr.proofs.reader.instructions.Goals as goal

pub returns-in_err-instr-clause-exact : goal.returns-in_err-instr-clause-exact
returns-in_err-instr-clause-exact c =
    let p = err_from_is_err_and c.from_residual.result c.from_residual.ensures.1 in
    let b = c.args.bytes.now in
    let l = c.loop-count in
    let same = ap (λ (s : List Open). instr_at (reverse s) b l.place) c.deref.ensures.value in
    rw (p.1, p.2) (λ other. fails (map (instr_of l.labels.items) l.instrs.items) c.args.most l.count (reverse l.stack.items) b l.place (code_from c.args.most [] b c.args.at) c.loop-count-test.true l.invariant.same c.in_err-instr.field-0.0 (sym same ∙ c.in_err-instr.ensures.exact other))

pub returns-then-ended-clause-exact : goal.returns-then-ended-clause-exact
returns-then-ended-clause-exact c =
    let b = c.args.bytes.now in
    let l = c.loop-count in
    let pool = c.instruction.new.labels.items in
    let same = ap (λ (s : List Open). instr_at (reverse s) b l.place) c.deref.ensures.value in
    let a = rw c.if-ended.true at (c.in_ok-ended.ensures.ok pool) in
    let i = c.in_ok-instr.instr in
    ends (map (instr_of l.labels.items) l.instrs.items) c.args.most l.count (reverse l.stack.items) b l.place (code_from c.args.most [] b c.args.at) c.loop-count-test.true l.invariant.same (instr_of pool i) c.in_ok-instr.next (sym same ∙ c.in_ok-instr.ensures.exact) a
    ∙ ap (λ (is : List model.Instr). Ok (is, c.in_ok-instr.next)) (sym (ap (map (instr_of pool)) c.in_ok-keep.ensures.ok ∙ shown_push l.labels.items pool l.instrs.items i c.in_ok-instr.ensures.grows l.invariant.in_pool))

pub returns-then-ended-clause-in_pool : goal.returns-then-ended-clause-in_pool
returns-then-ended-clause-in_pool c =
    let l = c.loop-count in
    let pool = c.instruction.new.labels.items in
    subst (λ (is : List Instr). AllByRecursion (InPool pool) is) (sym c.in_ok-keep.ensures.ok) (in_pool_push l.labels.items pool l.instrs.items c.in_ok-instr.instr c.in_ok-instr.ensures.grows l.invariant.in_pool c.in_ok-instr.ensures.in_pool)

pub loop-count-preserved : goal.loop-count-preserved
loop-count-preserved c =
    let b = c.args.bytes.now in
    let l = c.loop-count in
    let pool = c.instruction.new.labels.items in
    let same = ap (λ (s : List Open). instr_at (reverse s) b l.place) c.deref.ensures.value in
    let a = rw c.if-ended.false at (c.in_ok-ended.ensures.ok pool) in
    let i = c.in_ok-instr.instr in
    let inner = reverse c.advance_at.new.stack.items in
    let step = goes (map (instr_of l.labels.items) l.instrs.items) c.args.most l.count (reverse l.stack.items) b l.place (code_from c.args.most [] b c.args.at) c.loop-count-test.true l.invariant.same (instr_of pool i) c.in_ok-instr.next inner (sym same ∙ c.in_ok-instr.ensures.exact) a in
    record {
      inside = c.in_ok-instr.ensures.inside;
      paid = c.in_ok-instr.ensures.paid;
      in_pool = subst (λ (is : List Instr). AllByRecursion (InPool pool) is) (sym c.in_ok-keep.ensures.ok) (in_pool_push l.labels.items pool l.instrs.items i c.in_ok-instr.ensures.grows l.invariant.in_pool c.in_ok-instr.ensures.in_pool);
      same = ap (λ (is : List model.Instr). with_front is (code_from (c.args.most - (l.count + 1)) inner b c.in_ok-instr.next)) (ap (map (instr_of pool)) c.in_ok-keep.ensures.ok ∙ shown_push l.labels.items pool l.instrs.items i c.in_ok-instr.ensures.grows l.invariant.in_pool) ∙ step;
    }

pub returns-clause-exact : goal.returns-clause-exact
returns-clause-exact c =
    let l = c.loop-count in
    λ _. no_more (map (instr_of l.labels.items) l.instrs.items) c.args.most l.count (reverse l.stack.items) c.args.bytes.now l.place (code_from c.args.most [] c.args.bytes.now c.args.at) c.too_many.result c.loop-count-test.false l.invariant.same c.too_many.ensures
