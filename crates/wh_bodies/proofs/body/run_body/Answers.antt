use Rattle.std.proofs.Common.{map, sym, ap, ◌∙◌}
use Rattle.std.proofs.lemmas.List.{length-map}
use Rattle.std.proofs.lemmas.Result.{err_from_is_err_and}
use Rattle.wh_syntax.specs.Shown.{instr_of}
use Rattle.wh_bodies.specs.ConstructEnds.{all_marks}
use Rattle.wh_bodies.specs.CheckSteps.{run}
use Rattle.wh_bodies.specs.CheckEnds.{started}
use Rattle.wh_bodies.specs.View.{view_around}
use Rattle.wh_bodies.proofs.body.run_body.Goals as goal

pub returns : goal.returns
returns c =
    let is = map (instr_of c.args.targets.now) c.args.instrs.now in
    let marks = (all_marks 0 is).done in
    let begun = c.in-Ok.ensures.ok c.args.targets.now ∙ ap (λ n. started c.args.around.now.result n marks) (sym (length-map c.args.instrs.now (instr_of c.args.targets.now))) in
    ap (run (view_around c.args.around.now) 0 is) (sym begun) ∙ c.in_ok-check_all.ensures

pub returns-in_err-check_all : goal.returns-in_err-check_all
returns-in_err-check_all c =
    let is = map (instr_of c.args.targets.now) c.args.instrs.now in
    let marks = (all_marks 0 is).done in
    let begun = c.in-Ok.ensures.ok c.args.targets.now ∙ ap (λ n. started c.args.around.now.result n marks) (sym (length-map c.args.instrs.now (instr_of c.args.targets.now))) in
    let p = err_from_is_err_and c.from_residual.result c.from_residual.ensures.1 in
    rw (p.1, p.2) (λ other. ap (run (view_around c.args.around.now) 0 is) (sym begun) ∙ c.in_err-check_all.ensures other)
