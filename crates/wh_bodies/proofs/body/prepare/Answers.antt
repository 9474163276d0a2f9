use Rattle.std.proofs.Common.{length, ap, ◌∙◌}
use Rattle.wh_bodies.specs.CheckEnds.{started}
use Rattle.wh_bodies.proofs.body.prepare.Goals as goal

pub returns-clause-ok : goal.returns-clause-ok
returns-clause-ok c = λ labels. c.in_ok-checker.ensures.ok ∙ ap (λ ms. started c.args.of (length c.args.instrs.now) ms) (c.in_ok-marks.ensures.ok labels)
