use Rattle.std.proofs.Common.{refl}
use Rattle.wh_space.proofs.Keeping.{keeps_growth}
use Rattle.wh_space.specs.StepViews.{keeps_all}
use Rattle.wh_space.proofs.view.ViewLinearMem.grow.Goals as goal

pub returns-clause-keeps : goal.returns-clause-keeps
returns-clause-keeps c = (refl, refl, refl, keeps_growth c.args.self.now.memory.now c.args.self.now.place c.args.pages c.grow-grown.result c.grow-grown.new.self c.invariant.ensures.sound c.grow-grown.ensures.leaves)

pub returns-then-from-clause-keeps : goal.returns-then-from-clause-keeps
returns-then-from-clause-keeps c = (refl, refl, refl, keeps_all c.args.self.now.place c.args.self.now.memory.now)
