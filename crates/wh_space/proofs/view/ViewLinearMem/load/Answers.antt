use Rattle.std.proofs.Common.{refl, length}
use Rattle.wh_space.proofs.Keeping.{keeps_load}
use Rattle.wh_space.proofs.view.ViewLinearMem.load.Goals as goal

pub returns-clause-keeps : goal.returns-clause-keeps
returns-clause-keeps c = (refl, refl, refl, keeps_load c.args.self.now.memory.now c.args.self.now.place c.args.at (length c.args.into.now) c.load.result c.load.new.self c.load.ensures.leaves)
