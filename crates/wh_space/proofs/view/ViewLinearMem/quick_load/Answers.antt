use Rattle.std.proofs.Common.{refl, length}
use Rattle.wh_space.proofs.Keeping.{keeps_quick_load}
use Rattle.wh_space.proofs.view.ViewLinearMem.quick_load.Goals as goal

pub returns-clause-keeps : goal.returns-clause-keeps
returns-clause-keeps c = (refl, refl, refl, keeps_quick_load c.args.self.now.memory.now c.args.self.now.place c.args.at (length c.args.into.now) c.quick_load.result c.quick_load.new.self c.quick_load.ensures.leaves c.quick_load.ensures.unchanged)
