use Rattle.std.proofs.Common.{refl}
use Rattle.wh_space.proofs.Keeping.{keeps_quick_store}
use Rattle.wh_space.proofs.view.ViewLinearMem.quick_store.Goals as goal

pub returns-clause-keeps : goal.returns-clause-keeps
returns-clause-keeps c = (refl, refl, refl, keeps_quick_store c.args.self.now.memory.now c.args.self.now.place c.args.at c.args.given.now c.quick_store.result c.quick_store.new.self c.invariant.ensures.sound c.quick_store.ensures.leaves c.quick_store.ensures.unchanged)
