use Rattle.std.proofs.Common.{refl}
use Rattle.wh_space.proofs.Keeping.{keeps_store}
use Rattle.wh_space.proofs.view.ViewLinearMem.store.Goals as goal

pub returns-clause-keeps : goal.returns-clause-keeps
returns-clause-keeps c = (refl, refl, refl, keeps_store c.args.self.now.memory.now c.args.self.now.place c.args.at c.args.given.now c.store.result c.store.new.self c.invariant.ensures.sound c.store.ensures.leaves)
