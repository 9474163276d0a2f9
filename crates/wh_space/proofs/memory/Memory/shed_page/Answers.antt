use Rattle.std.proofs.Common.{subst}
use Rattle.wh_space_model.specs.{IsSound}
use Rattle.wh_space.proofs.Transiting.{stands_within}
use Rattle.wh_space.proofs.memory.Memory.shed_page.Goals as goal

pub shed_among-requires-clause-within : goal.shed_among-requires-clause-within
shed_among-requires-clause-within c = (stands_within c.args.self.now c.args.place c.args.need (subst IsSound c.self.view_is c.self.invariant.sound) c.requires).0

pub shed_among-requires-clause-few : goal.shed_among-requires-clause-few
shed_among-requires-clause-few c = (stands_within c.args.self.now c.args.place c.args.need (subst IsSound c.self.view_is c.self.invariant.sound) c.requires).1
