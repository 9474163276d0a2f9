use Rattle.std.proofs.Common.{subst}
use Rattle.wh_space_model.specs.{IsSound}
use Rattle.wh_space.proofs.Transiting.{stands_within}
use Rattle.wh_space.proofs.memory.Memory.swapped_page.Goals as goal

pub swapped_page_of-requires-clause-within : goal.swapped_page_of-requires-clause-within
swapped_page_of-requires-clause-within c = (stands_within c.args.self.now c.args.place c.args.need (subst IsSound c.self.view_is c.self.invariant.sound) c.requires).0

pub swapped_page_of-requires-clause-few : goal.swapped_page_of-requires-clause-few
swapped_page_of-requires-clause-few c = (stands_within c.args.self.now c.args.place c.args.need (subst IsSound c.self.view_is c.self.invariant.sound) c.requires).1
