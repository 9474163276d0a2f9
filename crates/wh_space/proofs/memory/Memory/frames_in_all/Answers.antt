use Rattle.std.proofs.Common.{subst, arith}
use Rattle.wh_space_model.specs.{IsSound}
use Rattle.wh_space_model.proofs.Reserved.{frames_in_all_few}
use Rattle.wh_space.proofs.Transiting.{stands_within}
use Rattle.wh_space.proofs.memory.Memory.frames_in_all.Goals as goal

pub swapped_among-swapped-requires-clause-within : goal.swapped_among-swapped-requires-clause-within
swapped_among-swapped-requires-clause-within c = (stands_within c.args.self.now c.args.place c.args.need (subst IsSound c.self.view_is c.self.invariant.sound) c.requires).0

pub swapped_among-swapped-requires-clause-few : goal.swapped_among-swapped-requires-clause-few
swapped_among-swapped-requires-clause-few c = (stands_within c.args.self.now c.args.place c.args.need (subst IsSound c.self.view_is c.self.invariant.sound) c.requires).1

pub returns-clause-few : goal.returns-clause-few
returns-clause-few c = let few = frames_in_all_few c.args.self.now c.args.place c.args.need in omega (arith, few, c.swapped_among-swapped.ensures.count, c.frames_to_write-wanted.ensures.count)
