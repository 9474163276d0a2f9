use Rattle.std.proofs.Common.{subst, arith}
use Rattle.wh_space_model.specs.{IsSound}
use Rattle.wh_space_model.proofs.Reserved.{frames_in_all_few}
use Rattle.wh_space.proofs.Transiting.{stands_within}
use Rattle.wh_space.proofs.memory.Memory.frames_to_write.Goals as goal

pub wanted_for-requires-clause-within : goal.wanted_for-requires-clause-within
wanted_for-requires-clause-within c = (stands_within c.args.self.now c.args.place c.args.need (subst IsSound c.self.view_is c.self.invariant.sound) c.requires).0

pub wanted_for-requires-clause-few : goal.wanted_for-requires-clause-few
wanted_for-requires-clause-few c = (stands_within c.args.self.now c.args.place c.args.need (subst IsSound c.self.view_is c.self.invariant.sound) c.requires).1

pub returns-clause-few : goal.returns-clause-few
returns-clause-few c = let few = frames_in_all_few c.args.self.now c.args.place c.args.need in omega (arith, few, c.wanted_for.ensures)
