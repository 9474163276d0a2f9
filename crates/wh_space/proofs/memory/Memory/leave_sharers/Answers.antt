use Rattle.std.proofs.Common.{subst, arith}
use Rattle.wh_space_model.specs.{IsSound}
use Rattle.wh_space.proofs.Owning.{is_sharer}
use Rattle.wh_space.proofs.memory.Memory.leave_sharers.Goals as goal

pub sharers_of-requires : goal.sharers_of-requires
sharers_of-requires c = (is_sharer c.args.self.now c.args.place c.args.number c.args.frame (subst IsSound c.self.view_is c.self.invariant.sound) c.requires).taken.0

pub keep_last-requires-clause-last : goal.keep_last-requires-clause-last
keep_last-requires-clause-last c =
    let x = is_sharer c.args.self.now c.args.place c.args.number c.args.frame (subst IsSound c.self.view_is c.self.invariant.sound) c.requires in
    let some = x.some in
    omega arith
