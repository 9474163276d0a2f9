use Rattle.wh_space.proofs.Owning.{own_already}
use Rattle.wh_space.proofs.memory.Memory.own_quickly.Goals as goal

pub returns : goal.returns
returns c = rw (← c.self.view_is) (own_already c.self.inside c.args.place c.args.number c.touched_own_frame.result c.self.invariant c.touched_own_frame.ensures)
