use Rattle.wh_space.specs.Parts.{space_of}
use Rattle.wh_space.proofs.Charged.{charge_nobody, charge_tells}
use Rattle.wh_space.proofs.memory.Memory.is_charged_with.Goals as goal

pub returns-in-Some : goal.returns-in-Some
returns-in-Some c = rw (← c.self.view_is) (charge_tells c.self.inside c.args.place c.args.frame c.in-Some.first c.self.invariant c.in-Some.ensures.some)

pub returns-in-None : goal.returns-in-None
returns-in-None c = rw (← c.self.view_is) (charge_nobody (space_of c.self.inside) c.args.place c.args.frame c.in-None.ensures.none)
