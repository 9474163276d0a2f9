use Rattle.std.proofs.Common.{Some, ap, ◌∙◌}
use Rattle.wh_space.specs.Parts.{space_of}
use Rattle.wh_space.proofs.Merges.{is_alone}
use Rattle.wh_space.proofs.memory.Memory.private_frame.Goals as goal

pub returns-in-Private-clause-taken : goal.returns-in-Private-clause-taken
returns-in-Private-clause-taken c =
    rw (← c.self.view_is) ((is_alone (space_of c.self.inside) c.args.place c.args.page c.in-Private.frame c.self.invariant.sound (c.page.ensures ∙ ap Some c.in-Private.is)).taken)
