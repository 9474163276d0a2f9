use Rattle.std.proofs.Common.{Some, ap, ◌∙◌}
use Rattle.wh_space.specs.Parts.{space_of}
use Rattle.wh_space.proofs.Unshared.{on_shared}
use Rattle.wh_space.proofs.memory.Memory.unlisted_frame.Goals as goal

pub mark-requires : goal.mark-requires
mark-requires c = (on_shared (space_of c.self.inside) c.args.place c.args.page c.in-Shared.frame c.self.invariant.sound (c.page.ensures ∙ ap Some c.in-Shared.is)).entry

pub returns-in-Unlisted-clause-taken : goal.returns-in-Unlisted-clause-taken
returns-in-Unlisted-clause-taken c =
    rw (← c.self.view_is) ((on_shared (space_of c.self.inside) c.args.place c.args.page c.in-Shared.frame c.self.invariant.sound (c.page.ensures ∙ ap Some c.in-Shared.is)).taken)
