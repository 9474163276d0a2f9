use Rattle.std.proofs.Common.{sym, ◌∙◌}
use Rattle.wh_space.proofs.Framing.{known_under}
use Rattle.wh_space.proofs.memory.Memory.is_on_touched.Goals as goal

pub has_touched-requires : goal.has_touched-requires
has_touched-requires c = known_under c.self.inside c.args.place c.args.number c.in-Some.frame c.page.result c.self.invariant c.page.ensures (sym c.frame.ensures ∙ c.in-Some.is)
