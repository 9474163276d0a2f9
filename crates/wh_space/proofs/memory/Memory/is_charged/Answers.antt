use Rattle.std.proofs.Common.{sym, ◌∙◌, rules}
use Rattle.wh_space.proofs.Framing.{known_under}
use Rattle.wh_space.proofs.Charged.{tells_charged, tells_other}
use Rattle.wh_space.proofs.memory.Memory.is_charged.Goals as goal

pub first_on-requires : goal.first_on-requires
first_on-requires c = known_under c.self.inside c.args.place c.args.number c.in-Some.frame c.page.result c.self.invariant c.page.ensures (sym c.frame.ensures ∙ c.in-Some.is)

pub returns-then-first-place : goal.returns-then-first-place
returns-then-first-place c = search (rules, tells_charged)

pub returns-else-first-place : goal.returns-else-first-place
returns-else-first-place c = search (rules, tells_other)
