use Rattle.std.proofs.Common.{◌∙◌, sym}
use Rattle.wh_reclaim.proofs.Beginning.{wants_stands}
use Rattle.wh_space.proofs.LeavingMemory.{lives_at}
use Rattle.test_space.proofs.ground.must_leave.Goals as goal

pub stand-requires-clause-there : goal.stand-requires-clause-there
stand-requires-clause-there c = lives_at c.args.memory.now.occupants c.args.place c.from.result (sym c.is_at.ensures ∙ c.if-not-is_at.false)

pub page_to_take-requires : goal.page_to_take-requires
page_to_take-requires c = wants_stands c.stand.new.self c.args.place c.in-Some.wanted (sym c.wanted_step.ensures ∙ c.in-Some.is)
