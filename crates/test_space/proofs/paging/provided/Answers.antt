use Rattle.std.proofs.Common.{◌∙◌, sym}
use Rattle.wh_space.proofs.LeavingMemory.{lives_at}
use Rattle.test_space.proofs.paging.provided.Goals as goal

pub stand-requires-clause-there : goal.stand-requires-clause-there
stand-requires-clause-there g c = lives_at c.args.memory.now.occupants c.args.place c.from.result (sym c.is_at.ensures ∙ c.if-not-is_at.false)
