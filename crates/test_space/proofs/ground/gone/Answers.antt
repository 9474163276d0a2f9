use Rattle.std.proofs.Common.{◌∙◌, sym}
use Rattle.wh_space.proofs.LeavingMemory.{lives_at}
use Rattle.test_space.proofs.ground.gone.Goals as goal

pub exit-requires : goal.exit-requires
exit-requires c = lives_at c.args.memory.now.occupants c.args.place c.args.number (sym c.is_at.ensures ∙ c.if-not-is_at.false)
