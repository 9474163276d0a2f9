use Rattle.std.proofs.Common.{◌∙◌}
use Rattle.wh_host.proofs.Sharings.{pages_sharing}
use Rattle.wh_host.proofs.counting.sharers_of.Goals as goal

pub returns : goal.returns
returns c = c.sharing.ensures.sharers ∙ pages_sharing c.args.memory.now c.invariant.ensures.sound
