use Rattle.wh_threads.proofs.Handing.{forks}
use Rattle.wh_threads.proofs.channel.pass_for.Goals as goal

pub another-requires-clause-rule : goal.another-requires-clause-rule
another-requires-clause-rule g c = forks _ _ c.requires.parts
