use Rattle.wh_threads.proofs.Handing.{merges}
use Rattle.wh_threads.proofs.channel.put_back.Goals as goal

pub absorb-requires-clause-rule : goal.absorb-requires-clause-rule
absorb-requires-clause-rule g c = merges _ _ _ _ c.requires.part
