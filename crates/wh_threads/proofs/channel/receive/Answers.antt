use Rattle.wh_threads.proofs.Handing.{receives}
use Rattle.wh_threads.proofs.channel.receive.Goals as goal

pub recv_as-requires-clause-rule : goal.recv_as-requires-clause-rule
recv_as-requires-clause-rule g c = (receives _ _ c.requires.part, λ held views was at. tt)
