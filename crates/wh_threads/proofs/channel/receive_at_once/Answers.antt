use Rattle.wh_threads.proofs.Handing.{receives}
use Rattle.wh_threads.proofs.channel.receive_at_once.Goals as goal

pub try_recv_as-requires-clause-rule : goal.try_recv_as-requires-clause-rule
try_recv_as-requires-clause-rule g c = (receives _ _ c.requires.part, λ held views was at. tt)
