use Rattle.wh_threads.proofs.Handing.{begins}
use Rattle.wh_threads.proofs.channel.open_channel.Goals as goal

pub bounded_with-requires-clause-rule : goal.bounded_with-requires-clause-rule
bounded_with-requires-clause-rule g c = begins
