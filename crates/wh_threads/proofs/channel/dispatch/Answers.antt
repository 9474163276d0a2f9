use Rattle.wh_threads.proofs.Handing.{sends}
use Rattle.wh_threads.proofs.channel.dispatch.Goals as goal

pub send_as-requires-clause-rule : goal.send_as-requires-clause-rule
send_as-requires-clause-rule g c = (sends _ _ _ _ c.requires.part, λ held views was at. tt)
