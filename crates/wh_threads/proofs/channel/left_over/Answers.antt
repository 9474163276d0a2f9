use Rattle.std.proofs.Common.{arith}
use Rattle.wh_threads.proofs.Handing.{receives, learns}
use Rattle.wh_threads.proofs.channel.left_over.Goals as goal

pub try_recv_as-requires-clause-rule : goal.try_recv_as-requires-clause-rule
try_recv_as-requires-clause-rule g c =
    let all = c.requires.all in (receives _ _ (omega arith), learns _ _ all)
