use Rattle.wh_threads.proofs.Runs.{last_more}
use Rattle.wh_threads.proofs.start.stop.Goals as goal

pub loop-preserved : goal.loop-preserved
loop-preserved g c = (
  c.dispatch.ensures.channel,
  last_more _ _ _ c.loop.invariant.1 c.if-not-dispatch.ensures.sent,
)
