use Rattle.wh_workers.proofs.Lent.{only_out_more}
use Rattle.wh_workers.proofs.Turns.{turns_dispatched}
use Rattle.wh_workers.proofs.feed.feed.Goals as goal

pub loop-preserved-in-Turns : goal.loop-preserved-in-Turns
loop-preserved-in-Turns g c = (
  tt,
  tt,
  c.dispatch.ensures.channel,
  rw c.from-count.ensures (turns_dispatched _ _ _ _ _ _ _ c.loop.invariant.3 c.if-not-dispatch.ensures.sent),
  c.begin_scanner.ensures.lent,
  only_out_more c.args.lender.now c.loop.lender c.begin_scanner.new.lender c.loop.invariant.5 c.begin_scanner.ensures.only,
)
