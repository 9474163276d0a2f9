use Rattle.wh_scheduler.proofs.InHand.{known_owned}
use Rattle.wh_scheduler.proofs.owned.OwnedHost.invariant.Goals as goal

pub returns : goal.returns
returns g c =
    known_owned g.D.SwapDev.held g.D.SwapDev.keeps g.D.SwapDev.honest g.D.SwapDev.faults c.args.self.now c.both.result.0.now c.both.result.1.now
    c.both.ensures.now c.both.ensures.books c.both.ensures.agree c.invariant-2.ensures c.invariant.ensures
