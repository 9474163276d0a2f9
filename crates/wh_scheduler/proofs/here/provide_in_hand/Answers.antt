use Rattle.std.proofs.Common.{ap}
use Rattle.wh_threads.specs.Counting.{SharesState}
use Rattle.wh_scheduler.proofs.InHand.{made_ready}
use Rattle.wh_scheduler.proofs.OwnTurns.{owner_alone}
use Rattle.wh_scheduler.proofs.here.provide_in_hand.Goals as goal

pub returns-clause-ready : goal.returns-clause-ready
returns-clause-ready g c = made_ready c.args.id c.args.locked.now.host c.own_provide.new.self.host c.own_provide.result c.own_provide.ensures.right

pub returns-clause-own : goal.returns-clause-own
returns-clause-own g c = ap (λ (z : SharesState). z.owner) c.own_provide.ensures.counted

pub returns-clause-only : goal.returns-clause-only
returns-clause-only g c = owner_alone c.args.shares.now c.own_provide.new.shares _ c.own_provide.ensures.counted
