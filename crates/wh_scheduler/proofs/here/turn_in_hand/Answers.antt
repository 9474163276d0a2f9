use Rattle.std.proofs.Common.{ap}
use Rattle.wh_threads.specs.Counting.{SharesState}
use Rattle.wh_scheduler.proofs.OwnTurns.{owner_alone}
use Rattle.wh_scheduler.proofs.here.turn_in_hand.Goals as goal

pub returns-clause-runs : goal.returns-clause-runs
returns-clause-runs g c =
    let counted = c.own_turn.ensures.counted in
    record { taken = counted.0; books_are = counted.3; own_is = ap (λ (z : SharesState). z.owner) counted.2 }

pub returns-clause-only : goal.returns-clause-only
returns-clause-only g c = owner_alone c.args.shares.now c.own_turn.new.shares _ c.own_turn.ensures.counted.2
