use Rattle.std.proofs.Common.{arith}
use Rattle.wh_scheduler.proofs.InRounds.{spent_turns}
use Rattle.wh_scheduler.proofs.round_room.RoundRoom.run.Goals as goal

pub returns-clause-turns : goal.returns-clause-turns
returns-clause-turns g c =
    let k = c.turns_at_once in
    let front = c.split_at_mut-runners.ensures.front_len in
    let left = spent_turns k.new.runners c.args.orders.now k.new.orders (omega (arith, k.auto.runners, c.give_all.auto.runners, front)) (omega (arith, k.auto.orders)) k.ensures.orders in
    omega (arith, k.ensures.worker.turns_are, left)
