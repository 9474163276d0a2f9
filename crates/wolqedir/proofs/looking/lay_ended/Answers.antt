use Rattle.std.proofs.Common.{arith}
use Rattle.wolqedir.proofs.EndsTold.{one_more_told}
use Rattle.wolqedir.proofs.looking.lay_ended.Goals as goal

pub ended_status-requires : goal.ended_status-requires
ended_status-requires c =
    let less = c.loop-at-test.true in
    let least = c.min-many.ensures in
    let left = c.saturating_sub.ensures in
    (c.args.ended, c.requires, omega (arith, less, least, left))

pub loop-at-preserved : goal.loop-at-preserved
loop-at-preserved c =
    let less = c.loop-at-test.true in
    let least = c.min-many.ensures in
    let long = c.loop-at.invariant.as_long in
    one_more_told c.args.hand.now.host c.args.id c.args.from c.loop-at.at c.args.room.now c.loop-at.room c.ended_status.result c.loop-at.invariant
    (omega (arith, less, least, long)) c.ended_status.ensures
