use Rattle.std.proofs.Common.{arith}
use Rattle.wolqedir.proofs.EndsTold.{ended_told, few_ended}
use Rattle.wolqedir.proofs.looking.ended_status.Goals as goal

pub overflow_cast-at : goal.overflow_cast-at
overflow_cast-at c = let few = few_ended c.args.hand.now.host c.args.id c.args.at c.invariant.ensures c.requires in omega (arith, few)

pub unreachable-requires : goal.unreachable-requires
unreachable-requires c = ended_told c.args.hand.now.host c.args.id c.args.at c.invariant.ensures c.requires c.in_default.ensures.tells
