use Rattle.std.proofs.Common.{arith}
use Rattle.wh_desk.proofs.EndsThere.{ended_told, few_ended}
use Rattle.wh_desk.proofs.copying.ended_status.Goals as goal

pub overflow_cast-at : goal.overflow_cast-at
overflow_cast-at c =
    let few = few_ended c.args.host.now c.invariant.ensures c.args.id c.args.at c.requires.0 c.requires.1 c.requires.2 in
    omega (arith, few)

pub unreachable-requires : goal.unreachable-requires
unreachable-requires c = ended_told c.args.host.now c.invariant.ensures c.args.id c.args.at c.requires.0 c.requires.1 c.requires.2 (c.in_default.ensures)
