use Rattle.wh_desk.proofs.EndsThere.{exported_there}
use Rattle.wh_desk.proofs.copying.copied_export.Goals as goal

pub unreachable-requires : goal.unreachable-requires
unreachable-requires c = exported_there c.args.host.now c.invariant.ensures c.args.of.number c.args.at c.requires.0 c.requires.1 c.requires.2 c.in_default.ensures.none
