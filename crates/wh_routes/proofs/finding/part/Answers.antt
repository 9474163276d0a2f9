use Rattle.wh_routes.proofs.Apart.{part_none}
use Rattle.wh_routes.proofs.finding.part.Goals as goal

pub returns-then-not-is_same-clause-none : goal.returns-then-not-is_same-clause-none
returns-then-not-is_same-clause-none c = part_none c.args.rest.now _ _ _ c.cut.ensures.pieces c.in-Some.is c.if-not-is_same.ensures
