use Rattle.wh_routes.proofs.Apart.{rooted_none}
use Rattle.wh_routes.proofs.finding.rooted.Goals as goal

pub returns-clause-none : goal.returns-clause-none
returns-clause-none c = rooted_none c.args.rest.now _ _ _ c.cut.ensures.pieces c.in-Some.is c.if-is_same.ensures
