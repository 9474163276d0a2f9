use Rattle.wh_routes.proofs.Apart.{versioned_none}
use Rattle.wh_routes.proofs.finding.versioned.Goals as goal

pub returns-clause-none : goal.returns-clause-none
returns-clause-none c = versioned_none c.args.rest.now _ _ _ c.cut.ensures.pieces c.in-Some.is c.if-is_same.ensures c.if-is_same-2.ensures
