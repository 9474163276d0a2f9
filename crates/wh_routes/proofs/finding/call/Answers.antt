use Rattle.wh_routes.proofs.Apart.{call_none, after_cut}
use Rattle.wh_routes.proofs.finding.call.Goals as goal

pub returns-in-Some-rest-clause-none : goal.returns-in-Some-rest-clause-none
returns-in-Some-rest-clause-none c =
    call_none c.cut.result.0.now c.in-Some.rest.now _ _ _ c.args.rest.now (after_cut c.args.rest.now _ _ c.in-Some.rest c.cut.ensures.pieces c.in-Some.is)
    c.cut-2.ensures.pieces c.in-Some-rest.is
