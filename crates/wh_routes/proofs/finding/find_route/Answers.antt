use Rattle.wh_routes.proofs.Slashes.{found_by, none_by}
use Rattle.wh_routes.proofs.finding.find_route.Goals as goal

pub returns-in-Some-clause-found : goal.returns-in-Some-clause-found
returns-in-Some-clause-found c = found_by c.args.path.now c.in-Some.rest.now c.in-Some.ensures.some c.rooted.result c.rooted.ensures.found

pub returns-in-Some-clause-none : goal.returns-in-Some-clause-none
returns-in-Some-clause-none c = none_by c.args.path.now c.in-Some.rest.now c.in-Some.ensures.some c.rooted.result c.rooted.ensures.none
