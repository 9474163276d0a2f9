use Rattle.wh_routes.proofs.Once as lemmas
use Rattle.wh_routes.proofs.laws.one_resource.Goals as goal

pub returns : goal.returns
returns c = lemmas.one_resource
