use Rattle.wh_model.proofs.Agrees.{agrees, after_agrees, charged_settles}
use Rattle.wh_model.proofs.laws.focus_holds.Goals as goal

pub returns-clause-agrees : goal.returns-clause-agrees
returns-clause-agrees c = agrees

pub returns-clause-after_agrees : goal.returns-clause-after_agrees
returns-clause-after_agrees c = after_agrees

pub returns-clause-charged_settles : goal.returns-clause-charged_settles
returns-clause-charged_settles c = charged_settles
