use Rattle.wh_desk.proofs.Nothing.{instances_as_none, modules_as_none}
use Rattle.wh_desk.proofs.laws.strangers_find_none.Goals as goal

pub returns-clause-instances : goal.returns-clause-instances
returns-clause-instances c = instances_as_none

pub returns-clause-modules : goal.returns-clause-modules
returns-clause-modules c = modules_as_none
