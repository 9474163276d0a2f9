use Rattle.wh_model.proofs.LinkingLemmas.{one_first_fault, links_no_fault}
use Rattle.wh_model.proofs.Beginnings.{some_beginning}
use Rattle.wh_model.proofs.laws.linking_holds.Goals as goal

pub returns-clause-one_first_fault : goal.returns-clause-one_first_fault
returns-clause-one_first_fault c = one_first_fault

pub returns-clause-links_without_fault : goal.returns-clause-links_without_fault
returns-clause-links_without_fault c = links_no_fault

pub returns-clause-some_beginning : goal.returns-clause-some_beginning
returns-clause-some_beginning c = some_beginning
