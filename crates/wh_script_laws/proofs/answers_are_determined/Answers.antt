use Rattle.wh_script_laws.proofs.Determined.{lines_are_determined, answers_are_determined, answers_out_of_memory_are_determined}
use Rattle.wh_script_laws.proofs.answers_are_determined.Goals as goal

pub returns-clause-lines : goal.returns-clause-lines
returns-clause-lines c = lines_are_determined

pub returns-clause-script : goal.returns-clause-script
returns-clause-script c = answers_are_determined

pub returns-clause-may_run_out : goal.returns-clause-may_run_out
returns-clause-may_run_out c = answers_out_of_memory_are_determined
