use Rattle.wh_script_model.proofs.Once.{runs_once}
use Rattle.wh_script_model.proofs.Serving.{served_as_alone}
use Rattle.wh_script_model.proofs.Sevens.{seven_is_answered, seven_is_printed, refuel_is_refused}
use Rattle.wh_script_model.proofs.Loops.{loop_is_answered}
use Rattle.wh_script_model.proofs.Begun.{lines_begin}
use Rattle.wh_script_model.proofs.Draining.{drains_once}
use Rattle.wh_script_model.proofs.answers_hold.Goals as goal

pub returns-clause-seven_is_answered : goal.returns-clause-seven_is_answered
returns-clause-seven_is_answered c = seven_is_answered

pub returns-clause-loop_is_answered : goal.returns-clause-loop_is_answered
returns-clause-loop_is_answered c = loop_is_answered

pub returns-clause-refuel_is_refused : goal.returns-clause-refuel_is_refused
returns-clause-refuel_is_refused c = refuel_is_refused

pub returns-clause-runs_once : goal.returns-clause-runs_once
returns-clause-runs_once c = runs_once

pub returns-clause-drains_once : goal.returns-clause-drains_once
returns-clause-drains_once c = drains_once

pub returns-clause-lines_begin : goal.returns-clause-lines_begin
returns-clause-lines_begin c = lines_begin

pub returns-clause-seven_is_printed : goal.returns-clause-seven_is_printed
returns-clause-seven_is_printed c = seven_is_printed

pub returns-clause-served_as_alone : goal.returns-clause-served_as_alone
returns-clause-served_as_alone c = served_as_alone
