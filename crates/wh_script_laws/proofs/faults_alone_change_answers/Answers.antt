use Rattle.wh_script_laws.proofs.Faultless.{faultless_lines, faultless_scripts, lines_leave_nobody}
use Rattle.wh_script_laws.proofs.Stopping.{faults_stop_few, no_call_goes_back, none_goes_on_unasked}
use Rattle.wh_script_laws.proofs.WorkedFaults.{store_is_cancelled, store_is_retried}
use Rattle.wh_script_laws.proofs.faults_alone_change_answers.Goals as goal

pub returns-clause-nobody : goal.returns-clause-nobody
returns-clause-nobody c = lines_leave_nobody

pub returns-clause-lines : goal.returns-clause-lines
returns-clause-lines c = faultless_lines

pub returns-clause-scripts : goal.returns-clause-scripts
returns-clause-scripts c = faultless_scripts

pub returns-clause-store_is_retried : goal.returns-clause-store_is_retried
returns-clause-store_is_retried c = store_is_retried

pub returns-clause-store_is_cancelled : goal.returns-clause-store_is_cancelled
returns-clause-store_is_cancelled c = store_is_cancelled

pub returns-clause-stop_few : goal.returns-clause-stop_few
returns-clause-stop_few c = faults_stop_few

pub returns-clause-none_goes_back : goal.returns-clause-none_goes_back
returns-clause-none_goes_back c = no_call_goes_back

pub returns-clause-none_goes_on_unasked : goal.returns-clause-none_goes_on_unasked
returns-clause-none_goes_on_unasked c = none_goes_on_unasked
