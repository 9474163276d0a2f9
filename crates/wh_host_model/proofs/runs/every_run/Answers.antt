use Rattle.wh_host_model.proofs.Host.Numbered.{modules_are_kept}
use Rattle.wh_host_model.proofs.Host.Progress.{unloads_are_taken}
use Rattle.wh_host_model.proofs.Host.Copied.{copied_calls_have_ended}
use Rattle.wh_host_model.proofs.Host.Copying.{forks_are_taken}
use Rattle.wh_host_model.proofs.Host.StuckLemmas.{no_call_is_stuck}
use Rattle.wh_host_model.proofs.Host.Holding.{memory_is_sound, places_are_right, instances_replay, charges_are_within, journals_are_in_order, suspensions_are_right, frame_is_lacking, again_is_ready}
use Rattle.wh_host_model.proofs.Host.Agreeing.{one_turn}
use Rattle.wh_host_model.proofs.Host.Apart.{no_bytes_reach_another}
use Rattle.wh_host_model.proofs.Host.Admitting.{admissions_are_taken}
use Rattle.wh_host_model.proofs.Host.Progress.{loads_are_taken, calls_are_taken, idle_turns_happen, fuel_turns_happen}
use Rattle.wh_host_model.proofs.Host.Promising.{promises_are_kept}
use Rattle.wh_host_model.proofs.Host.Starting.{events_happen, ready_turns_happen}
use Rattle.wh_host_model.proofs.Host.Taken.{ready_steps_are_taken}
use Rattle.wh_host_model.proofs.runs.every_run.Goals as goal

pub returns-clause-memory_is_sound : goal.returns-clause-memory_is_sound
returns-clause-memory_is_sound c = memory_is_sound

pub returns-clause-places_are_right : goal.returns-clause-places_are_right
returns-clause-places_are_right c = places_are_right

pub returns-clause-promises_are_kept : goal.returns-clause-promises_are_kept
returns-clause-promises_are_kept c = promises_are_kept

pub returns-clause-instances_replay : goal.returns-clause-instances_replay
returns-clause-instances_replay c = instances_replay

pub returns-clause-no_call_is_stuck : goal.returns-clause-no_call_is_stuck
returns-clause-no_call_is_stuck c = no_call_is_stuck

pub returns-clause-charges_are_within : goal.returns-clause-charges_are_within
returns-clause-charges_are_within c = charges_are_within

pub returns-clause-journals_are_in_order : goal.returns-clause-journals_are_in_order
returns-clause-journals_are_in_order c = journals_are_in_order

pub returns-clause-suspensions_are_right : goal.returns-clause-suspensions_are_right
returns-clause-suspensions_are_right c = suspensions_are_right

pub returns-clause-frame_is_lacking : goal.returns-clause-frame_is_lacking
returns-clause-frame_is_lacking c = frame_is_lacking

pub returns-clause-again_is_ready : goal.returns-clause-again_is_ready
returns-clause-again_is_ready c = again_is_ready

pub returns-clause-one_turn : goal.returns-clause-one_turn
returns-clause-one_turn c = one_turn

pub returns-clause-no_bytes_reach_another : goal.returns-clause-no_bytes_reach_another
returns-clause-no_bytes_reach_another c = no_bytes_reach_another

pub returns-clause-events_happen : goal.returns-clause-events_happen
returns-clause-events_happen c = events_happen

pub returns-clause-loads_are_taken : goal.returns-clause-loads_are_taken
returns-clause-loads_are_taken c = loads_are_taken

pub returns-clause-admissions_are_taken : goal.returns-clause-admissions_are_taken
returns-clause-admissions_are_taken c = admissions_are_taken

pub returns-clause-calls_are_taken : goal.returns-clause-calls_are_taken
returns-clause-calls_are_taken c = calls_are_taken

pub returns-clause-idle_turns_happen : goal.returns-clause-idle_turns_happen
returns-clause-idle_turns_happen c = idle_turns_happen

pub returns-clause-fuel_turns_happen : goal.returns-clause-fuel_turns_happen
returns-clause-fuel_turns_happen c = fuel_turns_happen

pub returns-clause-ready_turns_happen : goal.returns-clause-ready_turns_happen
returns-clause-ready_turns_happen c = ready_turns_happen

pub returns-clause-ready_steps_are_taken : goal.returns-clause-ready_steps_are_taken
returns-clause-ready_steps_are_taken c = ready_steps_are_taken

pub returns-clause-forks_are_taken : goal.returns-clause-forks_are_taken
returns-clause-forks_are_taken c = forks_are_taken

pub returns-clause-copied_calls_have_ended : goal.returns-clause-copied_calls_have_ended
returns-clause-copied_calls_have_ended c = copied_calls_have_ended

pub returns-clause-unloads_are_taken : goal.returns-clause-unloads_are_taken
returns-clause-unloads_are_taken c = unloads_are_taken

pub returns-clause-modules_are_kept : goal.returns-clause-modules_are_kept
returns-clause-modules_are_kept c = modules_are_kept
