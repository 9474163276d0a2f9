use Rattle.wh_host_model.proofs.Host.Lasting.{memory_stays_sound, places_stay_right, modules_stay_accepted, journals_stay_in_order, inputs_stay, frames_are_awaited}
use Rattle.wh_host_model.proofs.Host.Copied.{copied_stay_ended}
use Rattle.wh_host_model.proofs.runs.every_misread_run.Goals as goal

pub returns-clause-memory_stays_sound : goal.returns-clause-memory_stays_sound
returns-clause-memory_stays_sound c = memory_stays_sound

pub returns-clause-places_stay_right : goal.returns-clause-places_stay_right
returns-clause-places_stay_right c = places_stay_right

pub returns-clause-modules_stay_accepted : goal.returns-clause-modules_stay_accepted
returns-clause-modules_stay_accepted c = modules_stay_accepted

pub returns-clause-journals_stay_in_order : goal.returns-clause-journals_stay_in_order
returns-clause-journals_stay_in_order c = journals_stay_in_order

pub returns-clause-copied_stay_ended : goal.returns-clause-copied_stay_ended
returns-clause-copied_stay_ended c = copied_stay_ended

pub returns-clause-inputs_stay : goal.returns-clause-inputs_stay
returns-clause-inputs_stay c = inputs_stay

pub returns-clause-frames_are_awaited : goal.returns-clause-frames_are_awaited
returns-clause-frames_are_awaited c = frames_are_awaited
