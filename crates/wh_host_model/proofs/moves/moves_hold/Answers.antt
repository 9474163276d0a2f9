use Rattle.wh_host_model.proofs.Host.Arriving.{copies_arrive}
use Rattle.wh_host_model.proofs.Host.AsMany.{fetches_see_as_many, provisions_see_as_many, failures_see_as_many}
use Rattle.wh_host_model.proofs.Host.Bridges.{loads_step, stores_step, growth_steps, waits_well, ends_well, epochs_leave_all, offers_leave_all, evictions_begin, writes_leave_all, evictions_end, fetches_begin, fetches_end, provisions_leave_all, failures_leave_all, entrants_arrive, exits_depart}
use Rattle.wh_host_model.proofs.moves.moves_hold.Goals as goal

pub returns-clause-loads_step : goal.returns-clause-loads_step
returns-clause-loads_step c = loads_step

pub returns-clause-stores_step : goal.returns-clause-stores_step
returns-clause-stores_step c = stores_step

pub returns-clause-growth_steps : goal.returns-clause-growth_steps
returns-clause-growth_steps c = growth_steps

pub returns-clause-waits_well : goal.returns-clause-waits_well
returns-clause-waits_well c = waits_well

pub returns-clause-ends_well : goal.returns-clause-ends_well
returns-clause-ends_well c = ends_well

pub returns-clause-epochs_leave_all : goal.returns-clause-epochs_leave_all
returns-clause-epochs_leave_all c = epochs_leave_all

pub returns-clause-offers_leave_all : goal.returns-clause-offers_leave_all
returns-clause-offers_leave_all c = offers_leave_all

pub returns-clause-evictions_begin : goal.returns-clause-evictions_begin
returns-clause-evictions_begin c = evictions_begin

pub returns-clause-writes_leave_all : goal.returns-clause-writes_leave_all
returns-clause-writes_leave_all c = writes_leave_all

pub returns-clause-evictions_end : goal.returns-clause-evictions_end
returns-clause-evictions_end c = evictions_end

pub returns-clause-fetches_begin : goal.returns-clause-fetches_begin
returns-clause-fetches_begin c = fetches_begin

pub returns-clause-fetches_end : goal.returns-clause-fetches_end
returns-clause-fetches_end c = fetches_end

pub returns-clause-provisions_leave_all : goal.returns-clause-provisions_leave_all
returns-clause-provisions_leave_all c = provisions_leave_all

pub returns-clause-failures_leave_all : goal.returns-clause-failures_leave_all
returns-clause-failures_leave_all c = failures_leave_all

pub returns-clause-entrants_arrive : goal.returns-clause-entrants_arrive
returns-clause-entrants_arrive c = entrants_arrive

pub returns-clause-exits_depart : goal.returns-clause-exits_depart
returns-clause-exits_depart c = exits_depart

pub returns-clause-fetches_see_as_many : goal.returns-clause-fetches_see_as_many
returns-clause-fetches_see_as_many c = fetches_see_as_many

pub returns-clause-provisions_see_as_many : goal.returns-clause-provisions_see_as_many
returns-clause-provisions_see_as_many c = provisions_see_as_many

pub returns-clause-failures_see_as_many : goal.returns-clause-failures_see_as_many
returns-clause-failures_see_as_many c = failures_see_as_many

pub returns-clause-copies_arrive : goal.returns-clause-copies_arrive
returns-clause-copies_arrive c = copies_arrive
