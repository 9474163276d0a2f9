use Rattle.wh_model.proofs.Instance.{one_beginning}
use Rattle.wh_model.proofs.Journals.{one_end, one_standing, start_is_called, fuel_suffices, arguments_fit, running_goes_on, others_wait, dead_do_nothing, returned_has_written, pieces_in_order, cancelled_stays, done_replays, trapped_replays, fuel_replays}
use Rattle.wh_model.proofs.Histories.{history_before, history_splits, journal_grows}
use Rattle.wh_model.proofs.Fragments.{fragments_in_pages, fragments_within, cut_at_multiples, cut_of_three, fragments_write, beginning_writes}
use Rattle.wh_model.proofs.laws.journals_hold.Goals as goal

pub returns-clause-one_beginning : goal.returns-clause-one_beginning
returns-clause-one_beginning c = one_beginning

pub returns-clause-one_end : goal.returns-clause-one_end
returns-clause-one_end c = one_end

pub returns-clause-one_standing : goal.returns-clause-one_standing
returns-clause-one_standing c = one_standing

pub returns-clause-history_before : goal.returns-clause-history_before
returns-clause-history_before c = history_before

pub returns-clause-history_splits : goal.returns-clause-history_splits
returns-clause-history_splits c = history_splits

pub returns-clause-journal_grows : goal.returns-clause-journal_grows
returns-clause-journal_grows c = journal_grows

pub returns-clause-start_is_called : goal.returns-clause-start_is_called
returns-clause-start_is_called c = start_is_called

pub returns-clause-fuel_suffices : goal.returns-clause-fuel_suffices
returns-clause-fuel_suffices c = fuel_suffices

pub returns-clause-arguments_fit : goal.returns-clause-arguments_fit
returns-clause-arguments_fit c = arguments_fit

pub returns-clause-running_goes_on : goal.returns-clause-running_goes_on
returns-clause-running_goes_on c = running_goes_on

pub returns-clause-others_wait : goal.returns-clause-others_wait
returns-clause-others_wait c = others_wait

pub returns-clause-dead_do_nothing : goal.returns-clause-dead_do_nothing
returns-clause-dead_do_nothing c = dead_do_nothing

pub returns-clause-returned_has_written : goal.returns-clause-returned_has_written
returns-clause-returned_has_written c = returned_has_written

pub returns-clause-pieces_in_order : goal.returns-clause-pieces_in_order
returns-clause-pieces_in_order c = pieces_in_order

pub returns-clause-cancelled_stays : goal.returns-clause-cancelled_stays
returns-clause-cancelled_stays c = cancelled_stays

pub returns-clause-done_replays : goal.returns-clause-done_replays
returns-clause-done_replays c = done_replays

pub returns-clause-trapped_replays : goal.returns-clause-trapped_replays
returns-clause-trapped_replays c = trapped_replays

pub returns-clause-fuel_replays : goal.returns-clause-fuel_replays
returns-clause-fuel_replays c = fuel_replays

pub returns-clause-fragments_in_pages : goal.returns-clause-fragments_in_pages
returns-clause-fragments_in_pages c = fragments_in_pages

pub returns-clause-cut_at_multiples : goal.returns-clause-cut_at_multiples
returns-clause-cut_at_multiples c = cut_at_multiples

pub returns-clause-cut_of_three : goal.returns-clause-cut_of_three
returns-clause-cut_of_three c = cut_of_three

pub returns-clause-fragments_write : goal.returns-clause-fragments_write
returns-clause-fragments_write c = fragments_write

pub returns-clause-beginning_writes : goal.returns-clause-beginning_writes
returns-clause-beginning_writes c = beginning_writes

pub returns-clause-fragments_within : goal.returns-clause-fragments_within
returns-clause-fragments_within c = fragments_within
