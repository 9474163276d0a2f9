use Rattle.wh_space_model.proofs.ForkedPayer.{copies_leave_payer}
use Rattle.wh_space_model.proofs.Unlisting.{only_lends_unlist}
use Rattle.wh_space_model.proofs.ForkedCharges.{copies_are_free, copies_leave_ready}
use Rattle.wh_space_model.proofs.Forked.{copies_are_right, lends_alone, lends_soundly}
use Rattle.wh_space_model.proofs.Deciding.{ready_decided, no_bytes_are_ready, one_use_of_a_frame, page_to_take, slot_to_take, eviction_keeps, fetch_keeps_sound, fetch_keeps_bytes}
use Rattle.wh_space_model.proofs.Provided.{moves_nearer, provision_is_right}
use Rattle.wh_space_model.proofs.Reserved.{begin_evict_sound}
use Rattle.wh_space_model.proofs.Transit.{begin_evict_bytes, begin_fetch_bytes, commit_evict_bytes, commit_fetch_bytes}
use Rattle.wh_space_model.proofs.Quiet.{written_quiet, steps_quiet, grew_own, enters_own, exits_own, pins_end, gone_is_skipped}
use Rattle.wh_space_model.proofs.Voiding.{written_is_void, released_is_void, nothing_needless}
use Rattle.wh_space_model.proofs.Steady.{touches_soundly, epochs_soundly, writes_soundly, waits_soundly, ends_soundly}
use Rattle.wh_space_model.proofs.Sent.{commits_soundly}
use Rattle.wh_space_model.proofs.Listed.{offers_quiet, offers_soundly}
use Rattle.wh_space_model.proofs.Awaited.{begin_fetch_sound}
use Rattle.wh_space_model.proofs.Come.{commits_fetch_soundly}
use Rattle.wh_space_model.proofs.Enlarged.{grows_soundly, grows_by_zeros}
use Rattle.wh_space_model.proofs.Entered.{enters_soundly, enters_at_zeros}
use Rattle.wh_space_model.proofs.Exited.{exits_soundly}
use Rattle.wh_space_model.proofs.Chained.{empty_sound, fails_soundly, stays_sound, scans_soundly}
use Rattle.wh_space_model.proofs.Filled.{breaks_soundly, stores_soundly, stores_are_right}
use Rattle.wh_space_model.proofs.Filling.{some_store}
use Rattle.wh_space_model.proofs.Passed.{contents_are_listed, passes_fully, passes_list_all}
use Rattle.wh_space_model.proofs.Charging.{charges_add_up, one_charged_page}
use Rattle.wh_space_model.proofs.OnePage.{one_page_must_leave}
use Rattle.wh_space_model.proofs.laws.space_holds.Goals as goal

pub returns-clause-ready_is_decided : goal.returns-clause-ready_is_decided
returns-clause-ready_is_decided c = ready_decided

pub returns-clause-no_bytes_are_ready : goal.returns-clause-no_bytes_are_ready
returns-clause-no_bytes_are_ready c = no_bytes_are_ready

pub returns-clause-one_use_of_a_frame : goal.returns-clause-one_use_of_a_frame
returns-clause-one_use_of_a_frame c = one_use_of_a_frame

pub returns-clause-some_page_can_be_taken : goal.returns-clause-some_page_can_be_taken
returns-clause-some_page_can_be_taken c = page_to_take

pub returns-clause-some_slot_is_vacant : goal.returns-clause-some_slot_is_vacant
returns-clause-some_slot_is_vacant c = slot_to_take

pub returns-clause-eviction_keeps_all : goal.returns-clause-eviction_keeps_all
returns-clause-eviction_keeps_all c = eviction_keeps

pub returns-clause-fetch_keeps_sound : goal.returns-clause-fetch_keeps_sound
returns-clause-fetch_keeps_sound c = fetch_keeps_sound

pub returns-clause-fetch_keeps_bytes : goal.returns-clause-fetch_keeps_bytes
returns-clause-fetch_keeps_bytes c = fetch_keeps_bytes

pub returns-clause-moves_are_few : goal.returns-clause-moves_are_few
returns-clause-moves_are_few c = moves_nearer

pub returns-clause-provision_is_right : goal.returns-clause-provision_is_right
returns-clause-provision_is_right c = provision_is_right

pub returns-clause-begins_evict_soundly : goal.returns-clause-begins_evict_soundly
returns-clause-begins_evict_soundly c = begin_evict_sound

pub returns-clause-begins_evict_quietly : goal.returns-clause-begins_evict_quietly
returns-clause-begins_evict_quietly c = begin_evict_bytes

pub returns-clause-begins_fetch_quietly : goal.returns-clause-begins_fetch_quietly
returns-clause-begins_fetch_quietly c = begin_fetch_bytes

pub returns-clause-commits_evict_quietly : goal.returns-clause-commits_evict_quietly
returns-clause-commits_evict_quietly c = commit_evict_bytes

pub returns-clause-commits_fetch_quietly : goal.returns-clause-commits_fetch_quietly
returns-clause-commits_fetch_quietly c = commit_fetch_bytes

pub returns-clause-offers_quietly : goal.returns-clause-offers_quietly
returns-clause-offers_quietly c = offers_quiet

pub returns-clause-writes_quietly : goal.returns-clause-writes_quietly
returns-clause-writes_quietly c = written_quiet

pub returns-clause-steps_quietly : goal.returns-clause-steps_quietly
returns-clause-steps_quietly c = steps_quiet

pub returns-clause-grows_alone : goal.returns-clause-grows_alone
returns-clause-grows_alone c = grew_own

pub returns-clause-enters_alone : goal.returns-clause-enters_alone
returns-clause-enters_alone c = enters_own

pub returns-clause-exits_alone : goal.returns-clause-exits_alone
returns-clause-exits_alone c = exits_own

pub returns-clause-pins_end : goal.returns-clause-pins_end
returns-clause-pins_end c = pins_end

pub returns-clause-gone_is_skipped : goal.returns-clause-gone_is_skipped
returns-clause-gone_is_skipped c = gone_is_skipped

pub returns-clause-written_is_void : goal.returns-clause-written_is_void
returns-clause-written_is_void c = written_is_void

pub returns-clause-released_is_void : goal.returns-clause-released_is_void
returns-clause-released_is_void c = released_is_void

pub returns-clause-nothing_needless : goal.returns-clause-nothing_needless
returns-clause-nothing_needless c = nothing_needless

pub returns-clause-touches_soundly : goal.returns-clause-touches_soundly
returns-clause-touches_soundly c = touches_soundly

pub returns-clause-epochs_soundly : goal.returns-clause-epochs_soundly
returns-clause-epochs_soundly c = epochs_soundly

pub returns-clause-writes_soundly : goal.returns-clause-writes_soundly
returns-clause-writes_soundly c = writes_soundly

pub returns-clause-waits_soundly : goal.returns-clause-waits_soundly
returns-clause-waits_soundly c = waits_soundly

pub returns-clause-ends_soundly : goal.returns-clause-ends_soundly
returns-clause-ends_soundly c = ends_soundly

pub returns-clause-commits_evict_soundly : goal.returns-clause-commits_evict_soundly
returns-clause-commits_evict_soundly c = commits_soundly

pub returns-clause-offers_soundly : goal.returns-clause-offers_soundly
returns-clause-offers_soundly c = offers_soundly

pub returns-clause-begins_fetch_soundly : goal.returns-clause-begins_fetch_soundly
returns-clause-begins_fetch_soundly c = begin_fetch_sound

pub returns-clause-commits_fetch_soundly : goal.returns-clause-commits_fetch_soundly
returns-clause-commits_fetch_soundly c = commits_fetch_soundly

pub returns-clause-grows_soundly : goal.returns-clause-grows_soundly
returns-clause-grows_soundly c = grows_soundly

pub returns-clause-grows_by_zeros : goal.returns-clause-grows_by_zeros
returns-clause-grows_by_zeros c = grows_by_zeros

pub returns-clause-enters_soundly : goal.returns-clause-enters_soundly
returns-clause-enters_soundly c = enters_soundly

pub returns-clause-enters_at_zeros : goal.returns-clause-enters_at_zeros
returns-clause-enters_at_zeros c = enters_at_zeros

pub returns-clause-exits_soundly : goal.returns-clause-exits_soundly
returns-clause-exits_soundly c = exits_soundly

pub returns-clause-fails_soundly : goal.returns-clause-fails_soundly
returns-clause-fails_soundly c = fails_soundly

pub returns-clause-empty_is_sound : goal.returns-clause-empty_is_sound
returns-clause-empty_is_sound c = empty_sound

pub returns-clause-stays_sound : goal.returns-clause-stays_sound
returns-clause-stays_sound c = stays_sound

pub returns-clause-scans_soundly : goal.returns-clause-scans_soundly
returns-clause-scans_soundly c = scans_soundly

pub returns-clause-breaks_soundly : goal.returns-clause-breaks_soundly
returns-clause-breaks_soundly c = breaks_soundly

pub returns-clause-stores_soundly : goal.returns-clause-stores_soundly
returns-clause-stores_soundly c = stores_soundly

pub returns-clause-stores_are_right : goal.returns-clause-stores_are_right
returns-clause-stores_are_right c = stores_are_right

pub returns-clause-some_store : goal.returns-clause-some_store
returns-clause-some_store c = some_store

pub returns-clause-passes_fully : goal.returns-clause-passes_fully
returns-clause-passes_fully c = passes_fully

pub returns-clause-contents_are_listed : goal.returns-clause-contents_are_listed
returns-clause-contents_are_listed c = contents_are_listed

pub returns-clause-one_charged_page : goal.returns-clause-one_charged_page
returns-clause-one_charged_page c = one_charged_page

pub returns-clause-charges_add_up : goal.returns-clause-charges_add_up
returns-clause-charges_add_up c = charges_add_up

pub returns-clause-one_page_must_leave : goal.returns-clause-one_page_must_leave
returns-clause-one_page_must_leave c = one_page_must_leave

pub returns-clause-lends_soundly : goal.returns-clause-lends_soundly
returns-clause-lends_soundly c = lends_soundly

pub returns-clause-lends_alone : goal.returns-clause-lends_alone
returns-clause-lends_alone c = lends_alone

pub returns-clause-copies_are_right : goal.returns-clause-copies_are_right
returns-clause-copies_are_right c = copies_are_right

pub returns-clause-copies_are_free : goal.returns-clause-copies_are_free
returns-clause-copies_are_free c = copies_are_free

pub returns-clause-copies_leave_ready : goal.returns-clause-copies_leave_ready
returns-clause-copies_leave_ready c = copies_leave_ready

pub returns-clause-passes_list_all : goal.returns-clause-passes_list_all
returns-clause-passes_list_all c = passes_list_all

pub returns-clause-only_lends_unlist : goal.returns-clause-only_lends_unlist
returns-clause-only_lends_unlist c = only_lends_unlist

pub returns-clause-copies_leave_payer : goal.returns-clause-copies_leave_payer
returns-clause-copies_leave_payer c = copies_leave_payer
