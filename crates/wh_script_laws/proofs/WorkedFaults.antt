-- A call that stores a byte, and for which a call of a device fails.
use Rattle.std.proofs.Common.{◌≡◌, ◌≤◌, ℕ, ◌+◌, ◌*◌, inl, inr, Bool, true, false, List, [], ◌∷◌, length, replicate, slice_get, Option, Some, None, pos, codes, refl, sym, ap, ◌∙◌, arith, rules}
use Rattle.std.proofs.lemmas.Bool.{false≢true}
use Rattle.std.proofs.lemmas.List.{length-replicate}
use Rattle.std.proofs.lemmas.Option.{none-some}
use Rattle.std.specs.List.{AllZip, Contains}
use Rattle.wh_model.specs.declared.ValType.TheVariants.{I32}
use Rattle.wh_model.specs.declared.StoreOp.TheVariants.{I32Store8}
use Rattle.wh_model.specs.Format.{store, nothing, plain}
use Rattle.wh_model.specs.Execution.{Asks, unsigned, value, own, bytes_of, written, Beginning, memory_min, segment_bounds, begins, IsInitial, in_bounds, After, IsNext, Outcome, returned, dead, pending, Call, Stands, is_under_way, idle, at_rest, ended, at_work, has_written, was_cancelled}
use Rattle.wh_model.specs.Execution.Memory.{writing}
use Rattle.wh_model.specs.Execution.Store.{Instance, Store}
use Rattle.wh_model.specs.Execution.Replay as replay
use Rattle.wh_model.specs.Execution.Replay.{Replay}
use Rattle.wh_model.specs.Focus.Focused.{Focused}
use Rattle.wh_model.specs.Focus.{running, finished, activation, plug, Steps, steps, rests}
use Rattle.wh_model.proofs.Agrees.{after_agrees}
use Rattle.wh_model.proofs.Journals.{done_replays}
use Rattle.wh_model.proofs.StepsReduce.{steps_reduce}
use Rattle.wh_host_model.specs.{given_of, no_module, shares, min_max, frames, swap, instances, memory, segments, no_export, arguments, queue_full, instance_dead, journal_full, is_open, ExportsOwn}
use Rattle.wh_script_model.specs.{default_settings, admit, CallStatus, call, done, wants_frame, admit_ok, call_is, NamedInstance, call_accepted, Invoked, had_ended, goes_on, all_ended, has_none, as_before, anew, is_taken, MeetsNoLimit, MeetsNoBar, new_instance, is_admitted, is_invoked, instance_comes, is_cancelled, is_retried, no_fault_to_retry, NeedsBytes, for_a_step, LosesNothing, rests_alone, meets_fault, none_left, one_own, stands_still, runs_on, DrainsAmid, only_module, some_params, IsObeyedHere}
use Rattle.wh_script_model.specs.Texts as texts
use Rattle.wh_script_model.specs.ScriptState.{ScriptState}
use Rattle.wh_script_model.proofs.Beginning.{type_with, body_of}
use Rattle.wh_script_model.proofs.Sevens.{the_start, returned_isnt, names_one}
use Rattle.wh_script_laws.specs.WorkedFaults.{one_at_zero, with_one_page, StoreIsRetried, StoreIsCancelled}

-- ---- the instance, and its admission

abbrev the_instance : Instance
the_instance = record { types = type_with [] ∷ []; funcs = own (type_with []) (body_of one_at_zero) ∷ []; page_limit = 1 }

abbrev zeros : List ℕ
zeros = replicate (1 * 65536) 0

abbrev at_first : Store
at_first = record { bytes = zeros; globals = []; table = []; inputs = []; output = [] }

initial : IsInitial (with_one_page one_at_zero) (given_of some_params) (begins the_instance at_first [])
initial = in_bounds (omega arith) (record {
  types = refl;
  page_limit = refl;
  hosts = [];
  owns = own (type_with []) (body_of one_at_zero) ∷ [];
  imported = [];
  begun = [];
  imports = (refl, refl);
  defines = (type_with [], body_of one_at_zero, [], [], refl, refl, refl, (refl, refl));
  funcs = refl;
  begins = refl;
  globals_are = refl;
  elements_at = refl;
  segments_at = refl;
}) tt tt

abbrev begins_so : Beginning → Bool
begins_so memory_min = false
begins_so segment_bounds = false
begins_so (begins inst s pieces) = true

isnt_refused : (b : Beginning) → begins_so b ≡ false → IsInitial (with_one_page one_at_zero) (given_of some_params) b → ⊥
isnt_refused b e h = search rules

no_limit : MeetsNoLimit default_settings (only_module (with_one_page one_at_zero)) (with_one_page one_at_zero) some_params
no_limit no_module h = h
no_limit shares (inl h) = omega (arith, h)
no_limit shares (inr h) = omega (arith, h)
no_limit min_max (inl h) = omega (arith, h)
no_limit min_max (inr (inl h)) = omega (arith, h)
no_limit min_max (inr (inr h)) = omega (arith, h)
no_limit frames h = omega (arith, h)
no_limit swap h = omega (arith, h)
no_limit instances h = omega (arith, h)
no_limit memory h = isnt_refused memory_min refl h
no_limit segments h = isnt_refused segment_bounds refl h

abbrev tenant : NamedInstance
tenant = new_instance (codes "a") (with_one_page one_at_zero) some_params the_instance []

-- with these calls, standing for this
abbrev tenant_with : List Call → Option ℕ → NamedInstance
tenant_with calls stands = record tenant { calls = the_start ∷ calls; at_fault = stands }

abbrev with_tenant : NamedInstance → List Invoked → ScriptState
with_tenant g invoked = record (only_module (with_one_page one_at_zero)) { instances = g ∷ []; invoked = invoked }

none_yet : (i : ℕ) (g : NamedInstance) → slice_get {X = NamedInstance} [] i ≡ Some g → ⊥
none_yet i g h = none-some g h

is_admitted_so : IsObeyedHere (only_module (with_one_page one_at_zero)) 2 (admit (codes "a") (codes "m") some_params) (admit_ok (codes "a") 0 ∷ []) (with_tenant (tenant_with [] None) [])
is_admitted_so = instance_comes (0, refl) (λ i g h. none_yet i g h.0) (is_admitted no_limit initial)

exports_f : ExportsOwn (with_one_page one_at_zero) the_instance (codes "f") 0 (type_with []) (body_of one_at_zero)
exports_f = record { place = 0; exported = refl; is_own = refl }

no_bar : MeetsNoBar (tenant_with [] None) (codes "f") []
no_bar no_export h = h 0 _ _ exports_f
no_bar arguments h = h 0 _ _ [] exports_f refl
no_bar queue_full h = omega (arith, h)
no_bar instance_dead h = false≢true h
no_bar journal_full h = omega (arith, h)

-- ---- the run

abbrev before : Focused
before = running at_first (activation (type_with []) (body_of one_at_zero) []) []

-- the store is next
abbrev at_store : Focused
at_store = running at_first (record {
  operands = value I32 (unsigned 32 (pos 1)) ∷ value I32 (unsigned 32 (pos 0)) ∷ [];
  code = plain (store I32Store8 0 0) nothing;
  labels = record { carries = 0; next = nothing; beneath = []; after_end = nothing } ∷ [];
  locals = [];
  results = 0;
}) []

abbrev at_last : Store
at_last = record at_first { bytes = written zeros (unsigned 32 (pos 0) + 0) (bytes_of 1 (unsigned 32 (pos 1))) }

abbrev behind_store : Focused
behind_store = running at_last (record {
  operands = [];
  code = nothing;
  labels = record { carries = 0; next = nothing; beneath = []; after_end = nothing } ∷ [];
  locals = [];
  results = 0;
}) []

is_inside : unsigned 32 (pos 0) + 0 + 1 ≤ length zeros
unfolding unsigned
is_inside = let long = length-replicate {A = ℕ} (1 * 65536) 0 in omega (arith, long)

stores : Steps the_instance at_store 1 behind_store
stores = (refl, (unsigned 32 (pos 0), unsigned 32 (pos 1), [], refl, inl (is_inside, refl)))

none_free : (c : Focused) → Steps the_instance at_store 0 c → ⊥
none_free c x = let h = x.0 in absurd (omega arith)

after_none : After the_instance (plug before) 0 (plug at_store)
after_none = after_agrees.0 the_instance before at_store 0 (steps 0 0 (refl, refl) (steps 0 0 (refl, refl) rests), none_free)

next : IsNext the_instance (plug at_store)
next = (plug behind_store, steps_reduce the_instance at_store behind_store 1 stores)

after_one : After the_instance (plug before) 1 (plug (finished at_last []))
after_one =
    after_agrees.0 the_instance before (finished at_last []) 1
    (steps 0 1 (refl, refl) (steps 0 1 (refl, refl) (steps 1 0 stores (steps 0 0 (refl, inl (_, _, refl, refl)) (steps 0 0 (refl, inr (refl, refl, refl)) rests)))), λ c x. x)

asks : Asks the_instance (plug at_store) (writing (unsigned 32 (pos 0) + 0) 1)
asks = (value I32 (unsigned 32 (pos 1)), unsigned 32 (pos 0), [], refl, is_inside, refl)

-- ---- the journal

abbrev call_for : (charges : ℕ) → Outcome → Call
call_for charges o = record { func = Some 0; args = []; fuel = 5; fragments = 0; charges = charges; outcome = o }

stands : (o : Outcome) → Stands the_instance at_first [] (call_for 0 o) (replay.running (plug at_store))
stands o =
    is_under_way refl (omega arith)
    (record { index = 0; type = type_with []; body = body_of one_at_zero; calls = refl; is_own = refl; types = refl; fit = tt; begins = refl })
    after_none next

needs : NeedsBytes the_instance (call_for 0 pending) (replay.running (plug at_store))
needs = for_a_step (writing (unsigned 32 (pos 0) + 0) 1) (omega arith) next asks

pending_isnt_dead : pending ≡ dead → ⊥
pending_isnt_dead p = false≢true (sym (ap is_open p))

pending_isnt_cancelled : pending ≡ replay.cancelled → ⊥
pending_isnt_cancelled p = false≢true (sym (ap is_open p))

cancelled_isnt_dead : replay.cancelled ≡ dead → ⊥
cancelled_isnt_dead p = false≢true (sym (ap replay.fails p))

replays_first : Replay (with_one_page one_at_zero) (given_of some_params) (the_start ∷ call_for 0 pending ∷ []) (replay.running (plug at_store))
replays_first = (
  record { base = omega arith; salt = omega arith; inputs = tt },
  record { func = refl; args = refl; not_dead = returned_isnt [] dead refl; names = (names_one 0, tt); behind = (pending_isnt_dead, tt) },
  (the_instance, at_first, [], initial, ended (has_written refl refl refl refl) (at_work refl (stands pending) tt)),
)

replays_done : Replay (with_one_page one_at_zero) (given_of some_params) (the_start ∷ call_for 1 (returned []) ∷ []) (idle at_last)
replays_done = (
  record { base = omega arith; salt = omega arith; inputs = tt },
  record { func = refl; args = refl; not_dead = returned_isnt [] dead refl; names = (names_one 0, tt); behind = (returned_isnt [] dead refl, tt) },
  (
    the_instance,
    at_first,
    [],
    initial,
    ended (has_written refl refl refl refl)
        (done_replays the_instance at_first at_last 0 5 1 [] [] one_at_zero [] [] refl refl tt (omega arith) after_one),
  ),
)

replays_cancelled : Replay (with_one_page one_at_zero) (given_of some_params) (the_start ∷ call_for 0 replay.cancelled ∷ []) (idle at_first)
replays_cancelled = (
  record { base = omega arith; salt = omega arith; inputs = tt },
  record { func = refl; args = refl; not_dead = returned_isnt [] dead refl; names = (names_one 0, tt); behind = (cancelled_isnt_dead, tt) },
  (the_instance, at_first, [], initial, ended (has_written refl refl refl refl) (ended (was_cancelled refl (stands replay.cancelled)) at_rest)),
)

-- ---- the drains

abbrev said_last : Option CallStatus → Invoked
said_last status = record { outcome = call_accepted 0 1; last_printed = status }

-- once the fault was met
abbrev met_by : ScriptState → ScriptState
met_by w = record w { faults_met = 2 ∷ [] }

abbrev stuck : ScriptState
stuck = met_by (with_tenant (tenant_with (call_for 0 pending ∷ []) (Some 2)) (said_last (Some (wants_frame 2 0)) ∷ []))

met : Contains {X = ℕ} (2 ∷ []) 2
met = (0, omega arith, refl)

lost_by : (c : Call) → LosesNothing c c
lost_by c = record { fragments = omega arith; charges = omega arith }

lost : AllZip LosesNothing (the_start ∷ call_for 0 pending ∷ []) (the_start ∷ call_for 0 pending ∷ [])
lost = (lost_by the_start, (lost_by (call_for 0 pending), tt))

first_drain : DrainsAmid (2 ∷ []) (with_tenant (tenant_with (call_for 0 pending ∷ []) None) (said_last None ∷ [])) (call_is (call 1) (wants_frame 2 0) ∷ []) stuck
first_drain = record {
  run = tenant_with (call_for 0 pending ∷ []) (Some 2) ∷ [];
  instances = tenant_with (call_for 0 pending ∷ []) (Some 2) ∷ [];
  invoked = _;
  starts = [];
  calls = _;
  each_runs = (2 ∷ [], [], one_own none_left, runs_on refl refl (had_ended refl, (goes_on refl pending_isnt_cancelled, tt)) replays_first (meets_fault (call_for 0 pending) refl needs lost met), tt);
  print_starts = ([], [], _, [], refl, refl, has_none refl refl, (refl, refl));
  print_calls = (_, _, _, _, refl, refl, is_taken refl refl refl (anew (none-some _)), (refl, refl));
  lines_are = refl;
  after = refl;
}

-- the lines have changed
abbrev is_stuck : Option CallStatus → Bool
is_stuck (Some (wants_frame fault charges)) = true
is_stuck other = false

was_done : Some (wants_frame 2 0) ≡ Some (done None 1) → ⊥
was_done p = false≢true (sym (ap is_stuck p))

was_cancelled_so : Some (wants_frame 2 0) ≡ Some (texts.cancelled 0) → ⊥
was_cancelled_so p = false≢true (sym (ap is_stuck p))

last_drain : DrainsAmid [] (met_by (with_tenant (tenant_with (call_for 0 pending ∷ []) None) (said_last (Some (wants_frame 2 0)) ∷ []))) (call_is (call 1) (done None 1) ∷ [])
    (met_by (with_tenant (tenant_with (call_for 1 (returned []) ∷ []) None) (said_last (Some (done None 1)) ∷ [])))
last_drain = record {
  run = tenant_with (call_for 1 (returned []) ∷ []) None ∷ [];
  instances = tenant_with (call_for 1 (returned []) ∷ []) None ∷ [];
  invoked = _;
  starts = [];
  calls = _;
  each_runs = ([], [], none_left, runs_on refl refl (had_ended refl, (goes_on refl (returned_isnt [] replay.cancelled refl), tt)) replays_done (rests_alone (all_ended refl)), tt);
  print_starts = ([], [], _, [], refl, refl, has_none refl refl, (refl, refl));
  print_calls = (_, _, _, _, refl, refl, is_taken refl refl refl (anew was_done), (refl, refl));
  lines_are = refl;
  after = refl;
}

still_drain : DrainsAmid [] stuck [] stuck
still_drain = record {
  run = tenant_with (call_for 0 pending ∷ []) (Some 2) ∷ [];
  instances = tenant_with (call_for 0 pending ∷ []) (Some 2) ∷ [];
  invoked = _;
  starts = [];
  calls = _;
  each_runs = ([], [], none_left, stands_still refl refl, tt);
  print_starts = ([], [], _, [], refl, refl, has_none refl refl, (refl, refl));
  print_calls = ([], [], _, _, refl, refl, is_taken refl refl refl (as_before refl), (refl, refl));
  lines_are = refl;
  after = refl;
}

cancelled_drain : DrainsAmid [] (met_by (with_tenant (tenant_with (call_for 0 replay.cancelled ∷ []) None) (said_last (Some (wants_frame 2 0)) ∷ []))) (call_is (call 1) (texts.cancelled 0) ∷ [])
    (met_by (with_tenant (tenant_with (call_for 0 replay.cancelled ∷ []) None) (said_last (Some (texts.cancelled 0)) ∷ [])))
cancelled_drain = record {
  run = tenant_with (call_for 0 replay.cancelled ∷ []) None ∷ [];
  instances = tenant_with (call_for 0 replay.cancelled ∷ []) None ∷ [];
  invoked = _;
  starts = [];
  calls = _;
  each_runs = ([], [], none_left, runs_on refl refl (had_ended refl, (had_ended refl, tt)) replays_cancelled (rests_alone (all_ended refl)), tt);
  print_starts = ([], [], _, [], refl, refl, has_none refl refl, (refl, refl));
  print_calls = (_, _, _, _, refl, refl, is_taken refl refl refl (anew was_cancelled_so), (refl, refl));
  lines_are = refl;
  after = refl;
}

-- ---- the whole

pub store_is_retried : StoreIsRetried
store_is_retried = (
  with_tenant (tenant_with [] None) [],
  with_tenant (tenant_with (call_for 0 pending ∷ []) None) (said_last None ∷ []),
  stuck,
  met_by (with_tenant (tenant_with (call_for 0 pending ∷ []) None) (said_last (Some (wants_frame 2 0)) ∷ [])),
  _,
  is_admitted_so,
  (0, tenant_with [] None, (refl, refl), is_invoked [] refl no_bar exports_f refl),
  first_drain,
  is_retried 0 (refl, refl) refl refl,
  last_drain,
)

pub store_is_cancelled : StoreIsCancelled
store_is_cancelled = (
  with_tenant (tenant_with [] None) [],
  with_tenant (tenant_with (call_for 0 pending ∷ []) None) (said_last None ∷ []),
  stuck,
  met_by (with_tenant (tenant_with (call_for 0 replay.cancelled ∷ []) None) (said_last (Some (wants_frame 2 0)) ∷ [])),
  met_by (with_tenant (tenant_with (call_for 0 replay.cancelled ∷ []) None) (said_last (Some (texts.cancelled 0)) ∷ [])),
  is_admitted_so,
  (0, tenant_with [] None, (refl, refl), is_invoked [] refl no_bar exports_f refl),
  first_drain,
  still_drain,
  is_cancelled 0 (refl, refl) refl refl,
  cancelled_drain,
  no_fault_to_retry 0 (refl, refl) refl refl,
)
