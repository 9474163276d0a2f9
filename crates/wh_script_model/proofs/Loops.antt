-- Calls of a function that never ends.
use Rattle.std.proofs.Common.{◌≡◌, ℕ, Bool, true, false, List, [], ◌∷◌, Option, Some, None, codes, refl, sym, ap, arith}
use Rattle.std.proofs.lemmas.Bool.{false≢true}
use Rattle.std.proofs.lemmas.Option.{none-some}
use Rattle.wh_model.specs.Format.{br, nothing, plain}
use Rattle.wh_model.specs.Execution.Store.{Instance}
use Rattle.wh_model.specs.Execution.{After, IsNext, Outcome, dead, pending, Call, Stands, is_under_way, ended, at_work, has_written, was_cancelled}
use Rattle.wh_model.specs.Execution.Replay as replay
use Rattle.wh_model.specs.Execution.Replay.{Replay}
use Rattle.wh_model.specs.Focus.Focused.{Focused}
use Rattle.wh_model.specs.Focus.{running, activation, plug, Steps, steps, rests}
use Rattle.wh_model.proofs.Agrees.{after_agrees}
use Rattle.wh_model.proofs.StepsReduce.{steps_reduce}
use Rattle.wh_host_model.specs.{given_of, no_export, arguments, queue_full, instance_dead, journal_full, is_open}
use Rattle.wh_script_model.specs.Texts as texts
use Rattle.wh_script_model.specs.{CallStatus, call, wants_fuel, queued, call_is, NamedInstance, call_accepted, Invoked, had_ended, goes_on, used_up, has_run, has_none, anew, is_taken, MeetsNoBar, is_invoked, is_cancelled, one_function, round_and_round, some_params, LoopIsAnswered}
use Rattle.wh_script_model.specs.ScriptState.{ScriptState}
use Rattle.wh_script_model.specs.Drains.{Drains}
use Rattle.wh_script_model.proofs.Beginning.{type_with, body_of, instance_of, no_store, initial, guest_a, with_a, is_admitted_so, exports_f}
use Rattle.wh_script_model.proofs.Sevens.{the_start, returned_isnt, names_one}

-- ---- the run

abbrev the_instance : Instance
the_instance = instance_of [] round_and_round

-- before the loop, and inside it
abbrev before_loop : Focused
before_loop = running no_store (activation (type_with []) (body_of round_and_round) []) []

abbrev in_loop : Focused
in_loop = running no_store (record {
  operands = [];
  code = plain (br 0) nothing;
  labels = record { carries = 0; next = round_and_round; beneath = []; after_end = nothing } ∷ record { carries = 0; next = nothing; beneath = []; after_end = nothing } ∷ [];
  locals = [];
  results = 0;
}) []

enters : Steps the_instance before_loop 1 in_loop
enters = (refl, refl)

goes_back : Steps the_instance in_loop 1 before_loop
goes_back = (refl, ([], _, _, refl, refl, [], [], record { split = refl; count = refl }, refl))

none_free : (c : Focused) → Steps the_instance before_loop 0 c → ⊥
none_free c x = let h = x.0 in absurd (omega arith)

none_free_inside : (c : Focused) → Steps the_instance in_loop 0 c → ⊥
none_free_inside c x = let h = x.0 in absurd (omega arith)

after_three : After the_instance (plug before_loop) 3 (plug in_loop)
after_three =
    after_agrees.0 the_instance before_loop in_loop 3
    (steps 1 2 enters (steps 1 1 goes_back (steps 1 0 enters rests)), none_free_inside)

next_inside : IsNext the_instance (plug in_loop)
next_inside = (plug before_loop, steps_reduce the_instance in_loop before_loop 1 goes_back)

after_none : After the_instance (plug before_loop) 0 (plug before_loop)
after_none = after_agrees.0 the_instance before_loop before_loop 0 (rests, none_free)

next_before : IsNext the_instance (plug before_loop)
next_before = (plug in_loop, steps_reduce the_instance before_loop in_loop 1 enters)

-- ---- the journal

-- a call with this fuel, after n charges
abbrev call_for : (fuel charges : ℕ) → Outcome → Call
call_for fuel charges o =
    record { func = Some 0; args = []; fuel = fuel; fragments = 0; charges = charges; outcome = o }

stands_three : (o : Outcome) → Stands the_instance no_store [] (call_for 3 3 o) (replay.running (plug in_loop))
stands_three o =
    is_under_way refl (omega arith)
    (record { index = 0; type = type_with []; body = body_of round_and_round; calls = refl; is_own = refl; types = refl; fit = tt; begins = refl })
    after_three next_inside

stands_none : Stands the_instance no_store [] (call_for 0 0 pending) (replay.running (plug before_loop))
stands_none =
    is_under_way refl (omega arith)
    (record { index = 0; type = type_with []; body = body_of round_and_round; calls = refl; is_own = refl; types = refl; fit = tt; begins = refl })
    after_none next_before

cancelled_isnt_dead : replay.cancelled ≡ dead → ⊥
cancelled_isnt_dead p = false≢true (sym (ap replay.fails p))

pending_isnt_dead : pending ≡ dead → ⊥
pending_isnt_dead p = false≢true (sym (ap is_open p))

pending_isnt_cancelled : pending ≡ replay.cancelled → ⊥
pending_isnt_cancelled p = false≢true (sym (ap is_open p))

replays_first : Replay (one_function [] round_and_round) (given_of some_params)
    (the_start ∷ call_for 3 3 pending ∷ call_for 0 0 pending ∷ []) (replay.running (plug in_loop))
replays_first = (
  record { base = omega arith; salt = omega arith; inputs = tt },
  record { func = refl; args = refl; not_dead = returned_isnt [] dead refl; names = (names_one 0, (names_one 0, tt)); behind = (pending_isnt_dead, (pending_isnt_dead, tt)) },
  (
    the_instance,
    no_store,
    [],
    initial [] round_and_round,
    ended (has_written refl refl refl refl)
        (at_work refl (stands_three pending) (record { outcome = refl; fragments = refl; charges = refl }, tt)),
  ),
)

replays_last : Replay (one_function [] round_and_round) (given_of some_params)
    (the_start ∷ call_for 3 3 replay.cancelled ∷ call_for 0 0 pending ∷ []) (replay.running (plug before_loop))
replays_last = (
  record { base = omega arith; salt = omega arith; inputs = tt },
  record { func = refl; args = refl; not_dead = returned_isnt [] dead refl; names = (names_one 0, (names_one 0, tt)); behind = (cancelled_isnt_dead, (pending_isnt_dead, tt)) },
  (
    the_instance,
    no_store,
    [],
    initial [] round_and_round,
    ended (has_written refl refl refl refl)
        (ended (was_cancelled refl (stands_three replay.cancelled)) (at_work refl stands_none tt)),
  ),
)

-- ---- the whole

-- the instance with these calls behind its start
abbrev a_with : List Call → NamedInstance
a_with calls = record (guest_a [] round_and_round) { calls = the_start ∷ calls }

abbrev asked_for : List Call → List Invoked → ScriptState
asked_for calls invoked = record (with_a [] round_and_round) { instances = a_with calls ∷ []; invoked = invoked }

abbrev said_last : ℕ → Option CallStatus → Invoked
said_last place status = record { outcome = call_accepted 0 place; last_printed = status }

no_bar : MeetsNoBar (a_with []) (codes "f") []
no_bar no_export h = h 0 _ _ (exports_f [] round_and_round)
no_bar arguments h = h 0 _ _ [] (exports_f [] round_and_round) refl
no_bar queue_full h = omega (arith, h)
no_bar instance_dead h = false≢true h
no_bar journal_full h = omega (arith, h)

no_bar_behind : MeetsNoBar (a_with (call_for 3 0 pending ∷ [])) (codes "f") []
no_bar_behind no_export h = h 0 _ _ (exports_f [] round_and_round)
no_bar_behind arguments h = h 0 _ _ [] (exports_f [] round_and_round) refl
no_bar_behind queue_full h = omega (arith, h)
no_bar_behind instance_dead h = false≢true h
no_bar_behind journal_full h = omega (arith, h)

first_drain : Drains
    (asked_for (call_for 3 0 pending ∷ call_for 0 0 pending ∷ []) (said_last 1 None ∷ said_last 2 None ∷ []))
    (call_is (call 1) (wants_fuel 3) ∷ call_is (call 2) queued ∷ [])
    (asked_for (call_for 3 3 pending ∷ call_for 0 0 pending ∷ [])
    (said_last 1 (Some (wants_fuel 3)) ∷ said_last 2 (Some queued) ∷ []))
first_drain = record {
  run = a_with (call_for 3 3 pending ∷ call_for 0 0 pending ∷ []) ∷ [];
  instances = a_with (call_for 3 3 pending ∷ call_for 0 0 pending ∷ []) ∷ [];
  invoked = _;
  starts = [];
  calls = _;
  each_runs = (
    has_run refl (had_ended refl, (goes_on refl pending_isnt_cancelled, (goes_on refl pending_isnt_cancelled, tt))) replays_first
        (used_up refl refl next_inside),
    tt,
  );
  print_starts = ([], [], _, [], refl, refl, has_none refl refl, (refl, refl));
  print_calls = (
    _,
    _,
    _,
    _,
    refl,
    refl,
    is_taken refl refl refl (anew (none-some _)),
    (_, _, _, _, refl, refl, is_taken refl refl refl (anew (none-some _)), (refl, refl)),
  );
  lines_are = refl;
  after = refl;
}

-- the lines have changed
abbrev is_queued : Option CallStatus → Bool
is_queued (Some queued) = true
is_queued other = false

abbrev is_stuck : Option CallStatus → Bool
is_stuck (Some (wants_fuel charges)) = true
is_stuck other = false

was_queued : (n : ℕ) → Some queued ≡ Some (wants_fuel n) → ⊥
was_queued n p = false≢true (sym (ap is_queued p))

was_stuck : (n k : ℕ) → Some (wants_fuel n) ≡ Some (texts.cancelled k) → ⊥
was_stuck n k p = false≢true (sym (ap is_stuck p))

last_drain : Drains
    (asked_for (call_for 3 3 replay.cancelled ∷ call_for 0 0 pending ∷ [])
    (said_last 1 (Some (wants_fuel 3)) ∷ said_last 2 (Some queued) ∷ []))
    (call_is (call 1) (texts.cancelled 3) ∷ call_is (call 2) (wants_fuel 0) ∷ [])
    (asked_for (call_for 3 3 replay.cancelled ∷ call_for 0 0 pending ∷ [])
    (said_last 1 (Some (texts.cancelled 3)) ∷ said_last 2 (Some (wants_fuel 0)) ∷ []))
last_drain = record {
  run = a_with (call_for 3 3 replay.cancelled ∷ call_for 0 0 pending ∷ []) ∷ [];
  instances = a_with (call_for 3 3 replay.cancelled ∷ call_for 0 0 pending ∷ []) ∷ [];
  invoked = _;
  starts = [];
  calls = _;
  each_runs = (
    has_run refl (had_ended refl, (had_ended refl, (goes_on refl pending_isnt_cancelled, tt))) replays_last
        (used_up refl refl next_before),
    tt,
  );
  print_starts = ([], [], _, [], refl, refl, has_none refl refl, (refl, refl));
  print_calls = (
    _,
    _,
    _,
    _,
    refl,
    refl,
    is_taken refl refl refl (anew (was_stuck 3 3)),
    (_, _, _, _, refl, refl, is_taken refl refl refl (anew (was_queued 0)), (refl, refl)),
  );
  lines_are = refl;
  after = refl;
}

pub loop_is_answered : LoopIsAnswered
loop_is_answered = (
  with_a [] round_and_round,
  asked_for (call_for 3 0 pending ∷ []) (said_last 1 None ∷ []),
  asked_for (call_for 3 0 pending ∷ call_for 0 0 pending ∷ []) (said_last 1 None ∷ said_last 2 None ∷ []),
  asked_for (call_for 3 3 pending ∷ call_for 0 0 pending ∷ [])
      (said_last 1 (Some (wants_fuel 3)) ∷ said_last 2 (Some queued) ∷ []),
  asked_for (call_for 3 3 replay.cancelled ∷ call_for 0 0 pending ∷ [])
      (said_last 1 (Some (wants_fuel 3)) ∷ said_last 2 (Some queued) ∷ []),
  asked_for (call_for 3 3 replay.cancelled ∷ call_for 0 0 pending ∷ [])
      (said_last 1 (Some (texts.cancelled 3)) ∷ said_last 2 (Some (wants_fuel 0)) ∷ []),
  is_admitted_so [] round_and_round,
  (0, a_with [], (refl, refl), is_invoked [] refl no_bar (exports_f [] round_and_round) refl),
  (0, a_with (call_for 3 0 pending ∷ []), (refl, refl), is_invoked [] refl no_bar_behind (exports_f [] round_and_round) refl),
  first_drain,
  is_cancelled 0 (refl, refl) refl refl,
  last_drain,
)
