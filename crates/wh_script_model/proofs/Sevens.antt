-- Calls of a function that gives 7, and of others that aren't there.
use Rattle.std.proofs.Common.{◌≡◌, ℕ, zero, suc, ◌<◌, Bool, true, false, List, [], ◌∷◌, get_or, slice_get, Some, None, pos, codes, refl, sym, ap, subst, ◌∙◌, inl, inr, arith}
use Rattle.std.proofs.lemmas.Bool.{false≢true}
use Rattle.std.proofs.lemmas.Option.{none-some, same_Some}
use Rattle.std.specs.Fmt.{digits}
use Rattle.wh_model.specs.declared.ValType.TheVariants.{I32}
use Rattle.wh_model.specs.declared.ExternKind.TheVariants.{Func}
use Rattle.wh_model.specs.Format.{FuncType, Body}
use Rattle.wh_model.specs.Execution.{unsigned, signed, Value, value, own, signature, Outcome, returned, stopped, cancelled, dead, pending, Call, idle, ended, has_written, at_rest}
use Rattle.wh_model.specs.Execution.Store.{Instance, Store}
use Rattle.wh_model.specs.Execution.Replay.{Replay}
use Rattle.wh_model.specs.Focus.{running, finished, activation, steps, rests}
use Rattle.wh_model.specs.Laws.{invoked, Done}
use Rattle.wh_model.proofs.Agrees.{after_agrees}
use Rattle.wh_model.proofs.Journals.{done_replays}
use Rattle.wh_host_model.specs.{given_of, InvokeFault, no_export, arguments, queue_full, instance_dead, journal_full, rank, AreArguments}
use Rattle.wh_script_model.specs.{CallStatus, call, done, refused, call_is, NamedInstance, InvokeOutcome, call_accepted, call_rejected, Invoked, had_ended, goes_on, all_ended, has_run, anew, has_none, is_refused, is_taken, MeetsBar, MeetsNoBar, IsFirstBar, is_invoked, isnt_invoked, no_call_to_refuel, one_function, seven, some_params, SevenIsAnswered, SevenIsPrinted, RefuelIsRefused}
use Rattle.wh_script_model.specs.ScriptState.{ScriptState}
use Rattle.wh_script_model.specs.Drains.{Drains}
use Rattle.wh_script_model.proofs.Beginning.{type_with, body_of, instance_of, no_store, initial, guest_a, with_a, is_admitted_so, exports_f}

-- ---- the run

gives_seven : (inst : Instance) (s : Store) → Done inst (invoked s [] (I32 ∷ []) seven []) s (value I32 7 ∷ []) 0
unfolding unsigned
gives_seven inst s =
    after_agrees.0 inst (running s (activation (type_with (I32 ∷ [])) (body_of seven) []) []) (finished s (value I32 7 ∷ [])) 0
    (steps 0 0 (refl, refl) (steps 0 0 (refl, inl (_, _, refl, refl)) (steps 0 0 (refl, inr (refl, refl, refl)) rests)), λ c x. x)

-- ---- the journal

abbrev pub the_start : Call
the_start = record { func = None; args = []; fuel = 0; fragments = 0; charges = 0; outcome = returned [] }

abbrev the_call : Outcome → Call
the_call o = record { func = Some 0; args = []; fuel = 0; fragments = 0; charges = 0; outcome = o }

abbrev has_returned_so : Outcome → Bool
has_returned_so (returned vs) = true
has_returned_so (stopped x) = false
has_returned_so cancelled = false
has_returned_so dead = false
has_returned_so pending = false

pub returned_isnt : (vs : List Value) (o : Outcome) → has_returned_so o ≡ false → returned vs ≡ o → ⊥
returned_isnt vs o e p = false≢true (sym e ∙ sym (ap has_returned_so p))

pub names_one : (n : ℕ) → Some n ≡ None → ⊥
names_one n p = none-some n (sym p)

replays : Replay (one_function (I32 ∷ []) seven) (given_of some_params)
    (the_start ∷ the_call (returned (value I32 7 ∷ [])) ∷ []) (idle no_store)
replays = (
  record { base = omega arith; salt = omega arith; inputs = tt },
  record { func = refl; args = refl; not_dead = returned_isnt [] dead refl; names = (names_one 0, tt); behind = (returned_isnt _ dead refl, tt) },
  (
    instance_of (I32 ∷ []) seven,
    no_store,
    [],
    initial (I32 ∷ []) seven,
    ended (has_written refl refl refl refl)
        (done_replays (instance_of (I32 ∷ []) seven) no_store no_store 0 0 0 [] (I32 ∷ []) seven [] (value I32 7 ∷ []) refl refl tt (omega arith) (gives_seven _ _)),
  ),
)

-- ---- what is refused

-- the instance with these calls
abbrev a_with : List Call → NamedInstance
a_with calls = record (guest_a (I32 ∷ []) seven) { calls = calls }

no_bar : MeetsNoBar (guest_a (I32 ∷ []) seven) (codes "f") []
no_bar no_export h = h 0 _ _ (exports_f (I32 ∷ []) seven)
no_bar arguments h = h 0 _ _ [] (exports_f (I32 ∷ []) seven) refl
no_bar queue_full h = omega (arith, h)
no_bar instance_dead h = false≢true h
no_bar journal_full h = omega (arith, h)

-- the one export is `f`
isnt_g : (place x : ℕ) → slice_get (one_function (I32 ∷ []) seven).exports place ≡ Some (record { name = codes "g"; kind = Func; index = x }) → ⊥
isnt_g zero x h = let same : 102 ≡ 103 = ap (λ e. get_or e.name 0 0) (same_Some _ _ h) in omega (arith, same)
isnt_g (suc place) x h = none-some _ h

none_below : (calls : List Call) (other : InvokeFault) → rank other < 2 → ¬ (MeetsBar (a_with calls) (codes "g") [] other)
none_below calls no_export less h = omega (arith, less)
none_below calls arguments less h = omega (arith, less)
none_below calls queue_full less h = omega (arith, less)
none_below calls instance_dead less h = omega (arith, less)
none_below calls journal_full less h = omega (arith, less)

no_g : (calls : List Call) → IsFirstBar (a_with calls) (codes "g") [] no_export
no_g calls = (λ x type body e. isnt_g e.place x e.exported, none_below calls)

-- and it takes no argument
takes_none : (x : ℕ) (type : FuncType) (body : Body) (vs : List Value)
    → slice_get (instance_of (I32 ∷ []) seven).funcs x ≡ Some (own type body) → AreArguments type.params (pos 5 ∷ []) vs → ⊥
takes_none zero type body vs h args =
    let same : type_with (I32 ∷ []) ≡ type = ap signature (same_Some _ _ h) in
    subst (λ t. AreArguments t.params (pos 5 ∷ []) vs) (sym same) args
takes_none (suc x) type body vs h args = none-some _ h

one_below : (calls : List Call) (other : InvokeFault) → rank other < 3
    → ¬ (MeetsBar (a_with calls) (codes "f") (pos 5 ∷ []) other)
one_below calls no_export less h = h 0 _ _ (exports_f (I32 ∷ []) seven)
one_below calls arguments less h = omega (arith, less)
one_below calls queue_full less h = omega (arith, less)
one_below calls instance_dead less h = omega (arith, less)
one_below calls journal_full less h = omega (arith, less)

no_five : (calls : List Call) → IsFirstBar (a_with calls) (codes "f") (pos 5 ∷ []) arguments
no_five calls = (λ x type body vs e args. takes_none x type body vs e.is_own args, one_below calls)

-- ---- the whole

abbrev asked_for : Call → List Invoked → ScriptState
asked_for c invoked = record (with_a (I32 ∷ []) seven) { instances = a_with (the_start ∷ c ∷ []) ∷ []; invoked = invoked }

abbrev unsaid : InvokeOutcome → Invoked
unsaid outcome = record { outcome = outcome; last_printed = None }

abbrev once_said : InvokeOutcome → CallStatus → Invoked
once_said outcome status = record { outcome = outcome; last_printed = Some status }

last_drain : Drains (asked_for (the_call pending) (unsaid (call_accepted 0 1) ∷ unsaid (call_rejected 2) ∷ unsaid (call_rejected 3) ∷ []))
    (call_is (call 1) (done (Some (pos 7)) 0) ∷ call_is (call 2) (refused 2) ∷ call_is (call 3) (refused 3) ∷ [])
    (asked_for (the_call (returned (value I32 7 ∷ [])))
    (once_said (call_accepted 0 1) (done (Some (pos 7)) 0) ∷ once_said (call_rejected 2) (refused 2) ∷ once_said (call_rejected 3) (refused 3) ∷ []))
unfolding signed
last_drain = record {
  run = a_with (the_start ∷ the_call (returned (value I32 7 ∷ [])) ∷ []) ∷ [];
  instances = a_with (the_start ∷ the_call (returned (value I32 7 ∷ [])) ∷ []) ∷ [];
  invoked = _;
  starts = [];
  calls = _;
  each_runs = (has_run refl (had_ended refl, (goes_on refl (returned_isnt _ cancelled refl), tt)) replays (all_ended refl), tt);
  print_starts = ([], [], _, [], refl, refl, has_none refl refl, (refl, refl));
  print_calls = (
    _,
    _,
    _,
    _,
    refl,
    refl,
    is_taken refl refl refl (anew (none-some _)),
    (_, _, _, _, refl, refl, is_refused refl (anew (none-some _)), (_, _, _, _, refl, refl, is_refused refl (anew (none-some _)), (refl, refl))),
  );
  lines_are = refl;
  after = refl;
}

pub seven_is_answered : SevenIsAnswered
seven_is_answered = (
  with_a (I32 ∷ []) seven,
  asked_for (the_call pending) (unsaid (call_accepted 0 1) ∷ []),
  asked_for (the_call pending) (unsaid (call_accepted 0 1) ∷ unsaid (call_rejected 2) ∷ []),
  asked_for (the_call pending) (unsaid (call_accepted 0 1) ∷ unsaid (call_rejected 2) ∷ unsaid (call_rejected 3) ∷ []),
  _,
  is_admitted_so (I32 ∷ []) seven,
  (0, guest_a (I32 ∷ []) seven, (refl, refl), is_invoked [] refl no_bar (exports_f (I32 ∷ []) seven) refl),
  (0, a_with (the_start ∷ the_call pending ∷ []), (refl, refl), isnt_invoked no_export refl (no_g (the_start ∷ the_call pending ∷ []))),
  (0, a_with (the_start ∷ the_call pending ∷ []), (refl, refl), isnt_invoked arguments refl (no_five (the_start ∷ the_call pending ∷ []))),
  last_drain,
)

-- ---- no call to run

start_replays : Replay (one_function (I32 ∷ []) seven) (given_of some_params) (the_start ∷ []) (idle no_store)
start_replays = (
  record { base = omega arith; salt = omega arith; inputs = tt },
  record { func = refl; args = refl; not_dead = returned_isnt [] dead refl; names = tt; behind = tt },
  (instance_of (I32 ∷ []) seven, no_store, [], initial (I32 ∷ []) seven, ended (has_written refl refl refl refl) at_rest),
)

empty_drain : Drains (with_a (I32 ∷ []) seven) [] (with_a (I32 ∷ []) seven)
empty_drain = record {
  run = guest_a (I32 ∷ []) seven ∷ [];
  instances = guest_a (I32 ∷ []) seven ∷ [];
  invoked = [];
  starts = [];
  calls = [];
  each_runs = (has_run refl (had_ended refl, tt) start_replays (all_ended refl), tt);
  print_starts = ([], [], _, [], refl, refl, has_none refl refl, (refl, refl));
  print_calls = (refl, refl);
  lines_are = refl;
  after = refl;
}

pub refuel_is_refused : RefuelIsRefused
refuel_is_refused = (
  with_a (I32 ∷ []) seven,
  with_a (I32 ∷ []) seven,
  is_admitted_so (I32 ∷ []) seven,
  empty_drain,
  no_call_to_refuel 0 (refl, refl) refl refl,
)

-- ---- the text

pub seven_is_printed : SevenIsPrinted
unfolding digits
seven_is_printed = refl
