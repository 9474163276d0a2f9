-- What has been said of calls stays true where a line is obeyed.
use Rattle.std.proofs.Common.{◌≡◌, ℕ, zero, suc, ⊎_elim, Bool, true, false, List, [], ◌∷◌, ◌++◌, length, slice_get, slice_set, Option, Some, None, is_some, ℤ, refl, sym, ap, subst, ◌∙◌, rules}
use Rattle.std.proofs.lemmas.Option.{none-some, same_Some}
use Rattle.wh_model.specs.Format.{Module}
use Rattle.wh_model.specs.Execution.Replay.{Replay}
use Rattle.wh_model.specs.Execution.{Call, Standing}
use Rattle.wh_host_model.specs.{Params, given_of}
use Rattle.wh_script_model.specs.Settings.{Settings}
use Rattle.wh_script_model.specs.{Command, CallStatus, Reply, NamedInstance, Invoked, call_rejected, call_accepted, InvokeOutcome, with_instance, with_invoked, empty_script, ReceivesModule, module_is_kept, module_isnt_kept, module_out_of_memory, ReceivesInstance, is_admitted, isnt_admitted, admission_out_of_memory, ReceivesCall, instance_is_gone, isnt_invoked, is_invoked, call_out_of_memory, Files, IsObeyed, module_name_is_taken, no_file, module_comes, no_such_module, instance_name_is_taken, instance_comes, no_such_instance, is_drained, is_scanned, is_reported, is_refueled, no_one_to_refuel, no_call_to_refuel, is_cancelled, no_one_to_cancel, no_call_to_cancel, is_retried, no_one_to_retry, no_fault_to_retry, is_released, no_one_to_release}
use Rattle.wh_script_model.specs.ScriptState.{ScriptState}
use Rattle.wh_script_laws.specs.Printed.{StartsFirst, HasStart, IsPrinted, WasPrinted, ArePrinted, IsReleased, AllArePrinted, CallsAreThere, IsWellMade}
use Rattle.wh_script_laws.proofs.Ended.{KeepsEnded, none_changes, first_open_changes, cancel_changes, starts_first_pushed, starts_first_changed, starts_first_cancelled}
use Rattle.wh_script_laws.proofs.EndedObeyed.{push_changes, ended_with, ended_guest, ended_call}
use Rattle.wh_script_laws.proofs.Printed.{set_cases, set_there, push_cases, push_there, push_last, KeepsPlaces, places_stay, first_open_places, cancel_places, push_places, waiting_has_none, goes_so}

pub nothing_well : IsWellMade empty_script
nothing_well = search rules

-- ---- an instance has other calls, or is released

not_released : (g : NamedInstance) → g.is_released ≡ false → IsReleased g → ⊥
not_released g live gone = cc (live, gone)

-- its calls are there still
there_with : (instances : List NamedInstance) (invoked : List Invoked) (i : ℕ) (g h : NamedInstance) → slice_get instances i ≡ Some g → KeepsPlaces g.calls h.calls
    → CallsAreThere instances invoked → CallsAreThere (slice_set instances i h) invoked
there_with instances invoked i g h at keeps there = record {
  starts = search (rules, ⊎_elim, set_cases);
  calls = λ n j place v e outcome.
      let d = there.calls n j place v e outcome in
      let T : Type 0 = (k : NamedInstance) × (c : Call) × (slice_get (slice_set instances i h) j ≡ Some k) × (slice_get k.calls place ≡ Some c) in
      let stays : slice_get (slice_set instances i h) j ≡ Some d.0 → T = λ p. (d.0, d.1, p, d.3) in
      let changes : (j ≡ i) × (slice_get (slice_set instances i h) j ≡ Some h) → T = search (rules, same_Some) in
      ⊎_elim stays changes (set_there instances i j h d.0 d.2);
}

-- and nobody else is released
gone_with : (instances : List NamedInstance) (invoked : List Invoked) (i : ℕ) (h : NamedInstance) → h.is_released ≡ false
    → ArePrinted IsReleased WasPrinted instances invoked → ArePrinted IsReleased WasPrinted (slice_set instances i h) invoked
gone_with instances invoked i h live gone = search (rules, ⊎_elim, not_released, set_cases)

with_well : (m : ScriptState) (i : ℕ) (g : NamedInstance) (calls : List Call) (stands : Option ℕ) → slice_get m.instances i ≡ Some g → g.is_released ≡ false → KeepsPlaces g.calls calls
    → KeepsEnded g.calls calls → (StartsFirst g.calls → StartsFirst calls) → IsWellMade m → IsWellMade (with_instance m i (record g { calls = calls; at_fault = stands }))
with_well m i g calls stands at live places keeps first well =
    let h : NamedInstance = record g { calls = calls; at_fault = stands } in
    record {
      there = there_with m.instances m.invoked i g h at places well.there;
      gone = gone_with m.instances m.invoked i h live well.gone;
      ended = ended_with m.instances m.invoked i g h at live (λ has. has) refl keeps (first (well.ended.starts_first i g at)) well.there well.ended;
    }

-- it goes, and was said to be so before
was_said : (g : NamedInstance) (z : Standing) (place : ℕ) (c : Call) (last_printed : Option CallStatus) → g.is_released ≡ false → Replay g.m (given_of g.params) g.calls z
    → slice_get g.calls place ≡ Some c → IsPrinted g place c last_printed → WasPrinted (record g { is_released = true }) place c last_printed
was_said g z place c last_printed live replay at is = search (rules, is_some, waiting_has_none, goes_so)

released_well : (m : ScriptState) (i : ℕ) (g : NamedInstance) (z : Standing) → slice_get m.instances i ≡ Some g → g.is_released ≡ false → Replay g.m (given_of g.params) g.calls z
    → IsWellMade m → AllArePrinted m → IsWellMade (with_instance m i (record g { is_released = true }))
released_well m i g z at live replay well all =
    let h : NamedInstance = record g { is_released = true } in
    record {
      there = there_with m.instances m.invoked i g h at (places_stay g.calls) well.there;
      gone = record {
        starts = λ j k c e released has first.
            let here : (j ≡ i) × (k ≡ h) → WasPrinted k 0 c k.last_printed = λ p.
            let first_of : slice_get g.calls 0 ≡ Some c = ap (λ (x : NamedInstance). slice_get x.calls 0) (sym p.1) ∙ first in
            let has_of : HasStart g = λ nothing. has (subst (λ (x : NamedInstance). (x.pieces ≡ []) × (x.m.start ≡ None)) (sym p.1) nothing) in
            subst (λ (x : NamedInstance). WasPrinted x 0 c x.last_printed) (sym p.1) (was_said g z 0 c g.last_printed live replay first_of (all.starts i g c at tt has_of first_of)) in
            ⊎_elim here (λ (q : slice_get m.instances j ≡ Some k). well.gone.starts j k c q released has first) (set_cases m.instances i j h k e);
        calls = λ n j place v k c at_v outcome e released first.
            let here : (j ≡ i) × (k ≡ h) → WasPrinted k place c v.last_printed = λ p.
            let first_of : slice_get g.calls place ≡ Some c = ap (λ (x : NamedInstance). slice_get x.calls place) (sym p.1) ∙ first in
            let came_of : v.outcome ≡ call_accepted i place = outcome ∙ ap (λ x. call_accepted x place) p.0 in
            subst (λ (x : NamedInstance). WasPrinted x place c v.last_printed) (sym p.1) (was_said g z place c v.last_printed live replay first_of (all.calls n i place v g c at_v came_of at tt first_of)) in
            ⊎_elim here (λ (q : slice_get m.instances j ≡ Some k). well.gone.calls n j place v k c at_v outcome q released first) (set_cases m.instances i j h k e);
      };
      ended = ended_with m.instances m.invoked i g h at live (λ has. has) refl (none_changes g.calls) (well.ended.starts_first i g at) well.there well.ended;
    }

-- ---- what comes

module_well : (m m2 : ScriptState) (name bytes : List ℕ) (reply : Reply) (may_run_out : Bool)
    → ReceivesModule may_run_out m name bytes reply m2 → IsWellMade m → IsWellMade m2
module_well m _ name bytes reply may_run_out (module_is_kept a f) h = record { there = h.there; gone = h.gone; ended = h.ended }
module_well m _ name bytes reply may_run_out (module_isnt_kept r) h = h
module_well m _ name bytes reply may_run_out (module_out_of_memory s r) h = h

-- one more instance, which is there and has a call
one_more_guest : (m : ScriptState) (h : NamedInstance) (c : Call) → slice_get h.calls 0 ≡ Some c → h.is_released ≡ false → h.last_printed ≡ None → StartsFirst h.calls → IsWellMade m
    → IsWellMade (record m { instances = m.instances ++ h ∷ [] })
one_more_guest m h c first_of live unsaid starts_first well = record {
  there = record {
    starts = λ j k e.
        ⊎_elim
        (λ (p : k ≡ h). (c, ap (λ (x : NamedInstance). slice_get x.calls 0) p ∙ first_of))
        (λ (q : slice_get m.instances j ≡ Some k). well.there.starts j k q)
        (push_cases m.instances j h k e);
    calls = λ n j place v e outcome.
        let d = well.there.calls n j place v e outcome in
        (d.0, d.1, push_there m.instances j h d.0 d.2, d.3);
  };
  gone = search (rules, ⊎_elim, not_released, push_cases);
  ended = ended_guest m.instances m.invoked h unsaid starts_first well.there well.ended;
}

guest_well : (m m2 : ScriptState) (may_run_out : Bool) (settings : Settings) (name : List ℕ) (x : Module) (p : Params) (reply : Reply)
    → ReceivesInstance may_run_out settings m name x p reply m2 → IsWellMade m → IsWellMade m2
guest_well m _ may_run_out settings name x p reply (is_admitted n initial) h = one_more_guest m _ _ refl refl refl (λ e. tt) h
guest_well m _ may_run_out settings name x p reply (isnt_admitted fault f) h = h
guest_well m _ may_run_out settings name x p reply (admission_out_of_memory s n) h = h

-- one more `invoke`
one_more_call : (m : ScriptState) (outcome : InvokeOutcome) → ((i place : ℕ) → outcome ≡ call_accepted i place
    → (g : NamedInstance) × (c : Call) × (slice_get m.instances i ≡ Some g) × (slice_get g.calls place ≡ Some c) × (g.is_released ≡ false))
    → IsWellMade m → IsWellMade (with_invoked m outcome)
one_more_call m outcome there_of well =
    let new : Invoked = record { outcome = outcome; last_printed = None } in
    record {
      there = record {
        starts = well.there.starts;
        calls = λ n i place v e is.
            let T : Type 0 = (g : NamedInstance) × (c : Call) × (slice_get m.instances i ≡ Some g) × (slice_get g.calls place ≡ Some c) in
            let here : v ≡ new → T = search rules in
            ⊎_elim here (λ (q : slice_get m.invoked n ≡ Some v). well.there.calls n i place v q is) (push_cases m.invoked n new v e);
      };
      gone = search (rules, same_Some, not_released, ⊎_elim, push_cases);
      ended = ended_call m.instances m.invoked outcome well.ended;
    }

turned_well : (m : ScriptState) (fault : ℕ) → IsWellMade m → IsWellMade (with_invoked m (call_rejected fault))
turned_well m fault h = one_more_call m (call_rejected fault) (λ i place e. absurd (cc e)) h

abbrev guest_taken : InvokeOutcome → ℕ
guest_taken (call_rejected fault) = 0
guest_taken (call_accepted i place) = i

abbrev place_taken : InvokeOutcome → ℕ
place_taken (call_rejected fault) = 0
place_taken (call_accepted i place) = place

set_at : (gs : List NamedInstance) (i : ℕ) (g h : NamedInstance) → slice_get gs i ≡ Some g → slice_get (slice_set gs i h) i ≡ Some h
set_at [] i g h e = absurd (none-some g e)
set_at (x ∷ gs) zero g h e = refl
set_at (x ∷ gs) (suc i) g h e = set_at gs i g h e

pub call_well : (may_run_out : Bool) (m m2 : ScriptState) (i : ℕ) (g : NamedInstance) (name : List ℕ) (fuel : ℕ) (given : List ℤ)
    → slice_get m.instances i ≡ Some g → ReceivesCall may_run_out m i g name fuel given m2 → IsWellMade m → IsWellMade m2
call_well may_run_out m _ i g name fuel given at (instance_is_gone r) h = turned_well m 1 h
call_well may_run_out m _ i g name fuel given at (isnt_invoked fault l f) h = turned_well m _ h
call_well may_run_out m _ i g name fuel given at (is_invoked vs live n x a) h =
    let k : NamedInstance = record g { calls = g.calls ++ _ ∷ [] } in
    let between = with_well m i g k.calls g.at_fault at live (push_places g.calls _) (push_changes g.calls _) (starts_first_pushed g.calls _ refl) h in
    one_more_call (with_instance m i k) (call_accepted i (length g.calls))
    (λ j place e.
    let same_i : i ≡ j = ap guest_taken e in
    let same_place : length g.calls ≡ place = ap place_taken e in
    (k, _, ap (slice_get (slice_set m.instances i k)) (sym same_i) ∙ set_at m.instances i g k at, ap (slice_get k.calls) (sym same_place) ∙ push_last g.calls _, live))
    between
call_well may_run_out m _ i g name fuel given at (call_out_of_memory s l n) h = turned_well m 7 h

-- ---- a command

pub obeys_well : (may_run_out : Bool) (settings : Settings) (files : Files) (m m2 : ScriptState) (number : ℕ) (command : Command)
    (replies : List Reply) → IsObeyed may_run_out settings files m number command replies m2 → IsWellMade m → AllArePrinted m → IsWellMade m2
obeys_well may_run_out settings files m m2 number command replies (module_name_is_taken n x) h all = h
obeys_well may_run_out settings files m m2 number command replies (no_file n f) h all = h
obeys_well may_run_out settings files m m2 number command replies (module_comes {name = name} {bytes = bytes} {reply = reply} n f b x) h all =
    module_well m m2 name bytes reply may_run_out x h
obeys_well may_run_out settings files m m2 number command replies (no_such_module n) h all = h
obeys_well may_run_out settings files m m2 number command replies (instance_name_is_taken i x g) h all = h
obeys_well may_run_out settings files m m2 number command replies (instance_comes {inst = inst} {p = p} {m = x} {reply = reply} n f r) h all =
    guest_well m m2 may_run_out settings inst x p reply r h
obeys_well may_run_out settings files m m2 number command replies (no_such_instance f n) h all = h
obeys_well may_run_out settings files m m2 number command replies is_drained h all = h
obeys_well may_run_out settings files m m2 number command replies is_scanned h all = h
obeys_well may_run_out settings files m m2 number command replies is_reported h all = h
obeys_well may_run_out settings files m _ number command replies (is_refueled i {g = g} n live f) h all =
    with_well m i g _ g.at_fault n.0 live (first_open_places _ g.calls) (first_open_changes _ g.calls) (starts_first_changed _ (λ c. refl) g.calls) h
obeys_well may_run_out settings files m m2 number command replies (no_one_to_refuel i n l) h all = h
obeys_well may_run_out settings files m m2 number command replies (no_call_to_refuel i n l f) h all = h
obeys_well may_run_out settings files m _ number command replies (is_cancelled i {g = g} n live f) h all =
    with_well m i g _ None n.0 live (cancel_places g.calls) (cancel_changes g.calls (h.ended.starts_first i g n.0)) (λ first. starts_first_cancelled g.calls) h
obeys_well may_run_out settings files m m2 number command replies (no_one_to_cancel i n l) h all = h
obeys_well may_run_out settings files m m2 number command replies (no_call_to_cancel i n l f) h all = h
obeys_well may_run_out settings files m m2 number command replies (no_one_to_retry i n l) h all = h
obeys_well may_run_out settings files m _ number command replies (is_retried i {g = g} n live f) h all =
    with_well m i g g.calls None n.0 live (places_stay g.calls) (none_changes g.calls) (λ first. first) h
obeys_well may_run_out settings files m m2 number command replies (no_fault_to_retry i n l f) h all = h
obeys_well may_run_out settings files m _ number command replies (is_released i {g = g} z n live r) h all = search (rules, released_well)
obeys_well may_run_out settings files m m2 number command replies (no_one_to_release i n l) h all = h
