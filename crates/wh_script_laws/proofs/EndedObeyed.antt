-- Calls that were said to have ended stay so where a line is obeyed, and nothing is said of them again.
use Rattle.std.proofs.Common.{◌≡◌, ℕ, ◌⊎◌, ⊎_elim, inl, inr, true, false, List, [], ◌∷◌, ◌++◌, slice_get, slice_set, Option, Some, None, refl, sym, ap, subst, ◌∙◌, rules}
use Rattle.std.proofs.lemmas.Option.{none-some, same_Some}
use Rattle.wh_model.specs.Execution.{Piece, Call}
use Rattle.wh_script_model.specs.Texts as texts
use Rattle.wh_script_model.specs.{CallStatus, NamedInstance, Invoked, InvokeOutcome, call_rejected, call_accepted, call_status, PrintsStart, has_none, has_one, PrintsCall, is_refused, is_taken, as_before}
use Rattle.wh_script_model.specs.ScriptState.{ScriptState}
use Rattle.wh_script_laws.specs.Laws.{EndedStays}
use Rattle.wh_script_laws.specs.Printed.{is_final, HasStart, HasEndedSo, StartsFirst, EndedAsPrinted, CallsAreThere, IsWellMade}
use Rattle.wh_script_laws.proofs.Ended.{KeepsEnded, stays_ended}
use Rattle.wh_script_laws.proofs.Printed.{set_cases, push_cases, push_there}

-- ---- what lines make

-- a call is asked at the end of the journal
pub push_changes : (calls : List Call) (d : Call) → KeepsEnded calls (calls ++ d ∷ [])
push_changes calls d k c e closed = push_there calls k d c e

-- an instance that lives has other calls, or is released
pub ended_with : (instances : List NamedInstance) (invoked : List Invoked) (i : ℕ) (g h : NamedInstance) → slice_get instances i ≡ Some g → g.is_released ≡ false
    → (HasStart h → HasStart g) → h.last_printed ≡ g.last_printed → KeepsEnded g.calls h.calls → StartsFirst h.calls → CallsAreThere instances invoked
    → EndedAsPrinted instances invoked → EndedAsPrinted (slice_set instances i h) invoked
ended_with instances invoked i g h at live starts last_printed keeps first_of there was = record {
  taken = record {
    starts = λ j k c2 e anyone has first.
        let here : (j ≡ i) × (k ≡ h) → HasEndedSo k 0 c2 k.last_printed = λ p.
        let c = there.starts i g at in
        let there2 : slice_get h.calls 0 ≡ Some c2 = ap (λ (x : NamedInstance). slice_get x.calls 0) (sym p.1) ∙ first in
        let has_of : HasStart g = starts (subst HasStart p.1 has) in
        let so : HasEndedSo h 0 c2 h.last_printed =
        subst (HasEndedSo h 0 c2) (sym last_printed)
        (stays_ended g h 0 c.0 c2 g.last_printed live (λ closed. same_Some c2 c.0 (sym there2 ∙ keeps 0 c.0 c.1 closed)) (was.taken.starts i g c.0 at tt has_of c.1)) in
        subst (λ (x : NamedInstance). HasEndedSo x 0 c2 x.last_printed) (sym p.1) so in
        ⊎_elim here (λ (q : slice_get instances j ≡ Some k). was.taken.starts j k c2 q tt has first) (set_cases instances i j h k e);
    calls = λ n j place v k c2 at_v outcome e anyone first.
        let here : (j ≡ i) × (k ≡ h) → HasEndedSo k place c2 v.last_printed = λ p.
        let came_of : v.outcome ≡ call_accepted i place = outcome ∙ ap (λ x. call_accepted x place) p.0 in
        let d = there.calls n i place v at_v came_of in
        let same : d.0 ≡ g = same_Some d.0 g (sym d.2 ∙ at) in
        let before : slice_get g.calls place ≡ Some d.1 = subst (λ (x : NamedInstance). slice_get x.calls place ≡ Some d.1) same d.3 in
        let there2 : slice_get h.calls place ≡ Some c2 = ap (λ (x : NamedInstance). slice_get x.calls place) (sym p.1) ∙ first in
        let so : HasEndedSo h place c2 v.last_printed =
        stays_ended g h place d.1 c2 v.last_printed live (λ closed. same_Some c2 d.1 (sym there2 ∙ keeps place d.1 before closed))
        (was.taken.calls n i place v g d.1 at_v came_of at tt before) in
        subst (λ (x : NamedInstance). HasEndedSo x place c2 v.last_printed) (sym p.1) so in
        ⊎_elim here (λ (q : slice_get instances j ≡ Some k). was.taken.calls n j place v k c2 at_v outcome q tt first) (set_cases instances i j h k e);
  };
  refused = was.refused;
  starts_first = search (rules, ⊎_elim, set_cases);
}

-- one more instance, of which nothing was said
pub ended_guest : (instances : List NamedInstance) (invoked : List Invoked) (h : NamedInstance) → h.last_printed ≡ None → StartsFirst h.calls → CallsAreThere instances invoked
    → EndedAsPrinted instances invoked → EndedAsPrinted (instances ++ h ∷ []) invoked
ended_guest instances invoked h unsaid first_of there was = record {
  taken = record {
    starts = search (rules, none-some, ⊎_elim, push_cases);
    calls = λ n j place v k c at outcome e anyone first.
        let d = there.calls n j place v at outcome in
        let same : d.0 ≡ k = same_Some d.0 k (sym (push_there instances j h d.0 d.2) ∙ e) in
        was.taken.calls n j place v k c at outcome (d.2 ∙ ap Some same) tt first;
  };
  refused = was.refused;
  starts_first = search (rules, ⊎_elim, push_cases);
}

-- one more `invoke`, of which nothing was said
pub ended_call : (instances : List NamedInstance) (invoked : List Invoked) (outcome : InvokeOutcome) → EndedAsPrinted instances invoked
    → EndedAsPrinted instances (invoked ++ record { outcome = outcome; last_printed = None } ∷ [])
ended_call instances invoked outcome was = search (rules, none-some, ⊎_elim, push_cases)

-- ---- nothing is said of them again

start_or_none : (ps : List Piece) (o : Option ℕ) → (¬ ((ps ≡ []) × (o ≡ None))) ⊎ ((ps ≡ []) × (o ≡ None))
start_or_none [] None = inr (refl, refl)
start_or_none [] (Some x) = inl (λ both. cc both.1)
start_or_none (p ∷ ps) o = inl (λ both. cc both.0)

taken_or_not : (r : InvokeOutcome) → ((fault : ℕ) × (r ≡ call_rejected fault)) ⊎ ((i : ℕ) × (place : ℕ) × (r ≡ call_accepted i place))
taken_or_not (call_rejected fault) = inl (fault, refl)
taken_or_not (call_accepted i place) = inr (i, place, refl)

start_silent : (m : ScriptState) → IsWellMade m → (i : ℕ) (g : NamedInstance) (status : CallStatus) → slice_get m.instances i ≡ Some g → g.last_printed ≡ Some status
    → is_final status ≡ true → PrintsStart g [] g
start_silent m well i g status at last_printed final =
    let c = well.there.starts i g at in
    let has : HasStart g → PrintsStart g [] g = λ starts.
    let now : call_status g 0 c.0 ≡ status = well.ended.taken.starts i g c.0 at tt starts c.1 status last_printed final in
    let same : g.last_printed ≡ Some (call_status g 0 c.0) = last_printed ∙ ap Some (sym now) in
    subst (λ (o : Option CallStatus). PrintsStart g [] (record g { last_printed = o })) (sym same) (has_one starts c.1 (as_before same)) in
    ⊎_elim has (λ (none : (g.pieces ≡ []) × (g.m.start ≡ None)). has_none none.0 none.1) (start_or_none g.pieces g.m.start)

call_silent : (m : ScriptState) → IsWellMade m → (n number : ℕ) (v : Invoked) (status : CallStatus) → slice_get m.invoked n ≡ Some v → v.last_printed ≡ Some status
    → is_final status ≡ true → PrintsCall m.instances number v [] v
call_silent m well n number v status at last_printed final =
    let refused : ((fault : ℕ) × (v.outcome ≡ call_rejected fault)) → PrintsCall m.instances number v [] v = λ r.
    let same : v.last_printed ≡ Some (texts.refused r.0) = last_printed ∙ ap Some (well.ended.refused n r.0 v status at r.1 last_printed) in
    subst (λ (o : Option CallStatus). PrintsCall m.instances number v [] (record v { last_printed = o })) (sym same) (is_refused r.1 (as_before same)) in
    let taken : ((i : ℕ) × (place : ℕ) × (v.outcome ≡ call_accepted i place)) → PrintsCall m.instances number v [] v = λ t.
    let d = well.there.calls n t.0 t.1 v at t.2 in
    let now : call_status d.0 t.1 d.1 ≡ status = well.ended.taken.calls n t.0 t.1 v d.0 d.1 at t.2 d.2 tt d.3 status last_printed final in
    let same : v.last_printed ≡ Some (call_status d.0 t.1 d.1) = last_printed ∙ ap Some (sym now) in
    subst (λ (o : Option CallStatus). PrintsCall m.instances number v [] (record v { last_printed = o })) (sym same) (is_taken t.2 d.2 d.3 (as_before same)) in
    ⊎_elim refused taken (taken_or_not v.outcome)

pub ended_stays : EndedStays
ended_stays m well = (start_silent m well, call_silent m well)
