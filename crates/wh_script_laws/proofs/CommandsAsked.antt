-- What is asked of the present call of an instance.
use Rattle.std.proofs.Common.{◌≡◌, ℕ, inl, inr, true, List, [], ◌∷◌, ◌++◌, slice_get, Option, Some, None, refl, sym, ap, subst, ◌∙◌}
use Rattle.std.proofs.lemmas.Option.{none-some}
use Rattle.wh_model.specs.Execution.{Call}
use Rattle.wh_host_model.specs.Host.{Suspension, for_fuel, for_frame, for_device, Tenant, World, journal, journal_calls, tenant, with_tenant, more_fuel, WaitsAfter, Refuels, has_more, Retries, may_try, IsRefuel, IsRetry, InOrder, HasJournal}
use Rattle.wh_host_model.specs.Host.Happens as happen
use Rattle.wh_script_model.specs.Settings.{Settings}
use Rattle.wh_script_model.specs.{refuel, retry, NamedInstance, HasInstance, with_instance, with_first_open, Files, with_fuel, IsObeyed, IsTenantOf}
use Rattle.wh_script_model.specs.ScriptState.{ScriptState}
use Rattle.wh_host_model.specs.{first_open, Entry}
use Rattle.wh_script_model.specs.Answers as answers
use Rattle.wh_host_model.proofs.Host.Holding.{journals_are_in_order}
use Rattle.wh_script_laws.specs.Following.{Knows, StaysWhole, StandsSame, device_fault}
use Rattle.wh_script_laws.specs.Replies.{refuel_reply, retry_reply}
use Rattle.wh_script_laws.specs.Laws.{RefuelsFollow, RetriesFollow}
use Rattle.wh_script_laws.proofs.Fuel.{refueled_first}
use Rattle.wh_script_laws.proofs.Journals.{ordered, none_open, first_is, refueled_is}
use Rattle.wh_script_laws.proofs.CommandsKnown.{IsFound, found_gone, found_live, found, live_same, not_live, tenant_calls, changed}
use Rattle.wh_script_model.proofs.Standing.{at_no_fault}

-- ---- another try

-- where it can't be tried again it is blocked on no fault
no_fault : (os : List Entry) (o : Option Suspension) (t : Tenant) → t.open_calls ≡ os → t.waiting_for ≡ o → (t.open_calls ≡ [] → t.waiting_for ≡ None)
    → ((t2 : Tenant) → ¬ (Retries t t2)) → device_fault o ≡ None
no_fault [] o t none is rests never = ap device_fault (sym is ∙ rests none)
no_fault (e ∷ es) None t are is rests never = refl
no_fault (e ∷ es) (Some for_fuel) t are is rests never = refl
no_fault (e ∷ es) (Some for_frame) t are is rests never = refl
no_fault (e ∷ es) (Some (for_device fault)) t are is rests never = absurd (never (record t { waiting_for = Some for_frame }) (may_try are is))

retried_so : {settings : Settings} {w : World} {m : ScriptState} {places : List ℕ} (files : Files) (number i place : ℕ) (name : List ℕ) (g : NamedInstance) (t t2 : Tenant)
    → Knows settings w m places → HasInstance m name i g → slice_get places i ≡ Some place → IsTenantOf w t g → t.place ≡ place → g.calls ≡ journal_calls (journal t)
    → StandsSame g t → Retries t t2 → StaysWhole w.space w.space
    → (m2 : ScriptState) × IsObeyed true settings files m number (retry name) (retry_reply name happen.call_ok ∷ []) m2
    × Knows settings (with_tenant w i (Some t2) w.space) m2 places
retried_so {w = w} {m = m} files number i place name g t t2 known has lies of_one at same stands (may_try {fault = fault} there waits) whole =
    let g2 : NamedInstance = record g { at_fault = None } in (
      with_instance m i g2,
      answers.is_retried i has of_one.is_live (stands.0 ∙ ap device_fault waits),
      changed i place g g2 t2 w.space known has.0 lies whole refl refl (record {
        params = refl;
        gone = refl;
        of_one = tenant_calls w t t2 g g.calls None of_one refl refl refl same;
        calls = same;
        stands = (refl, λ e es are none. absurd (none-some for_frame (sym none)));
        lies = at;
      }),
    )

retry_obeyed : {settings : Settings} {w w2 : World} {m : ScriptState} {places : List ℕ} (files : Files) (number i place : ℕ) (name : List ℕ) (g : NamedInstance)
    (answer : happen.CallAnswer) → Knows settings w m places → HasInstance m name i g → slice_get places i ≡ Some place
    → ((t : Tenant) → tenant w i ≡ Some t → t.open_calls ≡ [] → t.waiting_for ≡ None) → IsFound w g i place
    → IsRetry w (record { place = place; number = i }) answer w2 → StaysWhole w.space w2.space
    → (m2 : ScriptState) × IsObeyed true settings files m number (retry name) (retry_reply name answer ∷ []) m2 × Knows settings w2 m2 places
retry_obeyed {w = w} files number i place name g answer known has lies rests (found_gone at gone) (happen.is_retried {t = u} live r) whole =
    absurd (not_live w i place u at live)
retry_obeyed {m = m} files number i place name g answer known has lies rests (found_gone at gone) (happen.no_one_to_retry none) whole =
    (m, answers.no_one_to_retry i has gone, known)
retry_obeyed {w = w} files number i place name g answer known has lies rests (found_gone at gone) (happen.no_fault_to_retry {t = u} live none) whole =
    absurd (not_live w i place u at live)
retry_obeyed {w = w} files number i place name g answer known has lies rests (found_live t at here of_one same stands)
    (happen.is_retried {t = u} {t2 = t2} live r) whole =
    let one = live_same w i place t u here live in
    retried_so files number i place name g t t2 known has lies of_one here.1 same stands (subst (λ x. Retries x t2) (sym one) r) whole
retry_obeyed files number i place name g answer known has lies rests (found_live t at here of_one same stands) (happen.no_one_to_retry none) whole =
    absurd (none t here)
retry_obeyed {w = w} {m = m} files number i place name g answer known has lies rests (found_live t at here of_one same stands)
    (happen.no_fault_to_retry {t = u} live none) whole =
    let one = live_same w i place t u here live in
    let never = subst (λ (x : Tenant). (t2 : Tenant) → ¬ (Retries x t2)) (sym one) none in
    (m, answers.no_fault_to_retry i has of_one.is_live (stands.0 ∙ no_fault t.open_calls t.waiting_for t refl refl (rests t here.0) never), known)

pub retries_follow : RetriesFollow
retries_follow name frames slots tax events w happens settings files number m places i place g answer w2 known has lies asks whole =
    retry_obeyed files number i place name g answer known has lies (at_no_fault frames slots tax events w happens i) (found i place g known has.0 lies) asks whole

-- ---- more fuel

after_fuel : (call : Call) (o o2 : Option Suspension) → WaitsAfter call o o2 → device_fault o ≡ device_fault o2
after_fuel call None o2 waits = ap device_fault (sym waits)
after_fuel call (Some for_fuel) o2 (inl a) = ap device_fault (sym a.1)
after_fuel call (Some for_fuel) o2 (inr a) = ap device_fault (sym a.1)
after_fuel call (Some for_frame) o2 waits = ap device_fault (sym waits)
after_fuel call (Some (for_device f)) o2 waits = ap device_fault (sym waits)

refueled_so : {settings : Settings} {w : World} {m : ScriptState} {places : List ℕ} (files : Files) (number i place : ℕ)
    (name : List ℕ) (n : ℕ) (g : NamedInstance) (t t2 : Tenant) → Knows settings w m places → HasInstance m name i g
    → slice_get places i ≡ Some place → HasJournal w t → IsTenantOf w t g → t.place ≡ place
    → g.calls ≡ journal_calls (journal t) → StandsSame g t
    → Refuels t n t2 → StaysWhole w.space w.space
    → (m2 : ScriptState) × IsObeyed true settings files m number (refuel name n) (refuel_reply name happen.call_ok ∷ []) m2
    × Knows settings (with_tenant w i (Some t2) w.space) m2 places
refueled_so {settings} {w} {m} {places} files number i place name n g t t2 known has lies j of_one at same none
    (has_more {e = e} {es = es} {o = o} there stands) whole =
    let order = ordered w t j in
    let order2 = subst (λ os. InOrder order.0 t.inst t.dead t.ended os) there order.1 in
    let calls : g.calls ≡ journal_calls (t.ended ++ e ∷ es) = same ∙ ap (λ os. journal_calls (t.ended ++ os)) there in
    let first : first_open g.calls ≡ Some e.call = ap first_open calls ∙ first_is order2 in
    let after : with_first_open (with_fuel n) g.calls ≡ journal_calls (t.ended ++ more_fuel e n ∷ es)
    = ap (with_first_open (with_fuel n)) calls ∙ refueled_is n order2 in
    let g2 : NamedInstance = record g { calls = with_first_open (with_fuel n) g.calls } in (
      with_instance m i g2,
      answers.is_refueled i has of_one.is_live first,
      changed i place g g2 t2 w.space known has.0 lies whole refl refl (record {
        params = refl;
        gone = refl;
        of_one = tenant_calls w t t2 g g2.calls g.at_fault of_one refl refl refl after;
        calls = after;
        stands = (none.0 ∙ after_fuel (more_fuel e n).call t.waiting_for o stands, refueled_first e n t.waiting_for o order2 (none.1 e es there) stands);
        lies = at;
      }),
    )

refuel_obeyed : {settings : Settings} {w w2 : World} {m : ScriptState} {places : List ℕ} (files : Files) (number i place : ℕ)
    (name : List ℕ) (n : ℕ) (g : NamedInstance) (answer : happen.CallAnswer) → Knows settings w m places → HasInstance m name i g
    → slice_get places i ≡ Some place → ((t : Tenant) → tenant w i ≡ Some t → HasJournal w t) → IsFound w g i place
    → IsRefuel w (record { place = place; number = i }) n answer w2 → StaysWhole w.space w2.space
    → (m2 : ScriptState) × IsObeyed true settings files m number (refuel name n) (refuel_reply name answer ∷ []) m2
    × Knows settings w2 m2 places
refuel_obeyed {w = w} {m = m} files number i place name n g answer known has lies orders (found_gone at gone)
    (happen.is_refueled {t = u} live r) whole = absurd (not_live w i place u at live)
refuel_obeyed {m = m} files number i place name n g answer known has lies orders (found_gone at gone) (happen.no_one_to_refuel none)
    whole = (m, answers.no_one_to_refuel i has gone, known)
refuel_obeyed {w = w} files number i place name n g answer known has lies orders (found_gone at gone)
    (happen.no_call_to_refuel {t = u} live none) whole = absurd (not_live w i place u at live)
refuel_obeyed {w = w} files number i place name n g answer known has lies orders (found_live t at here of_one same stands)
    (happen.is_refueled {t = u} {t2 = t2} live r) whole =
    let one = live_same w i place t u here live in
    refueled_so files number i place name n g t t2 known has lies (orders t here.0) of_one here.1 same stands
    (subst (λ x. Refuels x n t2) (sym one) r) whole
refuel_obeyed files number i place name n g answer known has lies orders (found_live t at here of_one same stands)
    (happen.no_one_to_refuel none) whole = absurd (none t here)
refuel_obeyed {w = w} {m = m} files number i place name n g answer known has lies orders (found_live t at here of_one same stands)
    (happen.no_call_to_refuel {t = u} live none) whole =
    let one = live_same w i place t u here live in
    (m, answers.no_call_to_refuel i has of_one.is_live (none_open w t g (orders t here.0) same (ap (λ (x : Tenant). x.open_calls) one ∙ none)), known)

pub refuels_follow : RefuelsFollow
refuels_follow name n frames slots tax events w happens settings files number m places i place g answer w2 known has lies asks whole =
    refuel_obeyed files number i place name n g answer known has lies (journals_are_in_order frames slots tax events w happens i)
    (found i place g known has.0 lies) asks whole
