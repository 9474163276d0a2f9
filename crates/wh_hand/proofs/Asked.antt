-- What a request leaves.
use Rattle.std.proofs.Common.{◌≡◌, ◌≤◌, ◌<◌, ℕ, ℤ, List, [], ◌∷◌, ◌++◌, length, get_or, Bool, false, Option, Some, None, Result, Ok, Err, refl, sym, ap, subst, ◌∙◌, arith}
use Rattle.std.specs.Global.{Vec}
use Rattle.wh_space_model.specs.declared.plain.InstId.{InstId}
use Rattle.wh_space_model.specs.{Space}
use Rattle.wh_host_model.specs.Host.{Rest, Tenant, World, with_tenant, live_count, LetsIn, MeetsFault, rest_of, Closes, faces_next, is_dead, Cancels, Refuels, has_more, Retries, may_try, Event, load, admit, invoke, refuel, cancel, retry, release, fork, unload, IsLive, IsFork, fork_ok, is_forked, LoadAnswer, UnloadAnswer, IsUnload, is_in_use, is_unloaded, no_module_to_unload, InvokeAnswer, CallAnswer, IsLoad, IsAdmit, IsInvoke, IsRefuel, IsCancel, IsRetry, IsRelease, is_loaded, isnt_loaded, no_memory_to_load, is_admitted, admit_ok, is_invoked, has_no_instance, isnt_invoked, no_memory_to_invoke, is_refueled, no_one_to_refuel, no_call_to_refuel, is_cancelled, no_one_to_cancel, no_call_to_cancel, is_retried, no_one_to_retry, no_fault_to_retry, is_released, no_one_to_release}
use Rattle.wh_host_model.specs.{Entry, Params, instances, most_instances}
use Rattle.wh_host_model.specs.Owners.{Quota, not_admitted, with_quota}
use Rattle.wh_host_model.specs.Host.OwnerCalls.{ends}
use Rattle.wh_host_model.specs.Host.Happens.{Happens}
use Rattle.wh_host.specs.Hosting.{HostState, IsHost}
use Rattle.wh_host.specs.Showing.{RepresentsReached}
use Rattle.wh_host.proofs.Hosts.{as_many, one_fewer, one_more, reached_on}
use Rattle.wh_admit.specs.declared.error.AdmitError.{AdmitError}
use Rattle.wh_admit.specs.declared.fork_error.ForkError.{ForkError}
use Rattle.wh_host.specs.declared.error.HostError.{HostError}
use Rattle.wh_host.specs.declared.error.HostError.TheVariants.{NoInstance, Invoke, NoCall, Memory}
use Rattle.wh_host.specs.declared.error.ModuleError.{ModuleError}
use Rattle.wh_host.specs.declared.parts.ModuleId.{ModuleId}
use Rattle.wh_host.specs.Admitting.{AnswersAdmit}
use Rattle.wh_host.specs.ForkAnswers.{AnswersFork}
use Rattle.wh_host.specs.Requests.{IsCallRequest, LeadsByCallRequest}
use Rattle.wh_host.specs.Backing.{KeepsBacking}
use Rattle.wh_host.specs.Loading.{AnswersLoad}
use Rattle.wh_host.specs.Unloading.{AnswersUnload}
use Rattle.wh_host.specs.declared.error.UnloadError.{UnloadError}
use Rattle.wh_host.specs.Paging.{IsGoing, Tells}
use Rattle.wh_host.specs.Releasing.{AnswersRelease}
use Rattle.wh_hand.specs.HandStates.{IsInOneHand}
use Rattle.wh_hand.specs.Lining.{IsToSettle, Lists}
use Rattle.wh_hand.specs.ReleasedOutputs.{AnswersReleaseHere}
use Rattle.wh_hand.proofs.Goers.{Leads, SameAll, SameOthers, goes_in, keeps_all, keeps_others, lists_on, others_come, others_of_all, others_set, same_all, to_settle, told_here}
use Rattle.wh_hand.proofs.Together.{together_on}

-- who stands in the line but the one that was asked is as before; and no more are there
pub record Asked (id : InstId) (w w2 : World) : Type 0 where
  pub event : Event
  pub happens : Happens w event w2
  pub others : SameOthers id w w2
  pub live : live_count w2.tenants ≤ live_count w.tenants

nothing_asked : (e : Event) (id : InstId) (w : World) → Happens w e w → Asked id w w
nothing_asked e id w happens = record { event = e; happens = happens; others = others_of_all id w w (same_all w w refl); live = omega arith }

one_asked : (e : Event) (id : InstId) (w : World) (t t2 : Tenant) (s : Space) → IsLive w id t → t2.place ≡ t.place
    → Happens w e (with_tenant w id.number (Some t2) s) → Asked id w (with_tenant w id.number (Some t2) s)
one_asked e id w t t2 s live place happens = record {
  event = e;
  happens = happens;
  others = others_set w id t (Some t2) s live (λ u is. ap (λ (z : Tenant). z.place) (sym (let same : t2 ≡ u = cc is in same)) ∙ place);
  live = (let same = as_many w.tenants id.number t t2 live.0 in omega (arith, same));
}

pub loaded_asked : (w w2 : World) (bytes : List ℕ) (answer : LoadAnswer) (id : InstId) → IsLoad w bytes answer w2 → Asked id w w2
loaded_asked w w2 bytes answer id (is_loaded loads) =
    let same : w2.tenants ≡ w.tenants = ap (λ (z : World). z.tenants) loads.after in
    record {
      event = load bytes;
      happens = (answer, is_loaded loads);
      others = others_of_all id w w2 (same_all w w2 same);
      live = (let e = ap live_count same in omega (arith, e));
    }
loaded_asked w w2 bytes answer id (isnt_loaded fault) = nothing_asked (load bytes) id w (answer, isnt_loaded fault)
loaded_asked w w2 bytes answer id (no_memory_to_load want) = nothing_asked (load bytes) id w (answer, no_memory_to_load want)

invoked_asked : (w w2 : World) (id : InstId) (name : List ℕ) (given : List ℤ) (fuel : ℕ) (answer : InvokeAnswer)
    → IsInvoke w id name given fuel answer w2 → Asked id w w2
invoked_asked w w2 id name given fuel answer (is_invoked {t = t} {t2 = t2} live loaded takes) =
    one_asked (invoke id name given fuel) id w t t2 w.space live (ap (λ (z : Tenant). z.place) takes.after) (answer, is_invoked live loaded takes)
invoked_asked w w2 id name given fuel answer (has_no_instance none) = nothing_asked (invoke id name given fuel) id w (answer, has_no_instance none)
invoked_asked w w2 id name given fuel answer (isnt_invoked live loaded first) = nothing_asked (invoke id name given fuel) id w (answer, isnt_invoked live loaded first)
invoked_asked w w2 id name given fuel answer (no_memory_to_invoke live loaded none) = nothing_asked (invoke id name given fuel) id w (answer, no_memory_to_invoke live loaded none)

refuels_place : (t : Tenant) (n : ℕ) (t2 : Tenant) → Refuels t n t2 → t2.place ≡ t.place
refuels_place t n t2 (has_more calls stands) = refl

refueled_asked : (w w2 : World) (id : InstId) (n : ℕ) (answer : CallAnswer) → IsRefuel w id n answer w2 → Asked id w w2
refueled_asked w w2 id n answer (is_refueled {t = t} {t2 = t2} live refuels) =
    one_asked (refuel id n) id w t t2 w.space live (refuels_place t n t2 refuels) (answer, is_refueled live refuels)
refueled_asked w w2 id n answer (no_one_to_refuel none) = nothing_asked (refuel id n) id w (answer, no_one_to_refuel none)
refueled_asked w w2 id n answer (no_call_to_refuel live none) = nothing_asked (refuel id n) id w (answer, no_call_to_refuel live none)

closes_place : {s : Space} {t t2 : Tenant} {e : Entry} {es : List Entry} {r : Rest} → Closes s t e es r t2 → t2.place ≡ t.place
closes_place (faces_next alive f) = refl
closes_place (is_dead died) = refl

cancels_place : (s s2 : Space) (t t2 : Tenant) → Cancels s t s2 t2 → t2.place ≡ t.place
cancels_place s s2 t t2 (ends calls alone none closes) = closes_place closes

cancelled_asked : (w w2 : World) (id : InstId) (answer : CallAnswer) → IsCancel w id answer w2 → Asked id w w2
cancelled_asked w w2 id answer (is_cancelled {t = t} {t2 = t2} {s2 = s2} live cancels) =
    one_asked (cancel id) id w t t2 s2 live (cancels_place w.space s2 t t2 cancels) (answer, is_cancelled live cancels)
cancelled_asked w w2 id answer (no_one_to_cancel none) = nothing_asked (cancel id) id w (answer, no_one_to_cancel none)
cancelled_asked w w2 id answer (no_call_to_cancel live none) = nothing_asked (cancel id) id w (answer, no_call_to_cancel live none)

retries_place : (t t2 : Tenant) → Retries t t2 → t2.place ≡ t.place
retries_place t t2 (may_try calls stands) = refl

retried_asked : (w w2 : World) (id : InstId) (answer : CallAnswer) → IsRetry w id answer w2 → Asked id w w2
retried_asked w w2 id answer (is_retried {t = t} {t2 = t2} live retries) =
    one_asked (retry id) id w t t2 w.space live (retries_place t t2 retries) (answer, is_retried live retries)
retried_asked w w2 id answer (no_one_to_retry none) = nothing_asked (retry id) id w (answer, no_one_to_retry none)
retried_asked w w2 id answer (no_fault_to_retry live none) = nothing_asked (retry id) id w (answer, no_fault_to_retry live none)

pub released_asked : (w w2 : World) (id : InstId) (answer : Option (List ℕ)) → IsRelease w id answer w2 → Asked id w w2
released_asked w w2 id answer (is_released {t = t} live goes) = record {
  event = release id;
  happens = (answer, is_released live goes);
  others = subst (SameOthers id w) (sym goes.after) (others_set w id t None goes.space live (λ u is. absurd (cc is)));
  live =
      let fewer = one_fewer w.tenants id.number t live.0 in
      let same = ap (λ (z : World). live_count z.tenants) goes.after in
      omega (arith, fewer, same);
}
released_asked w w2 id answer (no_one_to_release none) = nothing_asked (release id) id w (answer, no_one_to_release none)

-- whatever is asked about its calls
call_asked : (w w2 : World) (id : InstId) (e : Event) → IsCallRequest id e → Happens w e w2 → Asked id w w2
call_asked w w2 id (invoke other name given fuel) same h = subst (λ i. Asked i w w2) same (invoked_asked w w2 other name given fuel h.0 h.1)
call_asked w w2 id (refuel other n) same h = subst (λ i. Asked i w w2) same (refueled_asked w w2 other n h.0 h.1)
call_asked w w2 id (cancel other) same h = subst (λ i. Asked i w w2) same (cancelled_asked w w2 other h.0 h.1)
call_asked w w2 id (retry other) same h = subst (λ i. Asked i w w2) same (retried_asked w w2 other h.0 h.1)
call_asked w w2 id other never h = absurd never

-- ---- an instance comes

-- it is the next one, and there are few
pub record Comes (e : Event) (id : InstId) (w w2 : World) : Type 0 where
  pub happens : Happens w e w2
  pub others : SameOthers id w w2
  pub new : (t : Tenant) → ¬ (IsLive w id t)
  pub few : live_count w2.tenants ≤ most_instances

few_before : (w : World) (k : ℕ) (p : Params) → ¬ (MeetsFault w k p instances) → live_count w.tenants < most_instances
few_before w k p some = omega (arith, some)

past : (ts : List (Option Tenant)) → get_or ts (length ts) None ≡ None
past [] = refl
past (t ∷ ts) = past ts

-- by whatever event
one_comes : (w w2 : World) (e : Event) (id : InstId) (t : Tenant) (s : Space) → Happens w e w2 → live_count w.tenants < most_instances
    → id.number ≡ length w.tenants → t.place ≡ id.place → w2 ≡ record w { tenants = w.tenants ++ Some t ∷ []; space = s } → Comes e id w w2
one_comes w w2 e id t s happens less next placed after = record {
  happens = happens;
  others = subst (SameOthers id w) (sym after) (others_come w id t s next placed);
  new = λ u live. (let bad : None ≡ Some u = sym (past w.tenants) ∙ ap (λ (n : ℕ). get_or w.tenants n None) (sym next) ∙ live.0 in cc bad);
  few =
      let more = one_more w.tenants t in
      let same : live_count w2.tenants ≡ live_count (w.tenants ++ Some t ∷ []) = ap (λ (z : World). live_count z.tenants) after in
      omega (arith, less, more, same);
}

-- as it is admitted
abbrev comer : (w : World) (k : ℕ) (p : Params) (id : InstId) (w2 : World) → LetsIn w k p id.place id.number w2 → Tenant
comer w k p id w2 lets = record {
  place = id.place;
  of = k;
  params = p;
  inst = lets.inst;
  rest = rest_of lets.s;
  doing = lets.doing;
  ended = lets.ended;
  copied = 0;
  open_calls = lets.open_calls;
  waiting_for = None;
  dead = false;
}

pub admitted_comes : (w w2 : World) (k : ℕ) (p : Params) (id : InstId) → IsAdmit w k p (admit_ok id) w2 → Comes (admit k p) id w w2
admitted_comes w w2 k p id (is_admitted lets) =
    one_comes w w2 (admit k p) id (comer w k p id w2 lets) lets.space (admit_ok id, is_admitted lets) (few_before w k p (lets.no_fault instances)) lets.next refl lets.after

-- as it is copied
abbrev copy_of : Tenant → Quota → ℕ → Tenant
copy_of t q place = record t { place = place; params = with_quota t.params q; copied = length t.ended; waiting_for = None }

pub forked_comes : (w w2 : World) (id copy : InstId) (q : Quota) → IsFork w id q (fork_ok copy) w2 → Comes (fork id q) copy w w2
forked_comes w w2 id copy q (is_forked {t = t} live forks) =
    one_comes w w2 (fork id q) copy (copy_of t q copy.place) forks.space (fork_ok copy, is_forked live forks)
    (few_before w t.of (with_quota t.params q) (forks.no_fault (not_admitted instances))) forks.next refl forks.after

pub unloaded_asked : (w w2 : World) (k : ℕ) (answer : UnloadAnswer) (id : InstId) → IsUnload w k answer w2 → Asked id w w2
unloaded_asked w w2 k answer id (is_unloaded goes) =
    let same : w2.tenants ≡ w.tenants = ap (λ (z : World). z.tenants) goes.after in
    record {
      event = unload k;
      happens = (answer, is_unloaded goes);
      others = others_of_all id w w2 (same_all w w2 same);
      live = (let e = ap live_count same in omega (arith, e));
    }
unloaded_asked w w2 k answer id (no_module_to_unload none) = nothing_asked (unload k) id w (answer, no_module_to_unload none)
unloaded_asked w w2 k answer id (is_in_use i there live of) = nothing_asked (unload k) id w (answer, is_in_use i there live of)

-- ---- what the code represents

led_on : (h h2 : HostState) (R : World → World → Type 0) → ((w w2 : World) → R w w2 → (e : Event) × Happens w e w2)
    → Leads h R h2 → RepresentsReached h → RepresentsReached h2
led_on h h2 R happens leads led =
    let x = leads led.0 led.1 in
    let y = happens led.0 x.0 x.1 in
    (x.0, x.2, reached_on led.0 x.0 y.0 led.2 y.1)

-- each clause of a request says so
pub load_leads : (h h2 : HostState) (bytes : List ℕ) (result : Result ModuleId ModuleError) (id : InstId) → AnswersLoad h bytes result h2
    → Leads h (Asked id) h2
load_leads h h2 bytes result id answers w st = let x = answers w st in (x.1, loaded_asked w x.1 bytes x.0 id x.3, x.4)

pub unload_leads : (h h2 : HostState) (k : ℕ) (result : Result Unit UnloadError) (id : InstId) → AnswersUnload h k result h2
    → Leads h (Asked id) h2
unload_leads h h2 k result id answers w st = let x = answers w st in (x.1, unloaded_asked w x.1 k x.0 id x.3, x.4)

pub call_leads : (h h2 : HostState) (id : InstId) → LeadsByCallRequest h id h2 → Leads h (Asked id) h2
call_leads h h2 id leads w st = let x = leads w st in (x.1, call_asked w x.1 id x.0 x.2 x.3, x.4)

pub release_leads : (h h2 : HostState) (id : InstId) (result : Result (Vec ℕ) HostError) → AnswersRelease h id result h2
    → Leads h (Asked id) h2
release_leads h h2 id result answers w st = let x = answers w st in (x.1, released_asked w x.1 id x.0 x.3, x.4)

-- so the line is right of all but the one that was asked
pub asked_settles : (h h2 : HostState) (id : InstId) (line : List InstId) (stands : Bool) → RepresentsReached h → Lists h line
    → Tells h stands (λ w. IsGoing w id) → Leads h (Asked id) h2 → IsToSettle h2 line id stands
asked_settles h h2 id line stands led lists tells leads =
    let some : (w : World) × IsHost h w = (led.0, led.1) in
    to_settle h h2 line id stands (told_here h line id stands some lists tells) lists
    (keeps_others h h2 id some (λ w st. (let x = leads w st in (x.0, x.1.others, x.2))))

-- no more are there
pub asked_few : (h h2 : HostState) (id : InstId) → RepresentsReached h → h.live ≤ most_instances → Leads h (Asked id) h2 → h2.live ≤ most_instances
asked_few h h2 id led few leads =
    let x = leads led.0 led.1 in
    omega (arith, few, led.1.live, x.2.live, x.1.live)

-- and once it is settled, all is as it has to be
pub asked_in_hand : (h h2 : HostState) (id : InstId) (held : List (List ℕ)) (line line2 : List InstId) (room room2 : ℕ)
    → IsInOneHand h held line room → Leads h (Asked id) h2 → KeepsBacking h.space h2.space → Lists h2 line2 → most_instances ≤ room2 → IsInOneHand h2 held line2 room2
asked_in_hand h h2 id held line line2 room room2 a leads keeps lists enough = record {
  led = led_on h h2 (Asked id) (λ w w2 x. (x.event, x.happens)) leads a.led;
  together = together_on h.space h2.space held keeps a.together;
  lists = lists;
  few = asked_few h h2 id a.led a.few leads;
  enough = enough;
}

-- ---- and an instance that comes

pub admit_leads : (h h2 : HostState) (k : ℕ) (p : Params) (id : InstId) (result : Result InstId AdmitError) → result ≡ Ok id → AnswersAdmit h k p result h2
    → Leads h (Comes (admit k p) id) h2
admit_leads h h2 k p id result ok answers w st =
    let x = subst (λ r. AnswersAdmit h k p r h2) ok answers w st in
    (x.1, admitted_comes w x.1 k p id (subst (λ a. IsAdmit w k p a x.1) x.2 x.3), x.4)

pub fork_leads : (h h2 : HostState) (id : InstId) (q : Quota) (copy : InstId) (result : Result InstId ForkError) → result ≡ Ok copy → AnswersFork h id q result h2
    → Leads h (Comes (fork id q) copy) h2
fork_leads h h2 id q copy result ok answers w st =
    let x = subst (λ r. AnswersFork h id q r h2) ok answers w st in
    (x.1, forked_comes w x.1 id copy q (subst (λ a. IsFork w id q a x.1) x.2 x.3), x.4)

pub comer_settles : (h h2 : HostState) (e : Event) (id : InstId) (line : List InstId) → RepresentsReached h → Lists h line
    → Leads h (Comes e id) h2 → IsToSettle h2 line id false
comer_settles h h2 e id line led lists leads =
    let some : (w : World) × IsHost h w = (led.0, led.1) in
    let x = leads led.0 led.1 in
    to_settle h h2 line id false (λ stands. (let g = goes_in h led.0 id led.1 (lists.goes id stands) in x.1.new g.0 g.1)) lists
    (keeps_others h h2 id some (λ w st. (let y = leads w st in (y.0, y.1.others, y.2))))

pub comer_few : (h h2 : HostState) (e : Event) (id : InstId) → RepresentsReached h → Leads h (Comes e id) h2 → h2.live ≤ most_instances
comer_few h h2 e id led leads =
    let x = leads led.0 led.1 in
    omega (arith, x.2.live, x.1.few)

pub comer_in_hand : (h h2 : HostState) (e : Event) (id : InstId) (held : List (List ℕ)) (line line2 : List InstId) (room room2 : ℕ)
    → IsInOneHand h held line room → Leads h (Comes e id) h2 → KeepsBacking h.space h2.space → Lists h2 line2 → most_instances ≤ room2 → IsInOneHand h2 held line2 room2
comer_in_hand h h2 e id held line line2 room room2 a leads keeps lists enough = record {
  led = led_on h h2 (Comes e id) (λ w w2 x. (e, x.happens)) leads a.led;
  together = together_on h.space h2.space held keeps a.together;
  lists = lists;
  few = comer_few h h2 e id a.led leads;
  enough = enough;
}

-- ---- a module comes

loaded_all : (w w2 : World) (bytes : List ℕ) (answer : LoadAnswer) → IsLoad w bytes answer w2 → SameAll w w2
loaded_all w w2 bytes answer (is_loaded loads) = same_all w w2 (ap (λ (z : World). z.tenants) loads.after)
loaded_all w w2 bytes answer (isnt_loaded fault) = same_all w w refl
loaded_all w w2 bytes answer (no_memory_to_load want) = same_all w w refl

pub loaded_in_hand : (h h2 : HostState) (bytes : List ℕ) (result : Result ModuleId ModuleError) (held : List (List ℕ)) (line : List InstId) (room : ℕ)
    → IsInOneHand h held line room → AnswersLoad h bytes result h2 → KeepsBacking h.space h2.space → IsInOneHand h2 held line room
loaded_in_hand h h2 bytes result held line room a answers keeps =
    let none : InstId = record { place = 0; number = 0 } in
    let leads = load_leads h h2 bytes result none answers in
    record {
      led = led_on h h2 (Asked none) (λ w w2 x. (x.event, x.happens)) leads a.led;
      together = together_on h.space h2.space held keeps a.together;
      lists = lists_on h h2 line
          (keeps_all h h2 (a.led.0, a.led.1) (λ w st. (let x = answers w st in (x.1, loaded_all w x.1 bytes x.0 x.3, x.4)))) a.lists;
      few = asked_few h h2 none a.led a.few leads;
      enough = a.enough;
    }

-- ---- a module goes

unloaded_all : (w w2 : World) (k : ℕ) (answer : UnloadAnswer) → IsUnload w k answer w2 → SameAll w w2
unloaded_all w w2 k answer (is_unloaded goes) = same_all w w2 (ap (λ (z : World). z.tenants) goes.after)
unloaded_all w w2 k answer (no_module_to_unload none) = same_all w w refl
unloaded_all w w2 k answer (is_in_use i there live of) = same_all w w refl

pub unloaded_in_hand : (h h2 : HostState) (k : ℕ) (result : Result Unit UnloadError) (held : List (List ℕ)) (line : List InstId) (room : ℕ)
    → IsInOneHand h held line room → AnswersUnload h k result h2 → KeepsBacking h.space h2.space → IsInOneHand h2 held line room
unloaded_in_hand h h2 k result held line room a answers keeps =
    let none : InstId = record { place = 0; number = 0 } in
    let leads = unload_leads h h2 k result none answers in
    record {
      led = led_on h h2 (Asked none) (λ w w2 x. (x.event, x.happens)) leads a.led;
      together = together_on h.space h2.space held keeps a.together;
      lists = lists_on h h2 line
          (keeps_all h h2 (a.led.0, a.led.1) (λ w st. (let x = answers w st in (x.1, unloaded_all w x.1 k x.0 x.3, x.4)))) a.lists;
      few = asked_few h h2 none a.led a.few leads;
      enough = a.enough;
    }

-- ---- an instance goes

pub release_here : (h h2 : HostState) (id : InstId) (output : Vec ℕ) (before : List ℕ) → AnswersRelease h id (Ok output) h2
    → AnswersReleaseHere (record { host = h; output = before }) id (Ok tt) (record { host = h2; output = output.items })
release_here h h2 id output before answers w st = let x = answers w st in (x.0, x.1, x.2, x.3, x.4)

pub release_err : (h h2 : HostState) (id : InstId) (e : HostError) (before : List ℕ) → AnswersRelease h id (Err e) h2
    → AnswersReleaseHere (record { host = h; output = before }) id (Err e) (record { host = h2; output = before })
release_err h h2 id NoInstance before answers w st = let x = answers w st in (x.0, x.1, x.2, x.3, x.4)
release_err h h2 id (Invoke e) before answers w st = absurd (answers w st).2
release_err h h2 id NoCall before answers w st = absurd (answers w st).2
release_err h h2 id Memory before answers w st = absurd (answers w st).2
