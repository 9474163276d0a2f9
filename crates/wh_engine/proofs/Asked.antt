-- What is asked of the present call of an instance.
use Rattle.std.proofs.Common.{arith, ◌≡◌, ℕ, ◌<◌, true, List, [], ◌∷◌, map, length, get_or, slice_get, Some, Result, Ok, Err, refl, ap, sym, subst, ◌∙◌}
use Rattle.std.proofs.lemmas.Option.{slice_get-get_or}
use Rattle.wh_host.proofs.Hosts.{reached_on}
use Rattle.wh_host_model.specs.Host.Events as events
use Rattle.wh_host_model.specs.Host.{Event, World, CallAnswer, call_ok, call_no_instance, call_no_call, IsCancel, IsRefuel, IsRetry}
use Rattle.wh_space_model.specs.declared.plain.InstId.{InstId}
use Rattle.wh_host_model.specs.Host.Happens.{Happens}
use Rattle.wh_script_model.specs.Settings.{Settings}
use Rattle.wh_script_model.specs.{Command, Reply, Files, IsObeyed, cancel, refuel, retry, no_one_to_cancel, no_one_to_refuel, no_one_to_retry}
use Rattle.wh_script_model.specs.ScriptState as script
use Rattle.wh_script_model.specs.ScriptState.{ScriptState, HasInstance}
use Rattle.wh_commands.specs.declared.command.CallAction.{CallAction}
use Rattle.wh_commands.specs.declared.command.CallAction.TheVariants.{Refuel, Cancel, Retry}
use Rattle.wh_commands.specs.ParsedCommands.{action_of}
use Rattle.wh_host.specs.Hosting.{HostState, IsHost}
use Rattle.wh_host.specs.CallRequests.{IsCallAnswer, AnswersCall, host_number}
use Rattle.wh_host.specs.declared.error.HostError.{HostError}
use Rattle.wh_host.specs.declared.error.HostError.TheVariants.{NoInstance, Invoke, NoCall, Memory}
use Rattle.wh_script_laws.specs.Following.{Knows, StaysWhole}
use Rattle.wh_script_laws.specs.Laws.{FollowsCommand}
use Rattle.wh_script_laws.specs.Replies.{cancel_reply, refuel_reply, retry_reply}
use Rattle.wh_script_laws.proofs.CommandsAsked.{refuels_follow, retries_follow}
use Rattle.wh_script_laws.proofs.CommandsEnding.{cancels_follow}
use Rattle.wh_engine.specs.declared.parts.NamedInstance.{NamedInstance}
use Rattle.wh_engine.specs.RepresentedScript.{WholeState, IsLed, RepresentsWhole}
use Rattle.wh_engine.specs.Obeying.{IsNamed, reply_to_action}
use Rattle.wh_engine.proofs.Touching.{TouchesCalls, nothing, calls_of, cancel_touches, refuel_touches, retry_touches, names_stay, guests_stay, guest_at, placed_at}

-- the engine with another host
abbrev pub on_host : WholeState → HostState → WholeState
on_host e h = record e { host = h }

-- a command is obeyed, by all that was made
abbrev pub ObeysWhole : Settings → Files → ScriptState → (line : ℕ) → Command → Reply → WholeState → Type 0
ObeysWhole settings files m line command reply e2 =
    (m2 : ScriptState) × IsObeyed true settings files m line command (reply ∷ []) m2 × RepresentsWhole settings e2 m2

-- the host has changed under what is known of it, and calls alone
pub stands_on : (settings : Settings) (e : WholeState) (m m2 : ScriptState) (h2 : HostState) (w2 : World) → RepresentsWhole settings e m → IsLed h2 w2
    → Knows settings w2 m2 (map (λ (x : NamedInstance). x.id.place) e.instances) → TouchesCalls m m2 → RepresentsWhole settings (on_host e h2) m2
stands_on settings e m m2 h2 w2 s is2 knows2 nothing = record {
  world = w2;
  is = is2;
  knows = knows2;
  module_names = s.module_names;
  instance_names = s.instance_names;
  apart = s.apart;
  instances = s.instances;
  invoked = s.invoked;
}
stands_on settings e m m2 h2 w2 s is2 knows2 (calls_of i g calls stands at) = record {
  world = w2;
  is = is2;
  knows = knows2;
  module_names = s.module_names;
  instance_names = s.instance_names ∙ sym (names_stay m.instances i g (record g { calls = calls; at_fault = stands }) at refl);
  apart = s.apart;
  instances = guests_stay 0 e.instances m.instances i g calls stands s.instances at;
  invoked = s.invoked;
}

-- both memories are those of the host
pub whole_of : (h h2 : HostState) (w w2 : World) → IsHost h w → IsHost h2 w2 → StaysWhole h.space h2.space → StaysWhole w.space w2.space
whole_of h h2 w w2 is is2 whole = subst (λ s. StaysWhole w.space s) is2.space (subst (λ s. StaysWhole s h2.space) is.space whole)

pub id_of : (x : NamedInstance) (i : ℕ) → x.id.number ≡ i → x.id ≡ record { place = x.id.place; number = i }
id_of x i e = ap (λ n. record { place = x.id.place; number = n }) e

pub own_number : (e : WholeState) (m : ScriptState) (settings : Settings) (i : ℕ) (x : NamedInstance) → RepresentsWhole settings e m → slice_get e.instances i ≡ Some x → x.id.number ≡ i
own_number e m settings i x s at = let n = guest_at 0 e.instances m.instances i x s.instances at in omega (arith, n)

pub asked : (asks : World → InstId → CallAnswer → World → Type 0) (command : Command) (reply : CallAnswer → Reply) (name : List ℕ) → FollowsCommand asks command reply name
    → ((settings : Settings) (files : Files) (m m2 : ScriptState) (line : ℕ) (replies : List Reply) → IsObeyed true settings files m line command replies m2 → TouchesCalls m m2)
    → (event : InstId → Event) → ((w w2 : World) (id : InstId) (answer : CallAnswer) → asks w id answer w2 → Happens w (event id) w2)
    → (settings : Settings) (files : Files) (line : ℕ) (m : ScriptState) (e : WholeState) (h2 : HostState) (x : NamedInstance) (i : ℕ) (r : Result Unit HostError)
    → RepresentsWhole settings e m → IsNamed m i name → slice_get e.instances i ≡ Some x → AnswersCall e.host (λ w a w2. asks w x.id a w2) r h2
    → StaysWhole e.host.space h2.space
    → (answer : CallAnswer) × IsCallAnswer r answer × (m2 : ScriptState) × IsObeyed true settings files m line command (reply answer ∷ []) m2 × RepresentsWhole settings (on_host e h2) m2
asked asks command reply name law touches event happens settings files line m e h2 x i r s named at answers whole =
    let w = s.world in
    let did = answers w s.is.0 in
    let answer = did.0 in
    let w2 = did.1 in
    let happened : asks w (record { place = x.id.place; number = i }) answer w2 =
    subst (λ id. asks w id answer w2) (id_of x i (own_number e m settings i x s at)) did.3 in
    let is2 = did.4 in
    let reached = s.is.1 in
    let led : IsLed h2 w2 = (is2, reached_on w w2 (event (record { place = x.id.place; number = i })) reached (happens w w2 (record { place = x.id.place; number = i }) answer happened)) in
    let follows = law reached.frames reached.slots reached.tax reached.events w reached.happen settings files line m
    (map (λ (y : NamedInstance). y.id.place) e.instances) i x.id.place named.0 answer w2 s.knows named.1
    (placed_at e.instances i x at) happened (whole_of e.host h2 w w2 s.is.0 is2 whole) in
    (answer, did.2, follows.0, follows.1, stands_on settings e m follows.0 h2 w2 s led follows.2 (touches settings files m follows.0 line _ follows.1))

-- ---- by its result

-- the reply that the result of the host gets is that of its answer
answered : (command : Command) (reply : CallAnswer → Reply) (say : Result Unit HostError → Reply) (settings : Settings) (files : Files) (line : ℕ) (m : ScriptState) (e : WholeState) (h2 : HostState)
    (r : Result Unit HostError) → reply call_ok ≡ say (Ok tt) → reply call_no_instance ≡ say (Err NoInstance) → reply call_no_call ≡ say (Err NoCall)
    → ((answer : CallAnswer) × IsCallAnswer r answer × (m2 : ScriptState) × IsObeyed true settings files m line command (reply answer ∷ []) m2 × RepresentsWhole settings (on_host e h2) m2)
    → ObeysWhole settings files m line command (say r) (on_host e h2)
answered command reply say settings files line m e h2 (Ok done) ok none no_call did =
    subst (λ (r : Reply). ObeysWhole settings files m line command r (on_host e h2)) (ap reply did.1 ∙ ok) (did.2, did.3, did.4)
answered command reply say settings files line m e h2 (Err NoInstance) ok none no_call did =
    subst (λ (r : Reply). ObeysWhole settings files m line command r (on_host e h2)) (ap reply did.1 ∙ none) (did.2, did.3, did.4)
answered command reply say settings files line m e h2 (Err (Invoke error)) ok none no_call did = absurd did.1
answered command reply say settings files line m e h2 (Err Memory) ok none no_call did = absurd did.1
answered command reply say settings files line m e h2 (Err NoCall) ok none no_call did =
    subst (λ (r : Reply). ObeysWhole settings files m line command r (on_host e h2)) (ap reply did.1 ∙ no_call) (did.2, did.3, did.4)

-- what an action asks of the host
abbrev pub AsksAction : CallAction → World → InstId → CallAnswer → World → Type 0
AsksAction (Refuel n) w id answer w2 = IsRefuel w id n answer w2
AsksAction Cancel w id answer w2 = IsCancel w id answer w2
AsksAction Retry w id answer w2 = IsRetry w id answer w2

pub acted : (action : CallAction) (settings : Settings) (files : Files) (line : ℕ) (m : ScriptState) (e : WholeState) (name : List ℕ) (h2 : HostState) (x : NamedInstance) (i : ℕ) (r : Result Unit HostError)
    → RepresentsWhole settings e m → IsNamed m i name → slice_get e.instances i ≡ Some x → AnswersCall e.host (λ w a w2. AsksAction action w x.id a w2) r h2
    → StaysWhole e.host.space h2.space → ObeysWhole settings files m line (action_of name action) (reply_to_action name action r) (on_host e h2)
acted (Refuel n) settings files line m e name h2 x i r s named at answers whole =
    answered (refuel name n) (refuel_reply name) (reply_to_action name (Refuel n)) settings files line m e h2 r refl refl refl
    (asked (AsksAction (Refuel n)) (refuel name n) (refuel_reply name) name (refuels_follow name n) (λ settings files m m2 line replies o. refuel_touches o) (λ id. events.refuel id n)
    (λ w w2 id answer h. (answer, h)) settings files line m e h2 x i r s named at answers whole)
acted Cancel settings files line m e name h2 x i r s named at answers whole =
    answered (cancel name) (cancel_reply name) (reply_to_action name Cancel) settings files line m e h2 r refl refl refl
    (asked (AsksAction Cancel) (cancel name) (cancel_reply name) name (cancels_follow name) (λ settings files m m2 line replies o. cancel_touches o) (λ id. events.cancel id)
    (λ w w2 id answer h. (answer, h)) settings files line m e h2 x i r s named at answers whole)
acted Retry settings files line m e name h2 x i r s named at answers whole =
    answered (retry name) (retry_reply name) (reply_to_action name Retry) settings files line m e h2 r refl refl refl
    (asked (AsksAction Retry) (retry name) (retry_reply name) name (retries_follow name) (λ settings files m m2 line replies o. retry_touches o) (λ id. events.retry id)
    (λ w w2 id answer h. (answer, h)) settings files line m e h2 x i r s named at answers whole)

-- of an instance that was released
pub acted_gone : (action : CallAction) (settings : Settings) (files : Files) (line : ℕ) (m : ScriptState) (name : List ℕ) (i : ℕ) (g : script.NamedInstance) → HasInstance m name i g → g.is_released ≡ true
    → IsObeyed true settings files m line (action_of name action) (reply_to_action name action (Err NoInstance) ∷ []) m
acted_gone (Refuel n) settings files line m name i g has gone = no_one_to_refuel i has gone
acted_gone Cancel settings files line m name i g has gone = no_one_to_cancel i has gone
acted_gone Retry settings files line m name i g has gone = no_one_to_retry i has gone

-- the one that is read at a place
pub guest_there : (xs : List NamedInstance) (i : ℕ) (x : NamedInstance) → i < length xs → x ≡ get_or xs i x → slice_get xs i ≡ Some x
guest_there xs i x within e = slice_get-get_or xs i x within ∙ ap Some (sym e)
