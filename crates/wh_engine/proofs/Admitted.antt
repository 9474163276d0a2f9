-- Instances that a script admits.
use Rattle.std.proofs.Common.{arith, ◌≡◌, ◌≢◌, ℕ, zero, suc, ◌+◌, ◌-◌, ◌<◌, inl, ◌↔◌, true, false, Bool, List, [], ◌∷◌, ◌++◌, map, take, length, get_or, slice_get, string_bytes, option_map, Option, Some, None, Ok, Err, refl, ap, sym, subst, ◌∙◌}
use Rattle.std.specs.Bool.{MatchBool}
use Rattle.std.specs.List.{AllZip}
use Rattle.wh_model.specs.Format.{Module}
use Rattle.wh_model.specs.Execution.{Piece, Outcome, returned, pending, Call}
use Rattle.wh_host.proofs.Hosts.{reached_on}
use Rattle.wh_host_model.specs.Host.Events as events
use Rattle.wh_space_model.specs.declared.plain.InstId.{InstId}
use Rattle.std.proofs.Math.Seq.{get_or-append_seam}
use Rattle.std.proofs.lemmas.List.{length-map}
use Rattle.std.proofs.lemmas.Option.{same_Some}
use Rattle.wh_model.specs.Execution.Store.{Instance, Store}
use Rattle.wh_host_model.specs.Host.{Doing, Loaded, Tenant, World, tenant, journal, journal_calls, loaded_of, StartsAs, writes, runs, rest_of, LetsIn, AdmitAnswer, admit_ok, IsAdmit, is_admitted, isnt_admitted, no_memory_to_admit}
use Rattle.wh_host_model.specs.{Entry, start_entry, Params, AdmitFault}
use Rattle.wh_host_model.specs.Host.Admission.{ends}
use Rattle.wh_script_model.specs.Settings.{Settings}
use Rattle.wh_script_model.specs.Texts as texts
use Rattle.wh_script_model.specs.{Reply, NamedModule, ReceivesInstance, first_outcome, new_instance}
use Rattle.wh_script_model.specs.ScriptState as script
use Rattle.wh_script_model.specs.ScriptState.{ScriptState}
use Rattle.wh_script_model.specs.Receiving as receiving
use Rattle.wh_host.specs.Hosting.{HostState, IsHost}
use Rattle.wh_host.specs.Admitting.{AnswersAdmit, fault_answer}
use Rattle.wh_host.specs.Paging.{IsGoing, Tells}
use Rattle.wh_admit.specs.declared.error.AdmitError.{AdmitError}
use Rattle.wh_admit.specs.declared.error.AdmitError.TheVariants.{NoModule, Shares, MinMax, Frames, Swap, Instances, MemoryMin, SegmentBounds, Memory}
use Rattle.wh_admit.specs.AdmitErrors.{admit_number, fault_of}
use Rattle.wh_script_laws.specs.Following.{AreSame, IsFollowed, is_there, Knows, StaysWhole, StandsSame}
use Rattle.wh_script_laws.specs.Replies.{admit_reply}
use Rattle.wh_script_laws.specs.Laws.{places_after}
use Rattle.wh_script_laws.proofs.CommandsInstances.{guests_follow}
use Rattle.wh_replies.specs.View.{status_of}
use Rattle.wh_names.specs.NamePlaces.{place_of_name, AreNamedOnce}
use Rattle.wh_names.specs.declared.names.Names.{Names}
use Rattle.wh_names.proofs.Places.{apart_more}
use Rattle.wh_scheduler.specs.InHand.{OwnedState}
use Rattle.wh_engine.specs.declared.parts.NamedInstance.{NamedInstance}
use Rattle.wh_engine.specs.RepresentedScript.{WholeState, IsLed, RepresentsWhole, AreNamedInstances, IsNamedInstance, ScriptHostState, RepresentsScript, whole_on, LeavesOut, is_over}
use Rattle.wh_engine.proofs.Asked.{whole_of}
use Rattle.wh_engine.proofs.Named.{taken_back}
use Rattle.wh_engine.specs.Obeying.{TakesInstance}
use Rattle.wh_engine.proofs.Left.{one_more_kept}

-- ---- whether there is a start

abbrev HasNone : List Piece → Option ℕ → Type 0
HasNone pieces func = (pieces ≡ []) × (func ≡ None)

ends_at_once : (pieces : List Piece) (func : Option ℕ) → first_outcome pieces func ≡ returned [] → HasNone pieces func
ends_at_once [] None e = (refl, refl)
ends_at_once [] (Some x) e = absurd (cc e)
ends_at_once (p ∷ pieces) func e = absurd (cc e)

waits_first : (pieces : List Piece) (func : Option ℕ) → first_outcome pieces func ≡ pending → HasNone pieces func → ⊥
waits_first [] None e none = cc e
waits_first [] (Some x) e none = cc none.1
waits_first (p ∷ pieces) func e none = cc none.0

abbrev outcome_of : List Call → Outcome
outcome_of [] = pending
outcome_of (c ∷ cs) = c.outcome

told_true : {A : Type 0} (x : A) (xs : List A) (told : Bool) → MatchBool told (x ∷ xs ≢ []) (¬ (x ∷ xs ≢ [])) → told ≡ true
told_true x xs true is = refl
told_true x xs false is = absurd (is (λ e. cc e))

told_false : {A : Type 0} (xs : List A) (told : Bool) → xs ≡ [] → MatchBool told (xs ≢ []) (¬ (xs ≢ [])) → told ≡ true → ⊥
told_false xs true none is e = is none
told_false xs false none is e = cc e

-- what can go on has a start, and only that
starts_so : {inst : Instance} {s : Store} {first : List Piece} {func : Option ℕ} {fuel : ℕ} {d : Doing} {ended open_calls : List Entry} → StartsAs inst s first func fuel d ended open_calls
    → (pieces : List Piece) → first_outcome pieces func ≡ outcome_of (journal_calls (ended ++ open_calls))
    → (told : Bool) → MatchBool told (open_calls ≢ []) (¬ (open_calls ≢ [])) → (told ≡ true) ↔ ¬ (HasNone pieces func)
starts_so {func = func} (writes some) pieces same told is = (λ e none. waits_first pieces func same none, λ h. told_true _ _ told is)
starts_so {func = func} (runs none some faces) pieces same told is = (λ e none. waits_first pieces func same none, λ h. told_true _ _ told is)
starts_so {func = func} (ends none lacks) pieces same told is = (λ e none. told_false _ told refl is e, λ h. absurd (h (ends_at_once pieces func same)))

-- ---- the last of lists

zip_end : {A B : Type 0} (R : A → B → Type 0) (xs : List A) (ys : List B) (x : A) (y : B) → AllZip R (xs ++ x ∷ []) (ys ++ y ∷ []) → R x y
zip_end R [] [] x y h = h.0
zip_end R [] (b ∷ []) x y h = absurd h.1
zip_end R [] (b ∷ c ∷ ys) x y h = absurd h.1
zip_end R (a ∷ []) [] x y h = absurd h.1
zip_end R (a ∷ c ∷ xs) [] x y h = absurd h.1
zip_end R (a ∷ xs) (b ∷ ys) x y h = zip_end R xs ys x y h.1

guests_end : (k : ℕ) (xs : List NamedInstance) (gs : List script.NamedInstance) (x : NamedInstance) (g : script.NamedInstance) → AreNamedInstances k xs gs → IsNamedInstance (k + length xs) x g → AreNamedInstances k (xs ++ x ∷ []) (gs ++ g ∷ [])
guests_end k [] [] x g are is = let e : k + 0 ≡ k = omega arith in (subst (λ n. IsNamedInstance n x g) e is, tt)
guests_end k [] (h ∷ gs) x g are is = absurd are
guests_end k (y ∷ xs) [] x g are is = absurd are
guests_end k (y ∷ xs) (h ∷ gs) x g are is = let e : k + length (y ∷ xs) ≡ (k + 1) + length xs = omega arith in (are.0, guests_end (k + 1) xs gs x g are.1 (subst (λ n. IsNamedInstance n x g) e is))

pub guests_long : (k : ℕ) (xs : List NamedInstance) (gs : List script.NamedInstance) → AreNamedInstances k xs gs → length xs ≡ length gs
guests_long k [] [] are = refl
guests_long k [] (g ∷ gs) are = absurd are
guests_long k (x ∷ xs) [] are = absurd are
guests_long k (x ∷ xs) (g ∷ gs) are = let e = guests_long (k + 1) xs gs are.1 in omega (arith, e)

map_end : {A B : Type 0} (f : A → B) (xs : List A) (x : A) → map f (xs ++ x ∷ []) ≡ map f xs ++ f x ∷ []
map_end f [] x = refl
map_end f (y ∷ xs) x = ap (λ zs. f y ∷ zs) (map_end f xs x)

pub there_at : {A : Type 0} (xs : List A) (i : ℕ) → i < length xs → (x : A) × (slice_get xs i ≡ Some x)
there_at [] i within = absurd (omega (arith, within))
there_at (x ∷ xs) zero within = (x, refl)
there_at (x ∷ xs) (suc i) within = let e : i < length xs = omega (arith, within) in there_at xs i e

match_so : (b : Bool) {P Q R S : Type 0} → (P → R) → (Q → S) → MatchBool b P Q → MatchBool b R S
match_so true f g h = f h
match_so false f g h = g h

-- ---- one that comes

record IsEntered (w w2 : World) (k : ℕ) (p : Params) (id : InstId) : Type 0 where
  lets : LetsIn w k p id.place id.number w2

entered_as : (w w2 : World) (k : ℕ) (p : Params) (id : InstId) (answer : AdmitAnswer) → answer ≡ admit_ok id → IsAdmit w k p answer w2 → IsEntered w w2 k p id
entered_as w w2 k p id _ e (is_admitted {id = own} lets) = let same : own ≡ id = cc e in record { lets = subst (λ x. LetsIn w k p x.place x.number w2) same lets }
entered_as w _ k p id _ e (isnt_admitted first) = absurd (cc e)
entered_as w _ k p id _ e (no_memory_to_admit none) = absurd (cc e)

-- the tenant of an admission
abbrev tenant_of : {w w2 : World} {k number : ℕ} {p : Params} {place : ℕ} → LetsIn w k p place number w2 → Tenant
tenant_of {k = k} {p = p} {place = place} l = record {
  place = place;
  of = k;
  params = p;
  inst = l.inst;
  rest = rest_of l.s;
  doing = l.doing;
  ended = l.ended;
  copied = 0;
  open_calls = l.open_calls;
  waiting_for = None;
  dead = false;
}

tenants_after : {w w2 : World} {k number place : ℕ} {p : Params} (l : LetsIn w k p place number w2) → w2.tenants ≡ w.tenants ++ Some (tenant_of l) ∷ []
tenants_after l = ap (λ (z : World). z.tenants) l.after

comes_there : {w w2 : World} {k number place : ℕ} {p : Params} (l : LetsIn w k p place number w2) → tenant w2 number ≡ Some (tenant_of l)
comes_there {w = w} {w2 = w2} {number = number} l =
    ap (λ ts. get_or ts number None) (tenants_after l) ∙ ap (λ n. get_or (w.tenants ++ Some (tenant_of l) ∷ []) n None) l.next ∙ get_or-append_seam w.tenants (Some (tenant_of l)) [] None

calls_known : {w : World} {g : script.NamedInstance} {t : Tenant} → IsFollowed AreSame StandsSame w g (Some t) → g.calls ≡ journal_calls (journal t)
calls_known (is_there of_one same none) = same

start_known : {w w2 : World} {k number place : ℕ} {p : Params} (l : LetsIn w k p place number w2) {g : script.NamedInstance} → IsFollowed AreSame StandsSame w2 g (Some (tenant_of l)) → g.m.start ≡ l.loaded.m.start
start_known {w = w} {w2 = w2} {k = k} l {g} (is_there of_one same none) =
    let here : loaded_of w2 k ≡ Some l.loaded = ap (λ (z : World). loaded_of z k) l.after ∙ l.is_loaded in
    let one : of_one.loaded ≡ l.loaded = same_Some of_one.loaded l.loaded (sym of_one.is_loaded ∙ here) in
    ap (λ (z : Module). z.start) of_one.of_one ∙ ap (λ (z : Loaded). z.m.start) one

open_of : {w w2 : World} {k number place : ℕ} {p : Params} (l : LetsIn w k p place number w2) → IsGoing w2 (record { place = place; number = number }) → l.open_calls ≢ []
open_of l going = let same : going.0 ≡ tenant_of l = same_Some going.0 (tenant_of l) (sym going.1.0 ∙ comes_there l) in subst (λ (t : Tenant). t.open_calls ≢ []) same going.2.0

-- so it has a start where it can go on
has_start : {w w2 : World} {k number place : ℕ} {p : Params} (l : LetsIn w k p place number w2) (gs : List script.NamedInstance) (g : script.NamedInstance) (pieces : List Piece) (h2 : HostState) (told : Bool)
    → AllZip (IsFollowed AreSame StandsSame w2) (gs ++ g ∷ []) w2.tenants → g.calls ≡ (start_entry g.m.start p.fuel (first_outcome pieces g.m.start)).call ∷ []
    → IsHost h2 w2 → Tells h2 told (λ z. IsGoing z (record { place = place; number = number })) → (told ≡ true) ↔ ¬ (HasNone pieces g.m.start)
has_start {w = w} {w2 = w2} {k = k} {number = number} {place = place} {p = p} l gs g pieces h2 told all calls is2 tells =
    let followed = zip_end (IsFollowed AreSame StandsSame w2) gs w.tenants g (Some (tenant_of l)) (subst (AllZip (IsFollowed AreSame StandsSame w2) (gs ++ g ∷ [])) (tenants_after l) all) in
    let known = calls_known followed in
    let start : g.m.start ≡ l.loaded.m.start = start_known l followed in
    let same : first_outcome pieces l.loaded.m.start ≡ outcome_of (journal_calls (l.ended ++ l.open_calls)) =
    subst (λ f. first_outcome pieces f ≡ outcome_of (journal_calls (l.ended ++ l.open_calls))) start (ap outcome_of (sym calls ∙ known)) in
    let is : MatchBool told (l.open_calls ≢ []) (¬ (l.open_calls ≢ [])) =
    match_so told
    (λ going. open_of l going)
    (λ none some. none (tenant_of l, (comes_there l, refl), (some, inl refl)))
    (tells w2 is2) in
    subst (λ f. (told ≡ true) ↔ ¬ (HasNone pieces f)) (sym start) (starts_so l.starts pieces same told is)

-- ---- the engine

abbrev pub with_guests : WholeState → HostState → Names → List NamedInstance → WholeState
with_guests e h names xs = record e { host = h; instance_names = names; instances = xs }

-- an instance whose name is free, of the module of this number, got this reply
abbrev pub TakesGuestWhole : Settings → ScriptState → (name : List ℕ) (k : ℕ) (p : Params) → Reply → WholeState → Type 0
TakesGuestWhole settings m name k p reply e2 =
    (named : NamedModule) × (slice_get m.modules k ≡ Some named)
    × (m2 : ScriptState) × ReceivesInstance true settings m name named.m p reply m2 × RepresentsWhole settings e2 m2

-- the new instance as the engine keeps it
pub record IsNewGuest (x : NamedInstance) (inst : List ℕ) (own : InstId) : Type 0 where
  pub id : x.id ≡ own
  pub name : string_bytes x.name ≡ inst
  pub live : x.is_released ≡ false
  pub unsaid : x.last_printed ≡ None

new_stands : (settings : Settings) (e : WholeState) (m : ScriptState) (named : NamedModule) (inst : List ℕ) (k : ℕ) (p : Params) (id : InstId) (h2 : HostState) (names : Names) (x : NamedInstance) (xs : List NamedInstance)
    → (s : RepresentsWhole settings e m) → place_of_name e.instance_names inst ≡ None → slice_get m.modules k ≡ Some named
    → names ≡ e.instance_names ++ inst ∷ []
    → Tells h2 x.has_start (λ z. IsGoing z id) → IsNewGuest x inst id → xs ≡ e.instances ++ x ∷ []
    → (w2 : World) → LetsIn s.world k p id.place id.number w2
    → (m2 : ScriptState) (reply : Reply) → reply ≡ texts.admit_ok inst id.number → ReceivesInstance true settings m inst named.m p reply m2 → IsLed h2 w2
    → Knows settings w2 m2 (map (λ (y : NamedInstance). y.id.place) e.instances ++ id.place ∷ [])
    → TakesGuestWhole settings m inst k p reply (with_guests e h2 names xs)
new_stands settings e m named inst k p id h2 names x xs s free at sets tells is items w2 lets _ _ eq (receiving.isnt_admitted fault first) is2 knows2 = absurd (cc eq)
new_stands settings e m named inst k p id h2 names x xs s free at sets tells is items w2 lets _ _ eq (receiving.admission_out_of_memory may_run_out none) is2 knows2 = absurd (cc eq)
new_stands settings e m named inst k p id h2 names x xs s free at sets tells is items w2 lets _ _ eq (receiving.is_admitted {inst = own} {s = store} {pieces = pieces} none initial) is2 knows2 =
    let g = new_instance inst named.m p own pieces in
    let long : length e.instances ≡ length m.instances = guests_long 0 e.instances m.instances s.instances in
    let number : id.number ≡ length m.instances = cc eq in
    let place : x.id.number ≡ 0 + length e.instances = let a = ap (λ (y : InstId). y.number) is.id in omega (arith, a, number, long) in
    let at_end : IsNamedInstance (0 + length e.instances) x g = record {
      number = place;
      name = is.name;
      starts = has_start lets m.instances g pieces h2 x.has_start knows2.instances refl is2.0 tells;
      released = is.live;
      last_printed = ap (λ o. option_map status_of o) is.unsaid;
    } in (
      named,
      at,
      record m { instances = m.instances ++ g ∷ [] },
      receiving.is_admitted none initial,
      record {
        world = w2;
        is = is2;
        knows = subst (Knows settings w2 (record m { instances = m.instances ++ g ∷ [] }))
            (sym (ap (λ ys. map (λ (y : NamedInstance). y.id.place) ys) items ∙ map_end (λ (y : NamedInstance). y.id.place) e.instances x
            ∙ ap (λ (y : InstId). map (λ (z : NamedInstance). z.id.place) e.instances ++ y.place ∷ []) is.id)) knows2;
        module_names = s.module_names;
        instance_names = sets ∙ ap (λ (ls : List (List ℕ)). ls ++ inst ∷ []) s.instance_names ∙ sym (map_end (λ (y : script.NamedInstance). y.name) m.instances g);
        apart = subst AreNamedOnce (sym sets) (apart_more e.instance_names inst s.apart free);
        instances = subst (λ ys. AreNamedInstances 0 ys (m.instances ++ g ∷ [])) (sym items) (guests_end 0 e.instances m.instances x g s.instances at_end);
        invoked = s.invoked;
      },
    )

-- there are as many names as modules
names_many : {settings : Settings} {e : WholeState} {m : ScriptState} → RepresentsWhole settings e m → length e.module_names ≡ length m.modules
names_many {m = m} s = ap (λ (ns : Names). length ns) s.module_names ∙ length-map m.modules (λ (n : NamedModule). n.name)

-- it is admitted
pub admitted : (settings : Settings) (e : WholeState) (m : ScriptState) (inst : List ℕ) (k : ℕ) (p : Params) (id : InstId) (h2 : HostState) (names : Names) (x : NamedInstance) (xs : List NamedInstance)
    → RepresentsWhole settings e m → place_of_name e.instance_names inst ≡ None → k < length e.module_names → AnswersAdmit e.host k p (Ok id) h2 → StaysWhole e.host.space h2.space
    → names ≡ e.instance_names ++ inst ∷ []
    → Tells h2 x.has_start (λ z. IsGoing z id) → IsNewGuest x inst id → xs ≡ e.instances ++ x ∷ []
    → TakesGuestWhole settings m inst k p (texts.admit_ok inst id.number) (with_guests e h2 names xs)
admitted settings e m inst k p id h2 names x xs s free within answers whole sets tells is items =
    let w = s.world in
    let did = answers w s.is.0 in
    let there = there_at m.modules k (subst (λ n. k < n) (names_many s) within) in
    let entered = entered_as w did.1 k p id did.0 did.2 did.3 in
    let reached = s.is.1 in
    let led : IsLed h2 did.1 = (did.4, reached_on w did.1 (events.admit k p) reached (did.0, did.3)) in
    let follows = guests_follow reached.frames reached.slots reached.tax reached.events w reached.happen settings m (map (λ (y : NamedInstance). y.id.place) e.instances) k there.0 inst p
    (admit_ok id) did.1 s.knows there.1 (is_admitted entered.lets) (whole_of e.host h2 w did.1 s.is.0 did.4 whole) in
    new_stands settings e m there.0 inst k p id h2 names x xs s free there.1 sets tells is items did.1 entered.lets follows.0 (texts.admit_ok inst id.number) refl follows.1 led follows.2

-- ---- one that doesn't come

refused_as : (inst : List ℕ) (error : AdmitError) → admit_reply inst (fault_answer (fault_of error)) ≡ texts.admit_refused inst (admit_number error)
refused_as inst NoModule = refl
refused_as inst Shares = refl
refused_as inst MinMax = refl
refused_as inst Frames = refl
refused_as inst Swap = refl
refused_as inst Instances = refl
refused_as inst MemoryMin = refl
refused_as inst SegmentBounds = refl
refused_as inst Memory = refl

refused_engine : (settings : Settings) (e : WholeState) (m : ScriptState) (h2 : HostState) (names : Names) (xs : List NamedInstance) → RepresentsWhole settings e m
    → names ≡ e.instance_names → xs ≡ e.instances
    → (w2 : World) → IsLed h2 w2 → Knows settings w2 m (map (λ (y : NamedInstance). y.id.place) e.instances) → RepresentsWhole settings (with_guests e h2 names xs) m
refused_engine settings e m h2 names xs s are items w2 is2 knows2 = record {
  world = w2;
  is = is2;
  knows = subst (λ ys. Knows settings w2 m (map (λ (y : NamedInstance). y.id.place) ys)) (sym items) knows2;
  module_names = s.module_names;
  instance_names = are ∙ s.instance_names;
  apart = subst AreNamedOnce (sym are) s.apart;
  instances = subst (λ ys. AreNamedInstances 0 ys m.instances) (sym items) s.instances;
  invoked = s.invoked;
}

places_refused : (settings : Settings) (w2 : World) (m2 : ScriptState) (places : List ℕ) (o : Option AdmitFault) → Knows settings w2 m2 (places_after places (fault_answer o)) → Knows settings w2 m2 places
places_refused settings w2 m2 places (Some fault) knows = knows
places_refused settings w2 m2 places None knows = knows

refused_stands : (settings : Settings) (e : WholeState) (m : ScriptState) (named : NamedModule) (inst : List ℕ) (k : ℕ) (p : Params) (fault : ℕ) (h2 : HostState) (names : Names) (xs : List NamedInstance)
    → RepresentsWhole settings e m → slice_get m.modules k ≡ Some named → names ≡ e.instance_names → xs ≡ e.instances
    → (w2 : World) (m2 : ScriptState) (reply : Reply) → reply ≡ texts.admit_refused inst fault → ReceivesInstance true settings m inst named.m p reply m2 → IsLed h2 w2
    → Knows settings w2 m2 (map (λ (y : NamedInstance). y.id.place) e.instances)
    → TakesGuestWhole settings m inst k p reply (with_guests e h2 names xs)
refused_stands settings e m named inst k p fault h2 names xs s at are items w2 _ _ eq (receiving.is_admitted none initial) is2 knows2 = absurd (cc eq)
refused_stands settings e m named inst k p fault h2 names xs s at are items w2 _ _ eq (receiving.isnt_admitted own first) is2 knows2 =
    (named, at, m, receiving.isnt_admitted own first, refused_engine settings e m h2 names xs s are items w2 is2 knows2)
refused_stands settings e m named inst k p fault h2 names xs s at are items w2 _ _ eq (receiving.admission_out_of_memory may_run_out none) is2 knows2 =
    (named, at, m, receiving.admission_out_of_memory may_run_out none, refused_engine settings e m h2 names xs s are items w2 is2 knows2)

pub refused : (settings : Settings) (e : WholeState) (m : ScriptState) (inst : List ℕ) (k : ℕ) (p : Params) (error : AdmitError) (h2 : HostState) (given names : Names) (xs : List NamedInstance)
    → RepresentsWhole settings e m → k < length e.module_names → AnswersAdmit e.host k p (Err error) h2 → StaysWhole e.host.space h2.space
    → given ≡ e.instance_names ++ inst ∷ []
    → names ≡ take (length given - 1) given
    → xs ≡ e.instances
    → TakesGuestWhole settings m inst k p (texts.admit_refused inst (admit_number error)) (with_guests e h2 names xs)
refused settings e m inst k p error h2 given names xs s within answers whole sets clears items =
    let w = s.world in
    let did = answers w s.is.0 in
    let there = there_at m.modules k (subst (λ n. k < n) (names_many s) within) in
    let reached = s.is.1 in
    let led : IsLed h2 did.1 = (did.4, reached_on w did.1 (events.admit k p) reached (did.0, did.3)) in
    let follows = guests_follow reached.frames reached.slots reached.tax reached.events w reached.happen settings m (map (λ (y : NamedInstance). y.id.place) e.instances) k there.0 inst p
    (fault_answer (fault_of error)) did.1 s.knows there.1 (subst (λ a. IsAdmit w k p a did.1) did.2 did.3) (whole_of e.host h2 w did.1 s.is.0 did.4 whole) in
    let are = taken_back e.instance_names given names inst sets clears in
    subst (λ r. TakesGuestWhole settings m inst k p r (with_guests e h2 names xs)) (refused_as inst error)
    (refused_stands settings e m there.0 inst k p (admit_number error) h2 names xs s there.1 are items did.1 follows.0 (admit_reply inst (fault_answer (fault_of error))) (refused_as inst error)
    follows.1 led (places_refused settings did.1 follows.0 (map (λ (y : NamedInstance). y.id.place) e.instances) (fault_of error) follows.2))

-- ---- what is kept then

pub guest_again : {D : Type 0} (settings : Settings) (e : ScriptHostState D) (m : ScriptState) (inst : List ℕ) (k : ℕ) (p : Params) (reply : Reply) (o2 : OwnedState D) (names : Names) (x : NamedInstance) (xs : List NamedInstance)
    (s : RepresentsScript settings e m) → xs ≡ e.instances ++ x ∷ []
    → TakesGuestWhole settings m inst k p reply (with_guests (whole_on e s.instances s.invoked) o2.host names (s.instances ++ x ∷ []))
    → TakesInstance settings m inst k p reply (record e { host = o2; instance_names = names; instances = xs })
guest_again settings e m inst k p reply o2 names x xs s items takes = (
  takes.0,
  takes.1,
  takes.2,
  takes.3,
  record {
    instances = s.instances ++ x ∷ [];
    invoked = s.invoked;
    kept = subst (λ ys. LeavesOut is_over ys (s.instances ++ x ∷ [])) (sym items) (one_more_kept x s.kept);
    pending = s.pending;
    asked = s.asked;
    stands = takes.4;
  },
)

pub refused_again : {D : Type 0} (settings : Settings) (e : ScriptHostState D) (m : ScriptState) (inst : List ℕ) (k : ℕ) (p : Params) (reply : Reply) (o2 : OwnedState D) (names : Names) (xs : List NamedInstance)
    (s : RepresentsScript settings e m) → xs ≡ e.instances → TakesGuestWhole settings m inst k p reply (with_guests (whole_on e s.instances s.invoked) o2.host names s.instances)
    → TakesInstance settings m inst k p reply (record e { host = o2; instance_names = names; instances = xs })
refused_again settings e m inst k p reply o2 names xs s items takes = (
  takes.0,
  takes.1,
  takes.2,
  takes.3,
  record {
    instances = s.instances;
    invoked = s.invoked;
    kept = subst (λ ys. LeavesOut is_over ys s.instances) (sym items) s.kept;
    pending = s.pending;
    asked = s.asked;
    stands = takes.4;
  },
)
