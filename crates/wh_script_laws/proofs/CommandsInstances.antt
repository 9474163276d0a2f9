-- An instance that comes.
use Rattle.std.proofs.Common.{◌≡◌, ℕ, ◌+◌, ◌-◌, true, false, List, [], ◌∷◌, ◌++◌, length, slice_get, Option, Some, None, refl, sym, ap, subst, ◌∙◌, rules}
use Rattle.std.proofs.lemmas.Option.{same_Some}
use Rattle.std.specs.List.{AllZip}
use Rattle.wh_model.specs.Format.{Module}
use Rattle.wh_model.specs.Execution.Store.{Instance, Store}
use Rattle.wh_model.specs.Execution.{Piece, IsInitial, begins}
use Rattle.wh_space_model.specs.declared.Tax.{Tax}
use Rattle.wh_space_model.specs.{IsSound}
use Rattle.wh_host_model.specs.Host.{Doing, Tenant, Loaded, World, promised, journal_calls, loaded_of, live_count, MeetsFault, IsFirstMet, StartsAs, writes, runs, rest_of, LetsIn}
use Rattle.wh_host_model.specs.{Entry, start_entry, Params, given_of, AdmitFault, no_module, shares, min_max, frames, swap, instances, memory, segments}
use Rattle.wh_host_model.specs.Host.Admission.{ends}
use Rattle.wh_host_model.specs.Host.Happens as happen
use Rattle.wh_script_model.specs.Settings.{Settings}
use Rattle.wh_script_model.specs.Texts as texts
use Rattle.wh_script_model.specs.ScriptState.{ScriptState}
use Rattle.wh_script_model.specs.{NamedModule, NamedInstance, live_sum, MeetsLimit, IsFirstLimit, first_outcome, new_instance, ReceivesInstance}
use Rattle.wh_script_model.specs.Receiving as receiving
use Rattle.wh_host_model.proofs.Host.Holding.{memory_is_sound}
use Rattle.wh_space_model.proofs.Putting.{get_or_is}
use Rattle.wh_script_laws.specs.Following.{AreSame, IsFollowed, is_there, is_gone, IsPlaced, Knows, StaysWhole, StandsSame}
use Rattle.wh_script_laws.specs.Laws.{InstancesFollow}
use Rattle.wh_script_laws.proofs.Fuel.{starts_may}
use Rattle.wh_script_laws.proofs.SumsChange.{minima_more, spreads_more, claim_free}
use Rattle.wh_script_laws.proofs.CommandsKnown.{zip_there, zip_long, zip_map, zip_last, sum_last, sum_on, all_come, followed_there, quiet_before, quiet_after}

-- ---- how many are live

gone_now : {w : World} {g : NamedInstance} → IsFollowed AreSame StandsSame w g None → g.is_released ≡ true
gone_now (is_gone gone) = gone

live_now : {w : World} {g : NamedInstance} {t : Tenant} → IsFollowed AreSame StandsSame w g (Some t) → g.is_released ≡ false
live_now (is_there of_one same none) = of_one.is_live

live_many : (w : World) (gs : List NamedInstance) (ts : List (Option Tenant)) → AllZip (IsFollowed AreSame StandsSame w) gs ts
    → live_count ts ≡ live_sum (λ q. 1) gs
live_many w [] [] h = refl
live_many w [] (o ∷ ts) h = absurd h
live_many w (g ∷ gs) [] h = absurd h
live_many w (g ∷ gs) (None ∷ ts) h =
    live_many w gs ts h.1 ∙ ap (λ b. sum_on b 1 (live_sum (λ q. 1) gs)) (sym (gone_now h.0))
live_many w (g ∷ gs) (Some t ∷ ts) h =
    ap (λ n. 1 + n) (live_many w gs ts h.1) ∙ ap (λ b. sum_on b 1 (live_sum (λ q. 1) gs)) (sym (live_now h.0))

-- ---- the same faults are met

-- the module of the host under this number
record IsModuleOf (w : World) (k : ℕ) (named : NamedModule) : Type 0 where
  loaded : Loaded
  at : loaded_of w k ≡ Some loaded
  same : named.m ≡ loaded.m

module_of : {settings : Settings} {w : World} {m : ScriptState} {places : List ℕ} (k : ℕ) (named : NamedModule)
    → Knows settings w m places → slice_get m.modules k ≡ Some named → IsModuleOf w k named
module_of {w = w} {m = m} k named known has = search (rules, zip_there, get_or_is)

limit_of_met : {settings : Settings} {w : World} {m : ScriptState} {places : List ℕ} (k : ℕ) (named : NamedModule) (p : Params)
    (fault : AdmitFault) → Knows settings w m places → IsModuleOf w k named → MeetsFault w k p fault
    → MeetsLimit settings m named.m p fault
limit_of_met k named p no_module known of met = search rules
limit_of_met k named p shares known of met = met
limit_of_met k named p min_max known of met = met
limit_of_met k named p frames known of met = search rules
limit_of_met k named p swap known of met = search rules
limit_of_met {w = w} {m = m} k named p instances known of met = search (rules, live_many)
limit_of_met k named p memory known of met = search rules
limit_of_met k named p segments known of met = search rules

met_of_limit : {settings : Settings} {w : World} {m : ScriptState} {places : List ℕ} (k : ℕ) (named : NamedModule) (p : Params)
    (fault : AdmitFault) → Knows settings w m places → IsModuleOf w k named → MeetsLimit settings m named.m p fault
    → MeetsFault w k p fault
met_of_limit k named p no_module known of met = absurd met
met_of_limit k named p shares known of met = met
met_of_limit k named p min_max known of met = met
met_of_limit k named p frames known of met = search rules
met_of_limit k named p swap known of met = search rules
met_of_limit {w = w} {m = m} k named p instances known of met = search (rules, live_many)
met_of_limit k named p memory known of met = search rules
met_of_limit k named p segments known of met = search rules

first_limit : {settings : Settings} {w : World} {m : ScriptState} {places : List ℕ} (k : ℕ) (named : NamedModule) (p : Params)
    (fault : AdmitFault) → Knows settings w m places → IsModuleOf w k named → IsFirstMet w k p fault
    → IsFirstLimit settings m named.m p fault
first_limit k named p fault known of first = (
  limit_of_met k named p fault known of first.0,
  λ other less met. first.1 other less (met_of_limit k named p other known of met),
)

-- ---- the instance

-- its calls are those that it begins with
begins_so : {inst : Instance} {s : Store} {pieces : List Piece} {start : Option ℕ} {fuel : ℕ} {d : Doing}
    {ended opens : List Entry} → StartsAs inst s pieces start fuel d ended opens
    → (start_entry start fuel (first_outcome pieces start)).call ∷ [] ≡ journal_calls (ended ++ opens)
begins_so {pieces = []} (writes some) = absurd (some refl)
begins_so {pieces = p ∷ ps} {start = start} {fuel = fuel} (writes some) = search rules
begins_so {pieces = pieces} {start = start} {fuel = fuel} (runs {x = x} none func faces) = search rules
begins_so {pieces = pieces} {start = start} {fuel = fuel} (ends none func) = search rules

-- the host's instance
abbrev comer : {w : World} {k : ℕ} {p : Params} {place number : ℕ} {w2 : World} → LetsIn w k p place number w2 → Tenant
comer {k = k} {p = p} {place = place} lets = record {
  place = place;
  of = k;
  params = p;
  inst = lets.inst;
  rest = rest_of lets.s;
  doing = lets.doing;
  ended = lets.ended;
  copied = 0;
  open_calls = lets.open_calls;
  waiting_for = None;
  dead = false;
}

comer_followed : {w w2 : World} (w3 : World) (k : ℕ) (named : NamedModule) (name : List ℕ) (p : Params) (place number : ℕ)
    (lets : LetsIn w k p place number w2) → IsModuleOf w k named → ((x : ℕ) (l : Loaded) → loaded_of w x ≡ Some l → loaded_of w3 x ≡ Some l)
    → IsFollowed AreSame StandsSame w3 (new_instance name named.m p lets.inst lets.pieces) (Some (comer lets))
comer_followed w3 k named name p place number lets of more =
    let one : of.loaded ≡ lets.loaded = same_Some of.loaded lets.loaded (sym of.at ∙ lets.is_loaded) in
    let modules : named.m ≡ lets.loaded.m = of.same ∙ ap (λ (l : Loaded). l.m) one in
    let g : NamedInstance = new_instance name named.m p lets.inst lets.pieces in
    let calls : g.calls ≡ journal_calls (lets.ended ++ lets.open_calls)
    = ap (λ (q : Module). (start_entry q.start p.fuel (first_outcome lets.pieces q.start)).call ∷ []) modules ∙ begins_so lets.starts in
    is_there (record {
      loaded = lets.loaded;
      is_loaded = more k lets.loaded lets.is_loaded;
      of_one = modules;
      params = refl;
      inst = refl;
      is_live = refl;
      calls = all_come g.calls (journal_calls (lets.ended ++ lets.open_calls)) calls;
    }) calls (refl, λ y ys are none. starts_may lets.starts y ys are)

comer_known : {settings : Settings} {w w2 : World} {m : ScriptState} {places : List ℕ} (k : ℕ) (named : NamedModule) (name : List ℕ)
    (p : Params) (place number : ℕ) (lets : LetsIn w k p place number w2) → IsSound w.space → Knows settings w m places
    → IsModuleOf w k named → StaysWhole w.space lets.space
    → Knows settings (record w { tenants = w.tenants ++ Some (comer lets) ∷ []; space = lets.space })
    (record m { instances = m.instances ++ new_instance name named.m p lets.inst lets.pieces ∷ [] }) (places ++ place ∷ [])
comer_known {w = w} {m = m} {places = places} k named name p place number lets sound known of whole =
    let w3 : World = record w { tenants = w.tenants ++ Some (comer lets) ∷ []; space = lets.space } in
    let g : NamedInstance = new_instance name named.m p lets.inst lets.pieces in
    let arrives = lets.arrives in
    let quiet = quiet_before sound known in
    let quiet2 = quiet_after lets.space arrives.sound known whole in
    let free = claim_free w.space place arrives.free in
    let c = promised number p in
    let least = minima_more w.space lets.space place c quiet quiet2 arrives.others free arrives.claim in
    let most = spreads_more w.space lets.space place c quiet quiet2 arrives.others free arrives.claim in
    record {
      frames = whole.frames ∙ known.frames;
      slots = whole.slots ∙ known.slots;
      tax_num = ap (λ (tax : Tax). tax.num) whole.tax ∙ known.tax_num;
      tax_den = ap (λ (tax : Tax). tax.den) whole.tax ∙ known.tax_den;
      none_out = whole.none_out ∙ known.none_out;
      minima = search (rules, sum_last);
      spreads = search (rules, sum_last);
      modules = known.modules;
      instances = search (rules, zip_last, zip_map, followed_there, comer_followed);
      placed = zip_last IsPlaced places w.tenants place (Some (comer lets)) known.placed refl;
    }

guest_comes : {settings : Settings} {w w2 : World} {m : ScriptState} {places : List ℕ} (k : ℕ) (named : NamedModule) (name : List ℕ)
    (p : Params) (place number : ℕ) → LetsIn w k p place number w2 → IsSound w.space → Knows settings w m places
    → IsModuleOf w k named → StaysWhole w.space w2.space
    → (m2 : ScriptState) × ReceivesInstance true settings m name named.m p (texts.admit_ok name number) m2
    × Knows settings w2 m2 (places ++ place ∷ [])
guest_comes {settings} {w} {w2} {m} {places} k named name p place number lets sound known of whole =
    let one : lets.loaded ≡ of.loaded = same_Some lets.loaded of.loaded (sym lets.is_loaded ∙ of.at) in
    let modules : lets.loaded.m ≡ named.m = ap (λ (l : Loaded). l.m) one ∙ sym of.same in
    let g : NamedInstance = new_instance name named.m p lets.inst lets.pieces in
    let m2 : ScriptState = record m { instances = m.instances ++ g ∷ [] } in
    let behind : length m.instances ≡ number = zip_long (IsFollowed AreSame StandsSame w) m.instances w.tenants known.instances ∙ sym lets.next in
    let whole2 : StaysWhole w.space lets.space = subst (λ (x : World). StaysWhole w.space x.space) lets.after whole in (
      m2,
      subst (λ n. ReceivesInstance true settings m name named.m p (texts.admit_ok name n) m2) behind
          (receiving.is_admitted (λ fault met. lets.no_fault fault (met_of_limit k named p fault known of met))
          (subst (λ q. IsInitial q (given_of p) (begins lets.inst lets.s lets.pieces)) modules lets.initial)),
      subst (λ x. Knows settings x m2 (places ++ place ∷ [])) (sym lets.after)
          (comer_known k named name p place number lets sound known of whole2),
    )

pub guests_follow : InstancesFollow
guests_follow frame_count slot_count tax events w happens settings m places k named name p answer w2 known has (happen.is_admitted {id = id} lets) whole =
    guest_comes k named name p id.place id.number lets (memory_is_sound frame_count slot_count tax events w happens) known
    (module_of k named known has) whole
guests_follow frame_count slot_count tax events w happens settings m places k named name p answer w2 known has
    (happen.isnt_admitted {fault = fault} first) whole =
    (m, receiving.isnt_admitted fault (first_limit k named p fault known (module_of k named known has) first), known)
guests_follow frame_count slot_count tax events w happens settings m places k named name p answer w2 known has
    (happen.no_memory_to_admit none) whole =
    (m, receiving.admission_out_of_memory refl (λ fault met. none fault (met_of_limit k named p fault known (module_of k named known has) met)), known)
