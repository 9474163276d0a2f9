-- A call that is asked of an instance.
use Rattle.std.proofs.Common.{inr, ◌≡◌, ℕ, ℤ, true, List, [], ◌∷◌, ◌++◌, length, slice_get, Some, None, refl, sym, ap, subst, ◌∙◌, arith, rules}
use Rattle.std.proofs.lemmas.Option.{same_Some}
use Rattle.wh_model.specs.Format.{FuncType, Body, Module}
use Rattle.wh_space_model.specs.{Space}
use Rattle.wh_host_model.specs.Host.{Tenant, Loaded, World, journal, journal_calls, tenant, with_tenant, loaded_of, Meets, IsFirst, TakesCall, open_count, InvokeAnswer, IsInvoke, HasJournal}
use Rattle.wh_host_model.specs.{Entry, new_entry, ExportsOwn, InvokeFault, no_export, arguments, queue_full, instance_dead, journal_full, rank}
use Rattle.wh_host_model.specs.Host.Happens as happen
use Rattle.wh_script_model.specs.Settings.{Settings}
use Rattle.wh_script_model.specs.ScriptState.{ScriptState}
use Rattle.wh_script_model.specs.{NamedInstance, InvokeOutcome, call_rejected, call_accepted, with_instance, with_invoked, open_behind, start_failed, MeetsBar, IsFirstBar, ReceivesCall, IsTenantOf}
use Rattle.wh_script_model.specs.Receiving as receiving
use Rattle.wh_host_model.proofs.Host.Holding.{journals_are_in_order}
use Rattle.wh_script_laws.specs.Following.{Knows, StaysWhole, StandsSame}
use Rattle.wh_script_laws.specs.Replies.{invoke_outcome}
use Rattle.wh_script_laws.specs.Laws.{CallsFollow}
use Rattle.wh_script_laws.proofs.Fuel.{pushed_may}
use Rattle.wh_script_laws.proofs.Journals.{ordered, open_behind_is, start_failed_is, calls_long, calls_last}
use Rattle.wh_script_laws.proofs.CommandsKnown.{IsFound, found_gone, found_live, found, live_same, not_live, IsNext, tenant_calls, changed}

-- ---- the same faults are met

-- what faults depend on is the same of both
record IsAlike (m : Module) (t : Tenant) (g : NamedInstance) : Type 0 where
  modules : g.m ≡ m
  insts : g.inst ≡ t.inst
  opens : open_behind g.calls ≡ open_count t
  fails : start_failed g.calls ≡ t.dead
  long : length g.calls ≡ length (journal t)

alike : (w : World) (t : Tenant) (g : NamedInstance) (l : Loaded) → HasJournal w t → IsTenantOf w t g
    → g.calls ≡ journal_calls (journal t) → loaded_of w t.of ≡ Some l → IsAlike l.m t g
alike w t g l j of_one same is_loaded = search (rules, ordered, same_Some, open_behind_is, start_failed_is, calls_long)

exported : {m : Module} {t : Tenant} {g : NamedInstance} {name : List ℕ} {x : ℕ} {type : FuncType} {body : Body} → IsAlike m t g
    → ExportsOwn m t.inst name x type body → ExportsOwn g.m g.inst name x type body
exported {m} {t} {g} {name} {x} {type} {body} both own = search rules

exported_there : {m : Module} {t : Tenant} {g : NamedInstance} {name : List ℕ} {x : ℕ} {type : FuncType} {body : Body}
    → IsAlike m t g → ExportsOwn g.m g.inst name x type body → ExportsOwn m t.inst name x type body
exported_there {m} {t} {g} {name} {x} {type} {body} both own = search rules

bar_of_met : {m : Module} {t : Tenant} {g : NamedInstance} (name : List ℕ) (given : List ℤ) (fault : InvokeFault) → IsAlike m t g
    → Meets m t name given fault → MeetsBar g name given fault
bar_of_met name given no_export both met = λ x type body own. met x type body (exported_there both own)
bar_of_met name given arguments both met = λ x type body vs own fit. met x type body vs (exported_there both own) fit
bar_of_met name given queue_full both met = let opens = both.opens in omega (arith, opens, met)
bar_of_met name given instance_dead both met = both.fails ∙ met
bar_of_met name given journal_full both met = let long = both.long in omega (arith, long, met)

met_of_bar : {m : Module} {t : Tenant} {g : NamedInstance} (name : List ℕ) (given : List ℤ) (fault : InvokeFault) → IsAlike m t g
    → MeetsBar g name given fault → Meets m t name given fault
met_of_bar name given no_export both met = λ x type body own. met x type body (exported both own)
met_of_bar name given arguments both met = λ x type body vs own fit. met x type body vs (exported both own) fit
met_of_bar name given queue_full both met = let opens = both.opens in omega (arith, opens, met)
met_of_bar name given instance_dead both met = sym both.fails ∙ met
met_of_bar name given journal_full both met = let long = both.long in omega (arith, long, met)

first_bar : {m : Module} {t : Tenant} {g : NamedInstance} (name : List ℕ) (given : List ℤ) (fault : InvokeFault) → IsAlike m t g
    → IsFirst m t name given fault → IsFirstBar g name given fault
first_bar name given fault both first = search (rules, bar_of_met, met_of_bar)

-- where it is taken on, none is met
takes_unmet : {m : Module} {t t2 : Tenant} (s : Space) (name : List ℕ) (given : List ℤ) {fuel at : ℕ} (fault : InvokeFault)
    → TakesCall m s t name given fuel at t2 → ¬ (Meets m t name given fault)
takes_unmet s name given no_export takes met = met takes.func takes.type takes.body takes.exports
takes_unmet s name given arguments takes met = met takes.func takes.type takes.body takes.vs takes.exports takes.fits
takes_unmet s name given queue_full takes met = let few = takes.few_open in omega (arith, few, met)
takes_unmet s name given instance_dead takes met = let alive = takes.alive in cc (alive, met)
takes_unmet s name given journal_full takes met = let few = takes.few_calls in omega (arith, few, met)

-- ---- the call

-- what the law wants of an answer
abbrev Receives : Settings → ScriptState → List ℕ → ℕ → NamedInstance → List ℕ → List ℤ → ℕ → InvokeAnswer → World → Type 0
Receives settings m places i g name given fuel answer w2 =
    (m2 : ScriptState) × ReceivesCall true m i g name fuel given m2
    × (m2.invoked ≡ m.invoked ++ record { outcome = invoke_outcome i answer; last_printed = None } ∷ []) × Knows settings w2 m2 places

-- calls with a number are another matter
still_known : {settings : Settings} {w : World} {m : ScriptState} {places : List ℕ} (outcome : InvokeOutcome) → Knows settings w m places
    → Knows settings w (with_invoked m outcome) places
still_known outcome known = search rules

-- the calls with the new one
called : {w : World} {m : Module} (t t2 : Tenant) (g : NamedInstance) (name : List ℕ) (given : List ℤ) (fuel at place : ℕ)
    (takes : TakesCall m w.space t name given fuel at t2) → IsTenantOf w t g → t.place ≡ place
    → g.calls ≡ journal_calls (journal t) → StandsSame g t
    → IsNext w g (record g { calls = g.calls ++ (new_entry takes.func takes.vs given fuel).call ∷ [] }) t2 place
called {w = w} t t2 g name given fuel at place takes of_one lies same stands =
    let e : Entry = new_entry takes.func takes.vs given fuel in
    let t3 : Tenant = record t { doing = takes.doing; open_calls = t.open_calls ++ e ∷ [] } in
    let calls = g.calls ++ e.call ∷ [] in
    let after : calls ≡ journal_calls (journal t3) = ap (λ cs. cs ++ e.call ∷ []) same ∙ calls_last t.ended t.open_calls e in
    subst (λ x. IsNext w g (record g { calls = calls }) x place) (sym takes.after)
    (record {
      params = refl;
      gone = refl;
      of_one = tenant_calls w t t3 g calls g.at_fault of_one refl refl refl after;
      calls = after;
      stands = (stands.0, λ y ys are none. pushed_may t.open_calls e (inr refl) (λ x xs is. stands.1 x xs is none) y ys are);
      lies = lies;
    })

called_so : {settings : Settings} {w : World} {m : ScriptState} {places : List ℕ} (i place : ℕ) (g : NamedInstance) (t t2 : Tenant) (l : Loaded)
    (name : List ℕ) (given : List ℤ) (fuel at : ℕ) → Knows settings w m places → slice_get m.instances i ≡ Some g
    → slice_get places i ≡ Some place → IsTenantOf w t g → t.place ≡ place → g.calls ≡ journal_calls (journal t)
    → StandsSame g t → IsAlike l.m t g
    → TakesCall l.m w.space t name given fuel at t2 → StaysWhole w.space w.space
    → Receives settings m places i g name given fuel (happen.invoke_ok at) (with_tenant w i (Some t2) w.space)
called_so {settings} {w} {m} {places} i place g t t2 l name given fuel at known has lies of_one here same stands both takes whole =
    let g2 : NamedInstance = record g { calls = g.calls ++ (new_entry takes.func takes.vs given fuel).call ∷ [] } in
    let now = changed i place g g2 t2 w.space known has lies whole refl refl
    (called t t2 g name given fuel at place takes of_one here same stands) in
    let behind : length g.calls ≡ at = both.long ∙ sym takes.place in (
      with_invoked (with_instance m i g2) (call_accepted i (length g.calls)),
      receiving.is_invoked takes.vs of_one.is_live
          (λ fault met. takes_unmet w.space name given fault takes (met_of_bar name given fault both met)) (exported both takes.exports)
          takes.fits,
      ap (λ n. m.invoked ++ record { outcome = call_accepted i n; last_printed = None } ∷ []) behind,
      still_known (call_accepted i (length g.calls)) now,
    )

call_received : {settings : Settings} {w w2 : World} {m : ScriptState} {places : List ℕ} (i place : ℕ) (g : NamedInstance) (name : List ℕ)
    (given : List ℤ) (fuel : ℕ) (answer : InvokeAnswer) → Knows settings w m places → slice_get m.instances i ≡ Some g
    → slice_get places i ≡ Some place → ((t : Tenant) → tenant w i ≡ Some t → HasJournal w t) → IsFound w g i place
    → IsInvoke w (record { place = place; number = i }) name given fuel answer w2 → StaysWhole w.space w2.space
    → Receives settings m places i g name given fuel answer w2
call_received {w = w} i place g name given fuel answer known has lies orders (found_gone at gone)
    (happen.is_invoked {t = u} live l takes) whole = absurd (not_live w i place u at live)
call_received {m = m} i place g name given fuel answer known has lies orders (found_gone at gone) (happen.has_no_instance none)
    whole = (with_invoked m (call_rejected 1), receiving.instance_is_gone gone, refl, still_known (call_rejected 1) known)
call_received {w = w} i place g name given fuel answer known has lies orders (found_gone at gone)
    (happen.isnt_invoked {t = u} live l first) whole = absurd (not_live w i place u at live)
call_received {w = w} i place g name given fuel answer known has lies orders (found_gone at gone)
    (happen.no_memory_to_invoke {t = u} live l none) whole = absurd (not_live w i place u at live)
call_received {w = w} i place g name given fuel answer known has lies orders (found_live t at here of_one same stands)
    (happen.is_invoked {t = u} {t2 = t2} {l = l} {at = n} live loaded takes) whole =
    let one = live_same w i place t u here live in
    let loaded2 = ap (λ (x : Tenant). loaded_of w x.of) one ∙ loaded in
    called_so i place g t t2 l name given fuel n known has lies of_one here.1 same stands
    (alike w t g l (orders t here.0) of_one same loaded2)
    (subst (λ x. TakesCall l.m w.space x name given fuel n t2) (sym one) takes) whole
call_received {w = w} i place g name given fuel answer known has lies orders (found_live t at here of_one same stands)
    (happen.has_no_instance none) whole = absurd (none t here)
call_received {w = w} {m = m} i place g name given fuel answer known has lies orders (found_live t at here of_one same stands)
    (happen.isnt_invoked {t = u} {l = l} {fault = fault} live loaded first) whole =
    let one = live_same w i place t u here live in
    let loaded2 = ap (λ (x : Tenant). loaded_of w x.of) one ∙ loaded in
    let both = alike w t g l (orders t here.0) of_one same loaded2 in (
      with_invoked m (call_rejected (rank fault)),
      receiving.isnt_invoked fault of_one.is_live
          (first_bar name given fault both (subst (λ x. IsFirst l.m x name given fault) (sym one) first)),
      refl,
      still_known (call_rejected (rank fault)) known,
    )
call_received {w = w} {m = m} i place g name given fuel answer known has lies orders (found_live t at here of_one same stands)
    (happen.no_memory_to_invoke {t = u} {l = l} live loaded none) whole =
    let one = live_same w i place t u here live in
    let loaded2 = ap (λ (x : Tenant). loaded_of w x.of) one ∙ loaded in
    let both = alike w t g l (orders t here.0) of_one same loaded2 in (
      with_invoked m (call_rejected 7),
      receiving.call_out_of_memory refl of_one.is_live
          (λ fault met. none fault (subst (λ x. Meets l.m x name given fault) one (met_of_bar name given fault both met))),
      refl,
      still_known (call_rejected 7) known,
    )

pub calls_follow : CallsFollow
calls_follow frames slots tax events w happens settings m places i place g name given fuel answer w2 known has lies asks whole =
    call_received i place g name given fuel answer known has lies (journals_are_in_order frames slots tax events w happens i)
    (found i place g known has lies) asks whole
