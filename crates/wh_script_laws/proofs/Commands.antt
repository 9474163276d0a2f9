-- Commands, and what a script knows of its host behind them.
use Rattle.std.proofs.Common.{◌≡◌, ℕ, true, List, [], ◌∷◌, ◌++◌, length, Option, Some, None, refl, sym, subst, arith, rules}
use Rattle.std.specs.List.{AllZip}
use Rattle.wh_host_model.specs.Host.{Loaded, World, LoadFault, broken, invalid, unlinked, modules_full, LoadOutOfMemory, decoder_out_of_memory, validator_out_of_memory, linker_out_of_memory, host_out_of_memory, RefusesLoad, MayRunOut, LoadsModule, module_count, is_loaded, isnt_loaded, no_memory_to_load}
use Rattle.wh_script_model.specs.Settings.{Settings}
use Rattle.wh_script_model.specs.{Refusal, module_ok, module_refused, NamedModule, ReceivesModule}
use Rattle.wh_script_model.specs.ScriptState.{ScriptState}
use Rattle.wh_script_model.specs.Receiving as receiving
use Rattle.wh_script_laws.specs.Following.{IsModuleKept, Knows}
use Rattle.wh_script_laws.specs.Replies.{SaysWhy, SaysOutOfMemory}
use Rattle.wh_script_laws.specs.Laws.{ModulesFollow}
use Rattle.wh_script_laws.proofs.CommandsKnown.{zip_map, zip_last, last_holds, followed_there}

-- ---- modules

-- the module of this name comes to both
module_came : {settings : Settings} {w : World} {m : ScriptState} {places : List ℕ} (named : NamedModule) (loaded : Loaded)
    → named.m ≡ loaded.m → Knows settings w m places
    → Knows settings (record w { modules = w.modules ++ Some loaded ∷ [] }) (record m { modules = m.modules ++ named ∷ [] }) places
module_came {w = w} {m = m} named loaded same known = search (rules, zip_last, zip_map, followed_there, last_holds)

all_there : (names : List NamedModule) (ls : List (Option Loaded)) → AllZip IsModuleKept names ls → length names ≡ module_count ls
all_there [] [] h = refl
all_there [] (o ∷ ls) h = absurd h
all_there (n ∷ names) [] h = absurd h
all_there (n ∷ names) (None ∷ ls) h = absurd h.0
all_there (n ∷ names) (Some l ∷ ls) h = let more = all_there names ls h.1 in omega (arith, more)

as_many : {settings : Settings} {w : World} {m : ScriptState} {places : List ℕ} → Knows settings w m places
    → length m.modules ≡ module_count w.modules
as_many {w = w} {m = m} known = all_there m.modules w.modules known.modules

not_kept : {settings : Settings} {w : World} {m : ScriptState} {places : List ℕ} (name bytes : List ℕ) (fault : LoadFault)
    (why : Refusal) → Knows settings w m places → RefusesLoad w bytes fault → SaysWhy fault why
    → ReceivesModule true m name bytes (module_refused name why) m
not_kept {w = w} {m = m} name bytes fault why known refuses says = receiving.module_isnt_kept (go fault refuses says) where
  go : (f : LoadFault) → RefusesLoad w bytes f → SaysWhy f why → receiving.RejectsModule m bytes why
  go (broken kind offset) r e = subst (λ x. receiving.RejectsModule m bytes x) (sym e) (receiving.is_broken kind r)
  go invalid r e =
      subst (λ x. receiving.RejectsModule m bytes x) (sym e.3) (receiving.is_invalid e.0 r.1 r.2 e.2)
  go (unlinked f place) r e =
      subst (λ x. receiving.RejectsModule m bytes x) (sym e) (receiving.is_unlinked f r.1 r.2 r.3 r.4)
  go modules_full r e =
      let many = as_many known in
      subst (λ x. receiving.RejectsModule m bytes x) (sym e) (receiving.is_full r.1 (omega (arith, many, r.2)))

wanted : {settings : Settings} {w : World} {m : ScriptState} {places : List ℕ} (name bytes : List ℕ) (want : LoadOutOfMemory)
    (why : Refusal) → Knows settings w m places → MayRunOut w bytes want → SaysOutOfMemory want why
    → ReceivesModule true m name bytes (module_refused name why) m
wanted {w = w} {m = m} name bytes want why known may says = receiving.module_out_of_memory refl (go want may says) where
  go : (x : LoadOutOfMemory) → MayRunOut w bytes x → SaysOutOfMemory x why → receiving.OutOfMemoryForModule m bytes why
  go decoder_out_of_memory r e = subst (λ x. receiving.OutOfMemoryForModule m bytes x) (sym e.1) receiving.decoder_out_of_memory
  go validator_out_of_memory r e = subst (λ x. receiving.OutOfMemoryForModule m bytes x) (sym e.1) (receiving.validator_out_of_memory r.1)
  go linker_out_of_memory r e = subst (λ x. receiving.OutOfMemoryForModule m bytes x) (sym e) (receiving.linker_out_of_memory r.1 r.2 r.3)
  go host_out_of_memory r e =
      let many = as_many known in
      subst (λ x. receiving.OutOfMemoryForModule m bytes x) (sym e) (receiving.host_out_of_memory r.1 (omega (arith, many, r.2)))

module_follows : {settings : Settings} {w : World} {m : ScriptState} {places : List ℕ} (name bytes : List ℕ) (number : ℕ)
    (w2 : World) → Knows settings w m places → LoadsModule w bytes number w2
    → (m2 : ScriptState) × ReceivesModule true m name bytes (module_ok name) m2 × Knows settings w2 m2 places
module_follows {settings} {w} {m} {places} name bytes number w2 known x =
    let named : NamedModule = record { name = name; m = x.m } in
    let loaded : Loaded = record { bytes = bytes; m = x.m } in
    let m2 : ScriptState = record m { modules = m.modules ++ named ∷ [] } in
    let many = as_many known in
    let few = x.few in (
      m2,
      receiving.module_is_kept x.accepted (omega (arith, many, few)),
      subst (λ y. Knows settings y m2 places) (sym x.after) (module_came named loaded refl known),
    )

pub modules_follow : ModulesFollow
modules_follow frames slots tax events w happens settings m places name bytes answer w2 reply known (is_loaded x) says =
    let f = module_follows name bytes _ w2 known x in
    (f.0, subst (λ y. ReceivesModule true m name bytes y f.0) (sym says) f.1, f.2)
modules_follow frames slots tax events w happens settings m places name bytes answer w2 reply known (isnt_loaded {fault = fault} refuses) says =
    (m, subst (λ y. ReceivesModule true m name bytes y m) (sym says.2) (not_kept name bytes fault says.0 known refuses says.1), known)
modules_follow frames slots tax events w happens settings m places name bytes answer w2 reply known (no_memory_to_load {want = want} may) says =
    (m, subst (λ y. ReceivesModule true m name bytes y m) (sym says.2) (wanted name bytes want says.0 known may says.1), known)
