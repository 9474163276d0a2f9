-- Modules that a script brings.
use Rattle.std.proofs.Common.{◌≡◌, ℕ, ◌-◌, true, List, [], ◌∷◌, ◌++◌, map, take, length, Result, Ok, Err, refl, ap, sym, subst, ◌∙◌}
use Rattle.wh_host.proofs.Hosts.{reached_on}
use Rattle.wh_host_model.specs.Host.Events as events
use Rattle.wh_host_model.specs.Host.{World, LoadAnswer}
use Rattle.wh_script_model.specs.Settings.{Settings}
use Rattle.wh_script_model.specs.{Refusal, Reply, module_ok, module_refused, NamedModule, ReceivesModule, module_is_kept, module_isnt_kept, module_out_of_memory}
use Rattle.wh_script_model.specs.ScriptState.{ScriptState}
use Rattle.wh_host.specs.Hosting.{HostState}
use Rattle.wh_host.specs.Loading.{AnswersLoad, IsLoadAnswer}
use Rattle.wh_host.specs.declared.error.ModuleError.{ModuleError}
use Rattle.wh_host.specs.declared.parts.ModuleId.{ModuleId}
use Rattle.wh_script_laws.specs.Following.{Knows}
use Rattle.wh_script_laws.specs.Replies.{SaysModule}
use Rattle.wh_names.specs.declared.names.Names.{Names}
use Rattle.wh_scheduler.specs.InHand.{OwnedState}
use Rattle.wh_engine.specs.declared.parts.NamedInstance.{NamedInstance}
use Rattle.wh_engine.specs.RepresentedScript.{WholeState, IsLed, RepresentsWhole, ScriptHostState, RepresentsScript, whole_on}
use Rattle.wh_script_laws.proofs.Commands.{modules_follow}
use Rattle.wh_engine.proofs.Named.{taken_back}
use Rattle.wh_engine.specs.Obeying.{TakesModule}

abbrev label : NamedModule → List ℕ
label n = n.name

labels_end : (ms : List NamedModule) (n : NamedModule) → map label (ms ++ n ∷ []) ≡ map label ms ++ n.name ∷ []
labels_end [] n = refl
labels_end (x ∷ ms) n = ap (λ ls. x.name ∷ ls) (labels_end ms n)

-- a module whose name is free got this reply
abbrev pub TakesModuleWhole : Settings → ScriptState → (name bytes : List ℕ) → Reply → WholeState → Type 0
TakesModuleWhole settings m name bytes reply e2 =
    (m2 : ScriptState) × ReceivesModule true m name bytes reply m2 × RepresentsWhole settings e2 m2

-- what the law of modules says of an answer of the host
law_of : (settings : Settings) (e : WholeState) (m : ScriptState) (name bytes : List ℕ) (h2 : HostState) (r : Result ModuleId ModuleError) (reply : Reply) (s : RepresentsWhole settings e m)
    → AnswersLoad e.host bytes r h2 → ((answer : LoadAnswer) → IsLoadAnswer r answer → SaysModule name answer reply)
    → (m2 : ScriptState) × (w2 : World) × ReceivesModule true m name bytes reply m2 × IsLed h2 w2
    × Knows settings w2 m2 (map (λ (x : NamedInstance). x.id.place) e.instances)
law_of settings e m name bytes h2 r reply s answers says =
    let did = answers s.world s.is.0 in
    let reached = s.is.1 in
    let follows = modules_follow reached.frames reached.slots reached.tax reached.events s.world reached.happen settings m
    (map (λ (x : NamedInstance). x.id.place) e.instances) name bytes did.0 did.1 reply s.knows did.3 (says did.0 did.2) in
    (follows.0, did.1, follows.1, (did.4, reached_on s.world did.1 (events.load bytes) reached (did.0, did.3)), follows.2)

-- the engine with another host and other names of modules
abbrev pub with_modules : WholeState → HostState → Names → WholeState
with_modules e h names = record e { host = h; module_names = names }

ok_says : (name : List ℕ) (id : ModuleId) (answer : LoadAnswer) → IsLoadAnswer (Ok id) answer → SaysModule name answer (module_ok name)
ok_says name id answer is = subst (λ a. SaysModule name a (module_ok name)) (sym is) refl

kept_stands : (settings : Settings) (e : WholeState) (m : ScriptState) (name bytes : List ℕ) (h2 : HostState) (names : Names) → RepresentsWhole settings e m
    → names ≡ e.module_names ++ name ∷ []
    → (m2 : ScriptState) (w2 : World) (reply : Reply) → reply ≡ module_ok name → ReceivesModule true m name bytes reply m2 → IsLed h2 w2
    → Knows settings w2 m2 (map (λ (x : NamedInstance). x.id.place) e.instances)
    → TakesModuleWhole settings m name bytes reply (with_modules e h2 names)
kept_stands settings e m name bytes h2 names s sets _ w2 _ is (module_isnt_kept turns_down) is2 knows2 = absurd (cc is)
kept_stands settings e m name bytes h2 names s sets _ w2 _ is (module_out_of_memory may_run_out wants) is2 knows2 = absurd (cc is)
kept_stands settings e m name bytes h2 names s sets _ w2 _ is (module_is_kept {m = spelled} accepted few) is2 knows2 =
    let new : NamedModule = record { name = name; m = spelled } in
    let after : ScriptState = record m { modules = m.modules ++ new ∷ [] } in (
      after,
      module_is_kept accepted few,
      record {
        world = w2;
        is = is2;
        knows = knows2;
        module_names = sets ∙ ap (λ (ls : List (List ℕ)). ls ++ name ∷ []) s.module_names ∙ sym (labels_end m.modules new);
        instance_names = s.instance_names;
        apart = s.apart;
        instances = s.instances;
        invoked = s.invoked;
      },
    )

-- other names of the same modules
pub with_names : (settings : Settings) (e : WholeState) (m : ScriptState) (h2 : HostState) (names : Names) (w2 : World) → RepresentsWhole settings e m → names ≡ e.module_names
    → IsLed h2 w2 → Knows settings w2 m (map (λ (x : NamedInstance). x.id.place) e.instances) → RepresentsWhole settings (with_modules e h2 names) m
with_names settings e m h2 names w2 s are is2 knows2 = record {
  world = w2;
  is = is2;
  knows = knows2;
  module_names = are ∙ s.module_names;
  instance_names = s.instance_names;
  apart = s.apart;
  instances = s.instances;
  invoked = s.invoked;
}

none_stands : (settings : Settings) (e : WholeState) (m : ScriptState) (name bytes : List ℕ) (h2 : HostState) (names : Names) (why : Refusal) → RepresentsWhole settings e m
    → names ≡ e.module_names
    → (m2 : ScriptState) (w2 : World) (reply : Reply) → reply ≡ module_refused name why → ReceivesModule true m name bytes reply m2 → IsLed h2 w2
    → Knows settings w2 m2 (map (λ (x : NamedInstance). x.id.place) e.instances)
    → TakesModuleWhole settings m name bytes reply (with_modules e h2 names)
none_stands settings e m name bytes h2 names why s are _ w2 _ is (module_is_kept accepted few) is2 knows2 = absurd (cc is)
none_stands settings e m name bytes h2 names why s are _ w2 _ is (module_isnt_kept turns_down) is2 knows2 =
    (m, module_isnt_kept turns_down, with_names settings e m h2 names w2 s are is2 knows2)
none_stands settings e m name bytes h2 names why s are _ w2 _ is (module_out_of_memory may_run_out wants) is2 knows2 =
    (m, module_out_of_memory may_run_out wants, with_names settings e m h2 names w2 s are is2 knows2)

-- it was kept
pub takes_kept : (settings : Settings) (e : WholeState) (m : ScriptState) (name bytes : List ℕ) (h2 : HostState) (names : Names) (id : ModuleId) → RepresentsWhole settings e m
    → AnswersLoad e.host bytes (Ok id) h2
    → names ≡ e.module_names ++ name ∷ []
    → TakesModuleWhole settings m name bytes (module_ok name) (with_modules e h2 names)
takes_kept settings e m name bytes h2 names id s answers sets =
    let got = law_of settings e m name bytes h2 (Ok id) (module_ok name) s answers (λ answer is. ok_says name id answer is) in
    kept_stands settings e m name bytes h2 names s sets got.0 got.1 (module_ok name) refl got.2 got.3 got.4

-- it wasn't, and has no name again
pub takes_none : (settings : Settings) (e : WholeState) (m : ScriptState) (name bytes : List ℕ) (h2 : HostState) (given names : Names) (error : ModuleError) (why : Refusal) → RepresentsWhole settings e m
    → AnswersLoad e.host bytes (Err error) h2
    → given ≡ e.module_names ++ name ∷ []
    → names ≡ take (length given - 1) given
    → ((answer : LoadAnswer) → IsLoadAnswer (Err error) answer → SaysModule name answer (module_refused name why))
    → TakesModuleWhole settings m name bytes (module_refused name why) (with_modules e h2 names)
takes_none settings e m name bytes h2 given names error why s answers sets clears says =
    let got = law_of settings e m name bytes h2 (Err error) (module_refused name why) s answers says in
    let are = taken_back e.module_names given names name sets clears in
    none_stands settings e m name bytes h2 names why s are got.0 got.1 (module_refused name why) refl got.2 got.3 got.4

-- ---- and instances and calls are kept as they were

pub module_again : {D : Type 0} (settings : Settings) (e : ScriptHostState D) (m : ScriptState) (name bytes : List ℕ) (o2 : OwnedState D) (names : Names) (reply : Reply) (s : RepresentsScript settings e m)
    → TakesModuleWhole settings m name bytes reply (with_modules (whole_on e s.instances s.invoked) o2.host names)
    → TakesModule settings m name bytes reply (record e { host = o2; module_names = names })
module_again settings e m name bytes o2 names reply s takes = (
  takes.0,
  takes.1,
  record {
    instances = s.instances;
    invoked = s.invoked;
    kept = s.kept;
    pending = s.pending;
    asked = s.asked;
    stands = takes.2;
  },
)
