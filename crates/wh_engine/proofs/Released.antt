-- Instances that a script lets go.
use Rattle.std.proofs.Common.{◌≡◌, ℕ, zero, suc, ◌+◌, true, List, [], ◌∷◌, map, slice_get, slice_set, Option, Some, Result, Ok, Err, refl, ap, sym, subst, ◌∙◌}
use Rattle.std.specs.Global.{Vec}
use Rattle.std.proofs.lemmas.Option.{same_Some}
use Rattle.wh_host.proofs.Hosts.{reached_on}
use Rattle.wh_host_model.specs.Host.Events as events
use Rattle.wh_host_model.specs.Host.{World, IsRelease}
use Rattle.wh_script_model.specs.Settings.{Settings}
use Rattle.wh_script_model.specs.{release, Reply, release_ok, release_refused, HasInstance, Files, IsObeyed}
use Rattle.wh_script_model.specs.ScriptState as script
use Rattle.wh_script_model.specs.ScriptState.{ScriptState}
use Rattle.wh_script_model.specs.Answers as answers
use Rattle.wh_host.specs.Hosting.{HostState}
use Rattle.wh_host.specs.Releasing.{AnswersRelease, IsOutput}
use Rattle.wh_host.specs.CallRequests.{host_number}
use Rattle.wh_host.specs.declared.error.HostError.{HostError}
use Rattle.wh_host.specs.declared.error.HostError.TheVariants.{NoInstance, Invoke, NoCall, Memory}
use Rattle.wh_script_laws.specs.Following.{Knows, StaysWhole}
use Rattle.wh_script_laws.specs.Replies.{release_reply}
use Rattle.wh_script_laws.proofs.CommandsEnding.{releases_follow}
use Rattle.wh_scheduler.specs.InHand.{OwnedState}
use Rattle.wh_engine.specs.declared.parts.NamedInstance.{NamedInstance}
use Rattle.wh_engine.specs.RepresentedScript.{WholeState, IsLed, RepresentsWhole, AreNamedInstances, IsNamedInstance, ScriptHostState, RepresentsScript, whole_on}
use Rattle.wh_engine.specs.Obeying.{IsNamed, ObeysCommand}
use Rattle.wh_engine.proofs.Asked.{ObeysWhole, on_host, stands_on, whole_of, id_of, own_number}
use Rattle.wh_engine.proofs.Touching.{TouchesCalls, nothing, names_stay, placed_at}
use Rattle.wh_engine.specs.Finding.{HasNumberAt}
use Rattle.wh_engine.proofs.Found.{kept_changed}

-- what the host has answered, and what the script gets for it
record DoesRelease (settings : Settings) (files : Files) (line : ℕ) (m : ScriptState) (e : WholeState) (name : List ℕ) (h2 : HostState) (r : Result (Vec ℕ) HostError) : Type 0 where
  answer : Option (List ℕ)
  is : IsOutput r answer
  after : ScriptState
  world : World
  obeyed : IsObeyed true settings files m line (release name) (release_reply name answer ∷ []) after
  is_host : IsLed h2 world
  knows : Knows settings world after (map (λ (y : NamedInstance). y.id.place) e.instances)

does : (settings : Settings) (files : Files) (line : ℕ) (m : ScriptState) (e : WholeState) (name : List ℕ) (h2 : HostState) (x : NamedInstance) (i : ℕ) (r : Result (Vec ℕ) HostError)
    → RepresentsWhole settings e m → IsNamed m i name → slice_get e.instances i ≡ Some x → AnswersRelease e.host x.id r h2 → StaysWhole e.host.space h2.space
    → DoesRelease settings files line m e name h2 r
does settings files line m e name h2 x i r s named at replies whole =
    let w = s.world in
    let did = replies w s.is.0 in
    let happened : IsRelease w (record { place = x.id.place; number = i }) did.0 did.1 =
    subst (λ id. IsRelease w id did.0 did.1) (id_of x i (own_number e m settings i x s at)) did.3 in
    let reached = s.is.1 in
    let follows = releases_follow reached.frames reached.slots reached.tax reached.events w reached.happen settings files line m
    (map (λ (y : NamedInstance). y.id.place) e.instances) i x.id.place named.0 name did.0 did.1 s.knows named.1
    (placed_at e.instances i x at) happened (whole_of e.host h2 w did.1 s.is.0 did.4 whole) in
    record { answer = did.0; is = did.2; after = follows.0; world = did.1; obeyed = follows.1; is_host = (did.4, reached_on w did.1 (events.release (record { place = x.id.place; number = i })) reached (did.0, happened)); knows = follows.2 }

-- ---- it was released before

refused_after : {settings : Settings} {files : Files} {m : ScriptState} {line : ℕ} {name : List ℕ} {reply : Reply} {m2 : ScriptState} → reply ≡ release_refused name 1
    → IsObeyed true settings files m line (release name) (reply ∷ []) m2 → m2 ≡ m
refused_after e (answers.module_name_is_taken names has) = absurd names
refused_after e (answers.module_comes names free brings receives) = absurd names
refused_after e (answers.no_such_instance for none) = refl
refused_after e (answers.is_released i z has live replay) = absurd (cc e)
refused_after e (answers.no_one_to_release i has gone) = refl

refused_stands : (settings : Settings) (files : Files) (line : ℕ) (m : ScriptState) (e : WholeState) (name : List ℕ) (h2 : HostState) (m2 : ScriptState) (w2 : World) (reply : Reply) → RepresentsWhole settings e m
    → reply ≡ release_refused name 1 → IsObeyed true settings files m line (release name) (reply ∷ []) m2 → IsLed h2 w2
    → Knows settings w2 m2 (map (λ (y : NamedInstance). y.id.place) e.instances) → ObeysWhole settings files m line (release name) reply (on_host e h2)
refused_stands settings files line m e name h2 m2 w2 reply s is obeyed is2 knows2 =
    (m2, obeyed, stands_on settings e m m2 h2 w2 s is2 knows2 (subst (λ z. TouchesCalls m z) (sym (refused_after is obeyed)) nothing))

pub refuses : (settings : Settings) (files : Files) (line : ℕ) (m : ScriptState) (e : WholeState) (name : List ℕ) (h2 : HostState) (x : NamedInstance) (i : ℕ) (error : HostError)
    → RepresentsWhole settings e m → IsNamed m i name → slice_get e.instances i ≡ Some x → AnswersRelease e.host x.id (Err error) h2 → StaysWhole e.host.space h2.space
    → ObeysWhole settings files m line (release name) (release_refused name (host_number error)) (on_host e h2)
refuses settings files line m e name h2 x i NoInstance s named at replies whole =
    let d = does settings files line m e name h2 x i (Err NoInstance) s named at replies whole in
    let same : release_reply name d.answer ≡ release_refused name 1 = ap (release_reply name) d.is in
    refused_stands settings files line m e name h2 d.after d.world (release_refused name 1) s refl
    (subst (λ (r : Reply). IsObeyed true settings files m line (release name) (r ∷ []) d.after) same d.obeyed) d.is_host d.knows
refuses settings files line m e name h2 x i (Invoke error) s named at replies whole = absurd (does settings files line m e name h2 x i (Err (Invoke error)) s named at replies whole).is
refuses settings files line m e name h2 x i NoCall s named at replies whole = absurd (does settings files line m e name h2 x i (Err NoCall) s named at replies whole).is
refuses settings files line m e name h2 x i Memory s named at replies whole = absurd (does settings files line m e name h2 x i (Err Memory) s named at replies whole).is

-- ---- it goes

-- it is marked as released at its number, on both sides
gone_stay : (k : ℕ) (xs : List NamedInstance) (gs : List script.NamedInstance) (i : ℕ) (x : NamedInstance) (g : script.NamedInstance) → AreNamedInstances k xs gs → slice_get xs i ≡ Some x → slice_get gs i ≡ Some g
    → AreNamedInstances k (slice_set xs i (record x { is_released = true })) (slice_set gs i (record g { is_released = true }))
gone_stay k [] gs i x g are e f = absurd (cc e)
gone_stay k (y ∷ xs) [] i x g are e f = absurd are
gone_stay k (y ∷ xs) (h ∷ gs) zero x g are e f =
    let same : IsNamedInstance k x g = subst (λ z. IsNamedInstance k z g) (same_Some y x e) (subst (IsNamedInstance k y) (same_Some h g f) are.0) in
    (record { number = same.number; name = same.name; starts = same.starts; released = refl; last_printed = same.last_printed }, are.1)
gone_stay k (y ∷ xs) (h ∷ gs) (suc i) x g are e f = (are.0, gone_stay (k + 1) xs gs i x g are.1 e f)

places_stay : (xs : List NamedInstance) (i : ℕ) (x : NamedInstance) → slice_get xs i ≡ Some x
    → map (λ (y : NamedInstance). y.id.place) (slice_set xs i (record x { is_released = true })) ≡ map (λ (y : NamedInstance). y.id.place) xs
places_stay [] i x e = absurd (cc e)
places_stay (y ∷ xs) zero x e = ap (λ (z : NamedInstance). z.id.place ∷ map (λ (y : NamedInstance). y.id.place) xs) (sym (same_Some y x e))
places_stay (y ∷ xs) (suc i) x e = ap (λ ps. y.id.place ∷ ps) (places_stay xs i x e)

named_at : (gs : List script.NamedInstance) (i : ℕ) (g : script.NamedInstance) → slice_get gs i ≡ Some g → slice_get (map (λ (y : script.NamedInstance). y.name) gs) i ≡ Some g.name
named_at [] i g e = absurd (cc e)
named_at (h ∷ gs) zero g e = ap (λ (z : script.NamedInstance). Some z.name) (same_Some h g e)
named_at (h ∷ gs) (suc i) g e = named_at gs i g e

-- one name, one number
one_place : (settings : Settings) (e : WholeState) (m : ScriptState) (name : List ℕ) (i j : ℕ) (g h : script.NamedInstance) → RepresentsWhole settings e m → HasInstance m name i g → HasInstance m name j h → j ≡ i
one_place settings e m name i j g h s a b =
    s.apart name j i
    (ap (λ (ns : List (List ℕ)). slice_get ns j) s.instance_names ∙ named_at m.instances j h b.0 ∙ ap (λ n. Some n) b.1)
    (ap (λ (ns : List (List ℕ)). slice_get ns i) s.instance_names ∙ named_at m.instances i g a.0 ∙ ap (λ n. Some n) a.1)

abbrev pub with_gone : WholeState → HostState → ℕ → NamedInstance → WholeState
with_gone e h i x = record e { host = h; instances = slice_set e.instances i (record x { is_released = true }) }

gone_stands : (settings : Settings) (files : Files) (line : ℕ) (m : ScriptState) (e : WholeState) (name output : List ℕ) (h2 : HostState) (x : NamedInstance) (i : ℕ) (g : script.NamedInstance) → RepresentsWhole settings e m
    → HasInstance m name i g → slice_get e.instances i ≡ Some x
    → (m2 : ScriptState) (w2 : World) (reply : Reply) → reply ≡ release_ok name output → IsObeyed true settings files m line (release name) (reply ∷ []) m2 → IsLed h2 w2
    → Knows settings w2 m2 (map (λ (y : NamedInstance). y.id.place) e.instances) → ObeysWhole settings files m line (release name) reply (with_gone e h2 i x)
gone_stands settings files line m e name output h2 x i g s has at m2 w2 _ eq (answers.module_name_is_taken names taken) is2 knows2 = absurd names
gone_stands settings files line m e name output h2 x i g s has at m2 w2 _ eq (answers.module_comes names free brings receives) is2 knows2 = absurd names
gone_stands settings files line m e name output h2 x i g s has at _ w2 _ eq (answers.no_such_instance for none) is2 knows2 = absurd (cc eq)
gone_stands settings files line m e name output h2 x i g s has at _ w2 _ eq (answers.no_one_to_release j has2 gone) is2 knows2 = absurd (cc eq)
gone_stands settings files line m e name output h2 x i g s has at _ w2 _ eq (answers.is_released j {g = h} z also live replay) is2 knows2 =
    let same : j ≡ i = one_place settings e m name i j g h s has also in
    let here : slice_get e.instances j ≡ Some x = ap (slice_get e.instances) same ∙ at in (
      _,
      answers.is_released j z also live replay,
      record {
        world = w2;
        is = is2;
        knows = subst (Knows settings w2 _) (sym (places_stay e.instances i x at)) knows2;
        module_names = s.module_names;
        instance_names = s.instance_names ∙ sym (names_stay m.instances j h (record h { is_released = true }) also.0 refl);
        apart = s.apart;
        instances = subst (λ k. AreNamedInstances 0 (slice_set e.instances k (record x { is_released = true })) (slice_set m.instances j (record h { is_released = true }))) same
            (gone_stay 0 e.instances m.instances j x h s.instances here also.0);
        invoked = s.invoked;
      },
    )

pub goes : (settings : Settings) (files : Files) (line : ℕ) (m : ScriptState) (e : WholeState) (name : List ℕ) (h2 : HostState) (x : NamedInstance) (i : ℕ) (output : Vec ℕ)
    → RepresentsWhole settings e m → IsNamed m i name → slice_get e.instances i ≡ Some x → AnswersRelease e.host x.id (Ok output) h2 → StaysWhole e.host.space h2.space
    → ObeysWhole settings files m line (release name) (release_ok name output.items) (with_gone e h2 i x)
goes settings files line m e name h2 x i output s named at replies whole =
    let d = does settings files line m e name h2 x i (Ok output) s named at replies whole in
    gone_stands settings files line m e name output.items h2 x i named.0 s named.1 at d.after d.world (release_ok name output.items) refl
    (subst (λ (r : Reply). IsObeyed true settings files m line (release name) (r ∷ []) d.after) (ap (release_reply name) d.is) d.obeyed) d.is_host d.knows

-- ---- what is kept then

-- the one that is kept is marked, as it is among all
pub gone_again : {D : Type 0} (settings : Settings) (files : Files) (line : ℕ) (m : ScriptState) (e : ScriptHostState D) (name : List ℕ) (o2 : OwnedState D) (x : NamedInstance) (i at : ℕ) (reply : Reply) (s : RepresentsScript settings e m)
    → HasNumberAt e.instances i at → slice_get e.instances at ≡ Some x → ObeysWhole settings files m line (release name) reply (with_gone (whole_on e s.instances s.invoked) o2.host i x)
    → ObeysCommand settings files m line (release name) reply (record e { host = o2; instances = slice_set e.instances at (record x { is_released = true }) })
gone_again settings files line m e name o2 x i at reply s has there obeys =
    let gone : NamedInstance = record x { is_released = true } in
    let same : has.0 ≡ x = same_Some has.0 x (sym has.1 ∙ there) in
    let number : x.id.number ≡ i = ap (λ (y : NamedInstance). y.id.number) (sym same) ∙ has.2 in (
      obeys.0,
      obeys.1,
      record {
        instances = slice_set s.instances i gone;
        invoked = s.invoked;
        kept = kept_changed s.kept m.instances s.stands.instances i at x gone there number;
        pending = s.pending;
        asked = s.asked;
        stands = obeys.2;
      },
    )
