-- Calls that a script asks of its instances.
use Rattle.std.proofs.Common.{◌≡◌, ℕ, true, List, [], ◌∷◌, ◌++◌, map, length, slice_get, ℤ, Some, None, Result, Ok, Err, refl, ap, sym, subst, ◌∙◌, arith, ◌+◌, ◌<◌, length-append}
use Rattle.std.proofs.lemmas.List.{length-map}
use Rattle.wh_names.specs.declared.names.Names.{Names}
use Rattle.wh_host.proofs.Hosts.{reached_on}
use Rattle.wh_host_model.specs.Host.Events as events
use Rattle.wh_host_model.specs.Host.{World, InvokeAnswer, IsInvoke}
use Rattle.wh_script_model.specs.Settings.{Settings}
use Rattle.wh_script_model.specs.ScriptState as script
use Rattle.wh_script_model.specs.ScriptState.{ScriptState}
use Rattle.wh_script_model.specs.{with_instance, with_invoked, call_rejected, ReceivesCall, instance_is_gone, isnt_invoked, is_invoked, call_out_of_memory}
use Rattle.wh_host.specs.Hosting.{HostState}
use Rattle.wh_host.specs.CallRequests.{AnswersInvoke, IsInvokeAnswer, refusal_answer, host_number}
use Rattle.wh_host.specs.declared.error.HostError.{HostError}
use Rattle.wh_host.specs.declared.error.HostError.TheVariants as host
use Rattle.wh_host.specs.declared.error.HostError.TheVariants.{NoInstance, Invoke, NoCall}
use Rattle.wh_instance.specs.Invoked.{refusal_of}
use Rattle.wh_instance.specs.declared.error.InvokeError.{InvokeError}
use Rattle.wh_instance.specs.declared.error.InvokeError.TheVariants.{NoExport, Arguments, QueueFull, Dead, JournalFull, Memory}
use Rattle.wh_script_laws.specs.Following.{Knows, StaysWhole}
use Rattle.wh_script_laws.specs.Replies.{invoke_outcome}
use Rattle.wh_scheduler.specs.InHand.{OwnedState}
use Rattle.wh_engine.specs.declared.parts.NamedInstance.{NamedInstance}
use Rattle.wh_engine.specs.declared.parts.Invoked.{Invoked}
use Rattle.wh_engine.specs.declared.parts.InvokeOutcome.{InvokeOutcome}
use Rattle.wh_engine.specs.declared.parts.InvokeOutcome.TheVariants.{Rejected, Accepted}
use Rattle.wh_engine.specs.RepresentedScript.{WholeState, IsLed, RepresentsWhole, AreNamedInstances, IsInvokedAs, invoke_outcome_of, ScriptHostState, RepresentsScript, whole_on, LeavesOut, is_settled, AreInvoked}
use Rattle.wh_engine.specs.Obeying.{TakesInvoke}
use Rattle.wh_engine.proofs.Asked.{whole_of, id_of, own_number}
use Rattle.wh_engine.proofs.Touching.{TouchesCalls, nothing, calls_of, guest_of, placed_at, touched_guests, touched_modules, touched_names}
use Rattle.wh_script_laws.proofs.CommandsCalling.{calls_follow}
use Rattle.wh_engine.proofs.Admitted.{there_at}
use Rattle.wh_engine.proofs.Left.{one_more_kept}

-- ---- what an `invoke` changes beside its own entry

record IsBefore (m m1 m2 : ScriptState) : Type 0 where
  touches : TouchesCalls m m1
  modules : m2.modules ≡ m1.modules
  instances : m2.instances ≡ m1.instances
  invoked : m1.invoked ≡ m.invoked

before : (m : ScriptState) (i : ℕ) (g : script.NamedInstance) (name : List ℕ) (fuel : ℕ) (given : List ℤ) (m2 : ScriptState) → slice_get m.instances i ≡ Some g → ReceivesCall true m i g name fuel given m2
    → (m1 : ScriptState) × IsBefore m m1 m2
before m i g name fuel given _ at (instance_is_gone gone) = (m, record { touches = nothing; modules = refl; instances = refl; invoked = refl })
before m i g name fuel given _ at (isnt_invoked fault live bar) = (m, record { touches = nothing; modules = refl; instances = refl; invoked = refl })
before m i g name fuel given _ at (is_invoked vs live bar exports fits) =
    (with_instance m i (record g { calls = _ }), record { touches = calls_of i g _ g.at_fault at; modules = refl; instances = refl; invoked = refl })
before m i g name fuel given _ at (call_out_of_memory may_run_out live bar) = (m, record { touches = nothing; modules = refl; instances = refl; invoked = refl })

-- ---- what came of it

pub taken_so : (i at : ℕ) (answer : InvokeAnswer) → IsInvokeAnswer (Ok at) answer → invoke_outcome_of (Accepted i at) ≡ invoke_outcome i answer
taken_so i at answer is = ap (invoke_outcome i) (sym is)

refused_so : (i : ℕ) (e : InvokeError) → call_rejected (host_number (Invoke e)) ≡ invoke_outcome i (refusal_answer (refusal_of e))
refused_so i NoExport = refl
refused_so i Arguments = refl
refused_so i QueueFull = refl
refused_so i Dead = refl
refused_so i JournalFull = refl
refused_so i Memory = refl

pub turned_so : (i : ℕ) (e : HostError) (answer : InvokeAnswer) → IsInvokeAnswer (Err e) answer → invoke_outcome_of (Rejected (host_number e)) ≡ invoke_outcome i answer
turned_so i NoInstance answer is = ap (invoke_outcome i) (sym is)
turned_so i (Invoke e) answer is = refused_so i e ∙ ap (invoke_outcome i) (sym is)
turned_so i NoCall answer is = absurd is
turned_so i host.Memory answer is = absurd is

-- ---- the engine

one_more : (k : ℕ) (xs : List Invoked) (vs : List script.Invoked) (x : Invoked) (v : script.Invoked) → AreInvoked k xs vs → IsInvokedAs (k + length xs) x v
    → AreInvoked k (xs ++ x ∷ []) (vs ++ v ∷ [])
one_more k [] [] x v all one = let e : k + 0 ≡ k = omega arith in (subst (λ n. IsInvokedAs n x v) e one, tt)
one_more k [] (w ∷ vs) x v all one = absurd all
one_more k (y ∷ xs) [] x v all one = absurd all
one_more k (y ∷ xs) (w ∷ vs) x v all one =
    let e : k + length (y ∷ xs) ≡ (k + 1) + length xs = omega arith in (all.0, one_more (k + 1) xs vs x v all.1 (subst (λ n. IsInvokedAs n x v) e one))

-- the engine with another host and other calls
abbrev pub with_calls : WholeState → HostState → List Invoked → WholeState
with_calls e h calls = record e { host = h; invoked = calls }

called_stands : (settings : Settings) (e : WholeState) (m m1 m2 : ScriptState) (h2 : HostState) (w2 : World) (calls : List Invoked) (x : Invoked) (v : script.Invoked)
    → RepresentsWhole settings e m → IsBefore m m1 m2 → m2.invoked ≡ m.invoked ++ v ∷ [] → calls ≡ e.invoked ++ x ∷ [] → IsInvokedAs (1 + length e.invoked) x v → IsLed h2 w2
    → Knows settings w2 m2 (map (λ (y : NamedInstance). y.id.place) e.instances) → RepresentsWhole settings (with_calls e h2 calls) m2
called_stands settings e m m1 m2 h2 w2 calls x v s b entry entries is is2 knows2 = record {
  world = w2;
  is = is2;
  knows = knows2;
  module_names = s.module_names ∙ ap (λ ms. map (λ (n : script.NamedModule). n.name) ms) (sym (b.modules ∙ touched_modules m m1 b.touches));
  instance_names = s.instance_names ∙ sym (touched_names m m1 b.touches) ∙ ap (λ gs. map (λ (g : script.NamedInstance). g.name) gs) (sym b.instances);
  apart = s.apart;
  instances = subst (AreNamedInstances 0 e.instances) (sym b.instances) (touched_guests e.instances m m1 b.touches s.instances);
  invoked = subst (λ vs. AreInvoked 1 calls vs) (sym entry) (subst (λ xs. AreInvoked 1 xs (m.invoked ++ v ∷ [])) (sym entries) (one_more 1 e.invoked m.invoked x v s.invoked is));
}

-- a call was asked of the instance of this number
abbrev pub TakesInvokeWhole : Settings → ScriptState → (i : ℕ) (export : List ℕ) (fuel : ℕ) (given : List ℤ) → WholeState → Type 0
TakesInvokeWhole settings m i export fuel given e2 =
    (g : script.NamedInstance) × (slice_get m.instances i ≡ Some g)
    × (m2 : ScriptState) × ReceivesCall true m i g export fuel given m2 × RepresentsWhole settings e2 m2

pub called : (settings : Settings) (e : WholeState) (m : ScriptState) (i : ℕ) (x : NamedInstance) (export : List ℕ) (fuel : ℕ) (given : List ℤ) (h2 : HostState) (r : Result ℕ HostError) (outcome : InvokeOutcome)
    (calls : List Invoked) → RepresentsWhole settings e m → slice_get e.instances i ≡ Some x → AnswersInvoke e.host x.id export given fuel r h2 → StaysWhole e.host.space h2.space
    → ((answer : InvokeAnswer) → IsInvokeAnswer r answer → invoke_outcome_of outcome ≡ invoke_outcome i answer)
    → calls ≡ e.invoked ++ record { number = 1 + length e.invoked; outcome = outcome; last_printed = None } ∷ []
    → TakesInvokeWhole settings m i export fuel given (with_calls e h2 calls)
called settings e m i x export fuel given h2 r outcome calls s at answers whole says entries =
    let w = s.world in
    let g = guest_of 0 e.instances m.instances i x s.instances at in
    let did = answers w s.is.0 in
    let happened : IsInvoke w (record { place = x.id.place; number = i }) export given fuel did.0 did.1 =
    subst (λ id. IsInvoke w id export given fuel did.0 did.1) (id_of x i (own_number e m settings i x s at)) did.3 in
    let reached = s.is.1 in
    let led : IsLed h2 did.1 = (did.4, reached_on w did.1 (events.invoke (record { place = x.id.place; number = i }) export given fuel) reached (did.0, happened)) in
    let follows = calls_follow reached.frames reached.slots reached.tax reached.events w reached.happen settings m
    (map (λ (y : NamedInstance). y.id.place) e.instances) i x.id.place g.0 export given fuel did.0 did.1 s.knows g.1
    (placed_at e.instances i x at) happened (whole_of e.host h2 w did.1 s.is.0 did.4 whole) in
    let b = before m i g.0 export fuel given follows.0 g.1 follows.1 in
    let is : IsInvokedAs (1 + length e.invoked) (record { number = 1 + length e.invoked; outcome = outcome; last_printed = None }) (record { outcome = invoke_outcome i did.0; last_printed = None }) =
    record { number = refl; outcome = says did.0 did.2; last_printed = refl } in
    (g.0, g.1, follows.0, follows.1, called_stands settings e m b.0 follows.0 h2 did.1 calls _ _ s b.1 follows.2 entries is led follows.3)

-- ---- of an instance that isn't kept

turned_known : (settings : Settings) (w : World) (m : ScriptState) (places : List ℕ) (outcome : script.InvokeOutcome) → Knows settings w m places → Knows settings w (with_invoked m outcome) places
turned_known settings w m places outcome k = record {
  frames = k.frames;
  slots = k.slots;
  tax_num = k.tax_num;
  tax_den = k.tax_den;
  none_out = k.none_out;
  minima = k.minima;
  spreads = k.spreads;
  modules = k.modules;
  instances = k.instances;
  placed = k.placed;
}

-- it is released, so the call is refused with H1
pub refused_gone : (settings : Settings) (e : WholeState) (m : ScriptState) (i : ℕ) (g : script.NamedInstance) (export : List ℕ) (fuel : ℕ) (given : List ℤ) (outcome : InvokeOutcome) (calls : List Invoked)
    → RepresentsWhole settings e m → slice_get m.instances i ≡ Some g → g.is_released ≡ true → invoke_outcome_of outcome ≡ call_rejected 1
    → calls ≡ e.invoked ++ record { number = 1 + length e.invoked; outcome = outcome; last_printed = None } ∷ []
    → TakesInvokeWhole settings m i export fuel given (with_calls e e.host calls)
refused_gone settings e m i g export fuel given outcome calls s at gone is entries =
    let entry : IsInvokedAs (1 + length e.invoked) (record { number = 1 + length e.invoked; outcome = outcome; last_printed = None }) (record { outcome = call_rejected 1; last_printed = None }) =
    record { number = refl; outcome = is; last_printed = refl } in
    let b : IsBefore m m (with_invoked m (call_rejected 1)) = record { touches = nothing; modules = refl; instances = refl; invoked = refl } in
    (g, at, with_invoked m (call_rejected 1), instance_is_gone gone, called_stands settings e m m (with_invoked m (call_rejected 1)) e.host s.world calls _ _ s b refl entries entry s.is (turned_known settings s.world m _ (call_rejected 1) s.knows))

-- ---- what is kept then

pub gone_there : {D : Type 0} (settings : Settings) (e : ScriptHostState D) (m : ScriptState) (number : ℕ) → RepresentsScript settings e m → number < length e.instance_names → (g : script.NamedInstance) × (slice_get m.instances number ≡ Some g)
gone_there settings e m number s within =
    let many = ap (λ (ns : Names). length ns) s.stands.instance_names ∙ length-map m.instances (λ (g : script.NamedInstance). g.name) in
    there_at m.instances number (subst (λ n. number < n) many within)

pub call_again : {D : Type 0} (settings : Settings) (e : ScriptHostState D) (m : ScriptState) (i : ℕ) (export : List ℕ) (fuel : ℕ) (given : List ℤ) (o2 : OwnedState D) (outcome : InvokeOutcome) (calls : List Invoked) (count : ℕ)
    (s : RepresentsScript settings e m) → calls ≡ e.invoked ++ record { number = count; outcome = outcome; last_printed = None } ∷ [] → count ≡ e.asked + 1
    → TakesInvokeWhole settings m i export fuel given (with_calls (whole_on e s.instances s.invoked) o2.host (s.invoked ++ record { number = 1 + length s.invoked; outcome = outcome; last_printed = None } ∷ []))
    → TakesInvoke settings m i export fuel given (record e { host = o2; invoked = calls; asked = count })
call_again settings e m i export fuel given o2 outcome calls count s items counts takes =
    let x : ℕ → Invoked = λ n. record { number = n; outcome = outcome; last_printed = None } in
    let all : List Invoked = s.invoked ++ x (1 + length s.invoked) ∷ [] in
    let same : count ≡ 1 + length s.invoked = let n = s.asked in omega (arith, counts, n) in (
      takes.0,
      takes.1,
      takes.2,
      takes.3,
      record {
        instances = s.instances;
        invoked = all;
        kept = s.kept;
        pending = subst (λ ys. LeavesOut is_settled ys all) (sym items)
            (subst (λ n. LeavesOut is_settled (e.invoked ++ x n ∷ []) all) (sym same) (one_more_kept (x (1 + length s.invoked)) s.pending));
        asked = same ∙ omega arith ∙ sym (length-append s.invoked (x (1 + length s.invoked) ∷ []));
        stands = takes.4;
      },
    )
