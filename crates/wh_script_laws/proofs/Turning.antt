-- Turns bring the calls of an instance further.
use Rattle.std.proofs.Common.{◌≡◌, ◌≢◌, ℕ, zero, suc, ◌+◌, ◌⊎◌, ⊎_elim, inl, inr, Bool, true, List, [], ◌∷◌, ◌++◌, map, Option, Some, None, get_or, slice_set, refl, sym, ap, subst, ◌∙◌, arith, append_assoc, rules}
use Rattle.std.proofs.lemmas.Option.{none-some, same_Some}
use Rattle.std.specs.List.{AllZip, AllByRecursion}
use Rattle.wh_model.specs.declared.memory.Need.{Need}
use Rattle.wh_model.specs.Format.{Module}
use Rattle.wh_model.specs.Execution.Store.{Instance}
use Rattle.wh_model.specs.Execution.{Outcome, cancelled, dead, Call}
use Rattle.wh_space_model.specs.declared.Tax.{Tax}
use Rattle.wh_space_model.specs.declared.plain.InstId.{InstId}
use Rattle.wh_host_model.specs.declared.plain.TurnEnd.{TurnEnd}
use Rattle.wh_space_model.specs.{Space, claim, IsSound}
use Rattle.wh_host_model.specs.Host.{Rest, Doing, Suspension, for_frame, Tenant, World, journal, journal_calls, with_tenant, to_end, Proceeds, returns, traps, writes_all, ended_by, gone_further, Closes, faces_next, is_dead, at_frame, Turn, is_idle, has_ended, has_no_fuel, has_no_frame, can_go_on, keeps_its_fault, IsOpenCall, InOrder, is_starting, has_started, has_died, IsLive, IsTurn, of_none, of_one, AfterEvents, CanGoOn}
use Rattle.wh_host_model.specs.{Entry, is_open}
use Rattle.wh_script_model.specs.ScriptState.{ScriptState}
use Rattle.wh_script_model.specs.{NamedInstance, ComesTo, had_ended, goes_on, IsTenantOf, LosesNothing}
use Rattle.wh_host_model.proofs.Host.Holding.{memory_is_sound, journals_are_in_order}
use Rattle.wh_host_model.proofs.Host.Opening.{Apart, apart_then, apart_steps, proceeds_apart}
use Rattle.wh_script_laws.specs.Following.{ComesFurther, ComeFurther, is_there, IsModuleKept, IsPlaced, IsRunAmid, AreRunAmid, StandsAmid, device_fault}
use Rattle.wh_script_laws.specs.Laws.{TurnsFollow}
use Rattle.wh_script_laws.proofs.Mixing.{zip_amid_set}
use Rattle.wh_script_laws.proofs.Sums.{claims_decide}
use Rattle.wh_script_laws.proofs.Drains.{both_further, goes_nowhere, go_nowhere, moved_followed, not_cancelled, zip_so}

-- ---- calls come further, and further still

comes_then : (a b c : Call) → ComesTo a b → ComesTo b c → ComesTo a c
comes_then a b c (had_ended closed) y = y
comes_then a b c (goes_on open_yet alive) (had_ended closed) = goes_on open_yet alive
comes_then a b c (goes_on open_yet alive) (goes_on open_then alive_then) = goes_on open_yet alive_then

loses_then : (a b c : Call) → LosesNothing a b → LosesNothing b c → LosesNothing a c
loses_then a b c x y = search rules

come_then : (xs ys zs : List Call) → ComeFurther xs ys → ComeFurther ys zs → ComeFurther xs zs
come_then [] [] zs x y = y
come_then [] (b ∷ ys) zs x y = absurd x
come_then (a ∷ xs) [] zs x y = absurd x
come_then (a ∷ xs) (b ∷ ys) [] x y = absurd y
come_then (a ∷ xs) (b ∷ ys) (c ∷ zs) x y = ((comes_then a b c x.0.0 y.0.0, loses_then a b c x.0.1 y.0.1), come_then xs ys zs x.1 y.1)

-- ---- the open calls

abbrev pub IsOpenYet : Entry → Type 0
IsOpenYet e = is_open e.call.outcome ≡ true

each_open : (inst : Instance) (es : List Entry) → AllByRecursion (IsOpenCall inst) es → AllByRecursion IsOpenYet es
each_open inst [] h = tt
each_open inst (e ∷ es) h = (ap is_open h.0.open_yet, each_open inst es h.1)

pub open_ones : {m : Module} {inst : Instance} {died : Bool} {es os : List Entry} → InOrder m inst died es os
    → AllByRecursion IsOpenYet os
open_ones {inst = inst} (is_starting {es = es} a b c) = (ap is_open b, each_open inst es c)
open_ones {inst = inst} (has_started {os = os} a b c d f g) = each_open inst os g
open_ones (has_died a b c d) = tt

-- behind calls that have ended, the first open one has come further, and so have the others
behind : (before os : List Entry) (e e2 : Entry) (es es2 : List Entry) → os ≡ e ∷ es → ComesFurther e.call e2.call
    → ComeFurther (journal_calls es) (journal_calls es2)
    → ComeFurther (journal_calls (before ++ os)) (journal_calls (before ++ e2 ∷ es2))
behind [] os e e2 es es2 are first others = search rules
behind (b ∷ before) os e e2 es es2 are first others =
    let rest = behind before os e e2 es es2 are first others in (goes_nowhere b.call, rest)

all_dead : (es : List Entry) → AllByRecursion IsOpenYet es
    → ComeFurther (journal_calls es) (journal_calls (map (λ w. ended_by w dead) es ++ []))
all_dead [] h = tt
all_dead (e ∷ es) h = ((goes_on h.0 (λ e. absurd (cc e)), record { fragments = omega arith; charges = omega arith }), all_dead es h.1)

-- ---- what a turn leaves

never_cancelled : {M : Type 0} {bytes : M → List ℕ} {ready : M → Need → Type 0} {keeps : M → M → Type 0} {inst : Instance} {q k n : ℕ} {call : Call} {m m2 : M} {d d2 : Doing} {r r2 : Rest} {o : Outcome}
    → Proceeds bytes ready keeps inst q call m r d (to_end o) k n m2 r2 d2 → ¬ (o ≡ cancelled)
never_cancelled (returns x y) e = absurd (cc e)
never_cancelled (traps x) e = absurd (cc e)
never_cancelled (writes_all x y z) e = absurd (cc e)

-- who was blocked on nothing, or waited for a frame, is blocked on no fault of a device where it waits for a frame then
no_fault_at_frame : (steps : ℕ) (o : Option Suspension) → (o ≡ None) ⊎ (o ≡ Some for_frame) → device_fault (at_frame steps o) ≡ None
no_fault_at_frame steps o (inl none) = search rules
no_fault_at_frame steps o (inr frame) = search rules

-- the same instance, of which calls have come further, and which is blocked on no fault of a device
record TurnLeaves (s s2 : Space) (t t2 : Tenant) : Type 0 where
  place : t2.place ≡ t.place
  of : t2.of ≡ t.of
  params : t2.params ≡ t.params
  inst : t2.inst ≡ t.inst
  further : ComeFurther (journal_calls (journal t)) (journal_calls (journal t2))
  faultless : device_fault t2.waiting_for ≡ None
  apart : Apart t.place s s2
  sound : IsSound s2

-- the first open call has come further
grown_so : (e : Entry) (k n : ℕ) → LosesNothing e.call (gone_further e k n).call
grown_so e k n = record { fragments = omega arith; charges = omega arith }

goes_further : (e : Entry) (k n : ℕ) → IsOpenYet e → ComesFurther e.call (gone_further e k n).call
goes_further e k n open_yet = (goes_on open_yet (not_cancelled e.call.outcome open_yet), grown_so e k n)

-- to its end
ends_further : (e : Entry) (k n : ℕ) (o : Outcome) → IsOpenYet e → ¬ (o ≡ cancelled) → ComesFurther e.call (ended_by (gone_further e k n) o).call
ends_further e k n o open_yet alive = (goes_on open_yet alive, record { fragments = omega arith; charges = omega arith })

further_behind : (t : Tenant) (e e2 : Entry) (es : List Entry) → t.open_calls ≡ e ∷ es → ComesFurther e.call e2.call
    → ComeFurther (journal_calls (journal t)) (journal_calls (t.ended ++ e2 ∷ es))
further_behind t e e2 es are first = behind t.ended t.open_calls e e2 es es are first (go_nowhere (journal_calls es))

closed_leaves : (s0 s : Space) (t t2 : Tenant) (e e2 : Entry) (es : List Entry) (r : Rest) → t.open_calls ≡ e ∷ es
    → AllByRecursion IsOpenYet t.open_calls → ComesFurther e.call e2.call → Apart t.place s0 s → IsSound s → Closes s t e2 es r t2
    → TurnLeaves s0 s t t2
closed_leaves s0 s t t2 e e2 es r are open_ones first apart sound (faces_next lives faces) = search (rules, append_assoc, further_behind)
closed_leaves s0 s t t2 e e2 es r are open_ones first apart sound (is_dead died) = search (rules, append_assoc, behind, all_dead, open_ones)

turn_leaves : (q : ℕ) (s s2 : Space) (t t2 : Tenant) (answer : TurnEnd) → CanGoOn t → IsSound s → AllByRecursion IsOpenYet t.open_calls
    → Turn q s t answer s2 t2 → TurnLeaves s s2 t t2
turn_leaves q s s2 t t2 answer going sound open_ones (is_idle none) = absurd (going.0 none)
turn_leaves q s s2 t t2 answer going sound open_ones (has_ended {e = e} {es = es} {o = o} {k = k} {n = n} {r = r} are goes alone pins closes) =
    let steps = alone.steps in
    let is = subst (AllByRecursion IsOpenYet) are open_ones in
    closed_leaves s s2 t t2 e (ended_by (gone_further e k n) o) es r are open_ones (ends_further e k n o is.0 (never_cancelled goes)) (apart_then (proceeds_apart t e goes) (apart_steps steps)) steps.sound closes
turn_leaves q s s2 t t2 answer going sound open_ones (has_no_fuel {e = e} {es = es} {k = k} {n = n} are goes alone pins) =
    let steps = alone.steps in
    let is = subst (AllByRecursion IsOpenYet) are open_ones in
    record {
      place = refl;
      of = refl;
      params = refl;
      inst = refl;
      further = further_behind t e (gone_further e k n) es are (goes_further e k n is.0);
      faultless = refl;
      apart = apart_then (proceeds_apart t e goes) (apart_steps steps);
      sound = steps.sound;
    }
turn_leaves q s s2 t t2 answer going sound open_ones (has_no_frame {e = e} {es = es} {k = k} {n = n} are goes alone pins) =
    let steps = alone.steps in
    let is = subst (AllByRecursion IsOpenYet) are open_ones in
    record {
      place = refl;
      of = refl;
      params = refl;
      inst = refl;
      further = further_behind t e (gone_further e k n) es are (goes_further e k n is.0);
      faultless = no_fault_at_frame (k + n) t.waiting_for going.1;
      apart = apart_then (proceeds_apart t e goes) (apart_steps steps);
      sound = steps.sound;
    }
turn_leaves q s s2 t t2 answer going sound open_ones (can_go_on {e = e} {es = es} {k = k} {n = n} are goes alone pins keeps) =
    let steps = alone.steps in
    let is = subst (AllByRecursion IsOpenYet) are open_ones in
    record {
      place = refl;
      of = refl;
      params = refl;
      inst = refl;
      further = further_behind t e (gone_further e k n) es are (goes_further e k n is.0);
      faultless = refl;
      apart = apart_then (proceeds_apart t e goes) (apart_steps steps);
      sound = steps.sound;
    }
turn_leaves q s s2 t t2 answer going sound open_ones (keeps_its_fault {fault = fault} are stands a b c d e) = search rules

-- ---- the host behind a turn

same_or_not : (m n : ℕ) → (m ≡ n) ⊎ (m ≢ n)
same_or_not zero zero = inl refl
same_or_not zero (suc n) = inr (λ e. absurd (omega arith))
same_or_not (suc m) zero = inr (λ e. absurd (omega arith))
same_or_not (suc m) (suc n) = ⊎_elim (λ e. inl (ap suc e)) (λ never. inr (λ e. never (omega arith))) (same_or_not m n)

-- one of the second list changes
pub zip_set : {A B : Type 0} (R S : A → Option B → Type 0) (t t2 : B) → ((a : A) (o : Option B) → R a o → S a o)
    → ((a : A) → R a (Some t) → S a (Some t2)) → (xs : List A) (ys : List (Option B)) (i : ℕ) → get_or ys i None ≡ Some t
    → AllZip R xs ys → AllZip S xs (slice_set ys i (Some t2))
zip_set R S t t2 so changed [] [] i there h = tt
zip_set R S t t2 so changed [] (y ∷ ys) i there h = absurd h
zip_set R S t t2 so changed (x ∷ xs) [] i there h = absurd h
zip_set R S t t2 so changed (x ∷ xs) (y ∷ ys) zero there h = (changed x (subst (R x) there h.0), zip_so R S so xs ys h.1)
zip_set R S t t2 so changed (x ∷ xs) (y ∷ ys) (suc i) there h = (so x y h.0, zip_set R S t t2 so changed xs ys i there h.1)

-- who could go on stood for no fault
stands_on : (faults : List ℕ) (g : NamedInstance) (t t2 : Tenant) → (t.waiting_for ≡ None) ⊎ (t.waiting_for ≡ Some for_frame) → device_fault t2.waiting_for ≡ None
    → StandsAmid faults g t → StandsAmid faults g t2
stands_on faults g t t2 going none (inl stands) = inl (stands.0, λ fault is. absurd (none-some fault (sym none ∙ is)))
stands_on faults g t t2 (inl free) none (inr (was, stood, yet, same)) = absurd (none-some was (sym (ap device_fault free) ∙ yet))
stands_on faults g t t2 (inr frame) none (inr (was, stood, yet, same)) = absurd (none-some was (sym (ap device_fault frame) ∙ yet))

turned_followed : (w w2 : World) (s s2 : Space) (t t2 : Tenant) → w2.modules ≡ w.modules → CanGoOn t → TurnLeaves s s2 t t2
    → (faults : List ℕ) (g : NamedInstance) → IsRunAmid w faults g (Some t) → IsRunAmid w2 faults g (Some t2)
turned_followed w w2 s s2 t t2 same going leaves faults g (is_there same_one further stands) =
    let on = come_then g.calls (journal_calls (journal t)) (journal_calls (journal t2)) further leaves.further in
    let of_one2 : IsTenantOf w2 t2 g = search (rules, both_further) in
    is_there of_one2 on (stands_on faults g t t2 going.1 leaves.faultless stands)

-- each instance of a script is that of the host, and lies at its place
pub record AreFollowed (faults : List ℕ) (w : World) (m : ScriptState) (places : List ℕ) : Type 0 where
  pub modules : AllZip IsModuleKept m.modules w.modules
  pub instances : AreRunAmid faults w m.instances w.tenants
  pub placed : AllZip IsPlaced places w.tenants

-- they are so on another host, on which the same is promised at each place
pub record AreFollowedOn (faults : List ℕ) (w w2 : World) (m : ScriptState) (places : List ℕ) : Type 0 where
  pub are : AreFollowed faults w2 m places
  pub claims : (j : ℕ) → claim w2.space j ≡ claim w.space j
  pub sound : IsSound w2.space

-- the instance whose turn it was is the one that could go on
one_live : (w : World) (id : InstId) (t u : Tenant) → IsLive w id t → IsLive w id u → t ≡ u
one_live w id t u is there = same_Some t u (sym is.0 ∙ there.0)

pub turn_followed : AfterEvents (λ w. (faults : List ℕ) (m : ScriptState) (places : List ℕ) (id : InstId) (q : ℕ) (t : Tenant) (answer : TurnEnd) (w2 : World) → AreFollowed faults w m places
    → IsLive w id t → CanGoOn t → IsTurn w id q answer w2 → AreFollowedOn faults w w2 m places)
turn_followed frames slots tax events w happens faults m places id q u answer w2 h live going (of_none none) = absurd (none u live)
turn_followed frames slots tax events w happens faults m places id q u answer w2 h live going (of_one {t = t} {t2 = t2} {s2 = s2} there turned) =
    let can = subst CanGoOn (one_live w id u t live there) going in
    let order = journals_are_in_order frames slots tax events w happens id.number t there.0 in
    let sound = memory_is_sound frames slots tax events w happens in
    let leaves = turn_leaves q w.space s2 t t2 answer can sound (open_ones order.calls) turned in
    let apart = leaves.apart in
    let after = with_tenant w id.number (Some t2) s2 in
    record {
      are = record {
        modules = h.modules;
        instances = zip_amid_set (IsRunAmid w) (IsRunAmid after) t t2 (λ own. moved_followed ComeFurther (StandsAmid own) w after refl) (turned_followed w after w.space s2 t t2 refl can leaves) faults m.instances w.tenants id.number there.0 h.instances;
        placed = zip_set IsPlaced IsPlaced t t2 (λ place o at. at) (λ place at. leaves.place ∙ at) places w.tenants id.number there.0 h.placed;
      };
      claims = search (rules, ⊎_elim, same_or_not);
      sound = leaves.sound;
    }

pub turns_follow : TurnsFollow
turns_follow frames slots tax events w happens faults settings m places id q t answer w2 h live going turned whole =
    let sound = memory_is_sound frames slots tax events w happens in
    let after = turn_followed frames slots tax events w happens faults m places id q t answer w2 (record { modules = h.modules; instances = h.instances; placed = h.placed }) live going turned in
    let sums = claims_decide w.space w2.space sound after.sound h.none_out (whole.none_out ∙ h.none_out) after.claims in
    record {
      frames = whole.frames ∙ h.frames;
      slots = whole.slots ∙ h.slots;
      tax_num = ap (λ (tax : Tax). tax.num) whole.tax ∙ h.tax_num;
      tax_den = ap (λ (tax : Tax). tax.den) whole.tax ∙ h.tax_den;
      none_out = whole.none_out ∙ h.none_out;
      minima = sums.0 ∙ h.minima;
      spreads = sums.1 ∙ h.spreads;
      modules = after.are.modules;
      instances = after.are.instances;
      placed = after.are.placed;
    }
