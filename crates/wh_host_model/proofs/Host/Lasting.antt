-- What holds of every host, whatever bytes its swap device gives.
use Rattle.std.proofs.Common.{◌≡◌, ◌≢◌, ℕ, zero, suc, ◌+◌, ◌≤◌, inl, inr, Bool, Option, Some, None, List, [], ◌∷◌, length, refl, sym, ap, subst, ◌∙◌, arith, length-append, ℤ, rules}
use Rattle.std.proofs.lemmas.List.{length-map}
use Rattle.wh_model.specs.declared.memory.Need.{Need}
use Rattle.wh_model.specs.Format.{Module}
use Rattle.wh_model.specs.Execution.Store.{Instance, Store}
use Rattle.wh_model.specs.Execution.{Config, store_of, Piece, Parameters, AreGiven, IsInitial, begins, Outcome, returned, cancelled, dead, pending, Call, Takes, took_all, took}
use Rattle.wh_space_model.specs.declared.Tax.{Tax}
use Rattle.wh_host_model.specs.declared.plain.TurnEnd.{TurnEnd}
use Rattle.wh_space_model.specs.{Space, view, wants}
use Rattle.wh_host_model.specs.Host.{Rest, Doing, Suspension, for_fuel, for_frame, for_device, Tenant, World, empty_world, Opens, by_invocation, as_it_was, Computes, Upshot, to_end, Proceeds, returns, traps, writes_all, uses_fuel, waits, waits_to_write, has_had_its_turn, gone_further, ended_by, Closes, faces_next, is_dead, at_frame, Turn, is_idle, has_ended, has_no_fuel, has_no_frame, can_go_on, keeps_its_fault, open_count, TakesCall, WaitsAfter, Refuels, has_more, Cancels, Retries, may_try, StartsAs, writes, runs, ReturnsTyped, HasEnded, InOrder, is_starting, has_started, AllSeeAsMany, Step, by_event, by_misreading, Befalls, AllBefall, ComesAbout, MemoryStaysSound, PlacesStayRight, ModulesStayAccepted, JournalsStayInOrder, InputsStay, FramesAreAwaited}
use Rattle.wh_host_model.specs.{Entry, Params, most_fuel, most_calls, most_open}
use Rattle.wh_host_model.specs.Host.OwnerCalls as requests
use Rattle.wh_host_model.specs.Host.Admission.{ends}
use Rattle.wh_space_model.proofs.Chained.{empty_sound}
use Rattle.wh_host_model.proofs.Host.Inputs.{leads_inputs, initial_inputs}
use Rattle.wh_host_model.proofs.Host.Keeping.{beginner, some_func, types_alike}
use Rattle.wh_host_model.proofs.Host.Ordered.{SameCall, order_on, order_ends, order_dies, order_comes}
use Rattle.wh_host_model.proofs.Host.Limits.{SameLimit}
use Rattle.wh_host_model.proofs.Host.Running.{IsKeptUp, IsGoodBy, events_keep}

-- ---- what is kept of an instance

-- whoever waits for a frame, or for a fault of the device, wants bytes
abbrev pub IsWanted : Option Need → Option Suspension → Type 0
IsWanted want None = Unit {0}
IsWanted want (Some for_fuel) = Unit {0}
IsWanted want (Some other) = (need : Need) × (want ≡ Some need)

-- its calls are in order, and not too many, its input is as it was given, and it wants bytes where it is blocked on them
pub record Lasts (m : Module) (p : Parameters) (t : Tenant) (bytes : List ℕ) (want : Option Need) : Type 0 where
  pub order : InOrder m t.inst t.dead t.ended t.open_calls
  pub few : length t.ended + length t.open_calls ≤ most_calls
  pub few_open : open_count t ≤ most_open
  pub inputs : t.rest.inputs ≡ p.inputs
  pub wanted : IsWanted want t.waiting_for

-- ---- the words of its input never change

takes_inputs : {M : Type 0} {bytes : M → List ℕ} {ready : M → Need → Type 0} {keeps : M → M → Type 0} {inst : Instance} {n : ℕ} {m m2 : M} {c c2 : Config} → Takes bytes ready keeps inst m c n m2 c2 → (store_of c2).inputs ≡ (store_of c).inputs
takes_inputs took_all = refl
takes_inputs (took now one new steps rest) = takes_inputs rest ∙ leads_inputs one.0

opens_inputs : {M : Type 0} {bytes : M → List ℕ} {ready : M → Need → Type 0} {keeps : M → M → Type 0} {inst : Instance} {call : Call} {k : ℕ} {m m2 : M} {r : Rest} {d : Doing} {c : Config} → Opens bytes ready keeps inst call m r d k m2 c → (store_of c).inputs ≡ r.inputs
opens_inputs (by_invocation w i a) = leads_inputs a.0 ∙ ap (λ z. (store_of z).inputs) i.begins
opens_inputs (as_it_was a) = leads_inputs a.0

computes_inputs : {M : Type 0} {bytes : M → List ℕ} {ready : M → Need → Type 0} {keeps : M → M → Type 0} {inst : Instance} {q k n : ℕ} {call : Call} {m m2 : M} {r : Rest} {d : Doing} {c : Config} → Computes bytes ready keeps inst q call m r d k n m2 c → (store_of c).inputs ≡ r.inputs
computes_inputs x = takes_inputs x.takes ∙ opens_inputs x.opens

proceeds_inputs : {M : Type 0} {bytes : M → List ℕ} {ready : M → Need → Type 0} {keeps : M → M → Type 0} {inst : Instance} {q k n : ℕ} {call : Call} {m m2 : M} {r r2 : Rest} {d d2 : Doing} {to : Upshot} → Proceeds bytes ready keeps inst q call m r d to k n m2 r2 d2 → r2.inputs ≡ r.inputs
proceeds_inputs (returns x y) = computes_inputs x
proceeds_inputs (traps x) = computes_inputs x
proceeds_inputs (writes_all d f w) = refl
proceeds_inputs (uses_fuel x n u) = computes_inputs x
proceeds_inputs (waits x n u a v) = computes_inputs x
proceeds_inputs (waits_to_write d w v) = refl
proceeds_inputs (has_had_its_turn x n u v y) = computes_inputs x

-- ---- how the present call ends

ends_typed : {M : Type 0} {bytes : M → List ℕ} {ready : M → Need → Type 0} {keeps : M → M → Type 0} {inst : Instance} (e : Entry) {q k n : ℕ} {m m2 : M} {r r2 : Rest} {d d2 : Doing} {o : Outcome} → Proceeds bytes ready keeps inst q e.call m r d (to_end o) k n m2 r2 d2
    → HasEnded o × ReturnsTyped inst (ended_by (gone_further e k n) o).call o
ends_typed e {k = k} {n = n} (returns {vs = vs} x typed) = (tt, (λ none. some_func typed none, λ some. types_alike (ended_by (gone_further e k n) (returned vs)).call refl typed))
ends_typed e (traps x) = (tt, tt)
ends_typed e (writes_all d f w) = (tt, (λ none. refl, λ some. absurd (some f)))

closes_lasting : {m : Module} {p : Parameters} {s : Space} {t t2 : Tenant} {e : Entry} {es : List Entry} {bytes : List ℕ} {want : Option Need} (e2 : Entry) (r : Rest) → t.open_calls ≡ e ∷ es → Lasts m p t bytes want → SameCall e e2 → HasEnded e2.call.outcome → ReturnsTyped t.inst e2.call e2.call.outcome → r.inputs ≡ t.rest.inputs
    → Closes s t e2 es r t2 → (bytes2 : List ℕ) (want2 : Option Need) → Lasts m p t2 bytes2 want2
closes_lasting {m = m} {t = t} {es = es} e2 r there k same h typed inputs (faces_next alive f) bytes2 want2 =
    search (rules, order_ends, length-append)
closes_lasting {m = m} {t = t} {es = es} e2 r there k same h typed inputs (is_dead died) bytes2 want2 =
    search (rules, order_dies, length-append, length-map)

-- it goes on
still_open : {m : Module} {inst : Instance} {died : Bool} {ended es : List Entry} {e : Entry} → InOrder m inst died ended (e ∷ es) → e.call.outcome ≡ pending
still_open (is_starting st p rest) = p
still_open (has_started st h f r es os) = os.0.open_yet

goes_lasting : {m : Module} {p : Parameters} {t : Tenant} {e : Entry} {es : List Entry} {bytes : List ℕ} {want : Option Need} (n k : ℕ) (r : Rest) (d : Doing) (o : Option Suspension) → t.open_calls ≡ e ∷ es → Lasts m p t bytes want → r.inputs ≡ t.rest.inputs → (bytes2 : List ℕ) (want2 : Option Need) → IsWanted want2 o
    → Lasts m p (record t { rest = r; doing = d; open_calls = gone_further e n k ∷ es; waiting_for = o }) bytes2 want2
goes_lasting {m = m} {t = t} {e = e} {es = es} n k r d o there last inputs bytes2 want2 wanted = search (rules, order_on, still_open)

wanted_at : (n : ℕ) (o : Option Suspension) (want : Option Need) (need : Need) → want ≡ Some need → IsWanted want (at_frame n o)
wanted_at zero None want need e = (need, e)
wanted_at zero (Some for_fuel) want need e = (need, e)
wanted_at zero (Some for_frame) want need e = (need, e)
wanted_at zero (Some (for_device x)) want need e = (need, e)
wanted_at (suc n) o want need e = (need, e)

-- ---- everything that touches it

turn_lasting : {m : Module} {p : Parameters} {q : ℕ} {s s2 : Space} {t t2 : Tenant} {answer : TurnEnd} → Lasts m p t (view s t.place) (wants s t.place) → Turn q s t answer s2 t2 → Lasts m p t2 (view s2 t.place) (wants s2 t.place)
turn_lasting k (is_idle none) = k
turn_lasting {t = t} k (has_ended {e = e} {o = o} {k = pieces} {n = n} {s3 = s3} {r = r} there g leaves pins c) =
    let typed = ends_typed e g in
    closes_lasting (ended_by (gone_further e pieces n) o) r there k (record { func = refl; args = refl; given = refl; fuel = λ h. h }) typed.0 typed.1 (proceeds_inputs g) c (view s3 t.place) (wants s3 t.place)
turn_lasting {t = t} k (has_no_fuel {k = pieces} {n = n} {s3 = s3} {r = r} {d = d} there g leaves pins) = goes_lasting pieces n r d (Some for_fuel) there k (proceeds_inputs g) (view s3 t.place) (wants s3 t.place) tt
turn_lasting {t = t} k (has_no_frame {need = need} {k = pieces} {n = n} {s3 = s3} {r = r} {d = d} there g leaves pins) =
    goes_lasting pieces n r d (at_frame (pieces + n) t.waiting_for) there k (proceeds_inputs g) (view s3 t.place) (wants s3 t.place) (wanted_at (pieces + n) t.waiting_for (wants s3 t.place) need leaves.wants)
turn_lasting {t = t} k (can_go_on {k = pieces} {n = n} {s3 = s3} {r = r} {d = d} there g leaves pins fault) = goes_lasting pieces n r d None there k (proceeds_inputs g) (view s3 t.place) (wants s3 t.place) tt
turn_lasting k (keeps_its_fault there stands doing none next fuel now) = k

cancel_lasting : {m : Module} {p : Parameters} {s s2 : Space} {t t2 : Tenant} → Lasts m p t (view s t.place) (wants s t.place) → Cancels s t s2 t2 → Lasts m p t2 (view s2 t.place) (wants s2 t.place)
cancel_lasting {s2 = s2} {t = t} k (requests.ends {e = e} there leaves pins c) = closes_lasting (ended_by e cancelled) t.rest there k (record { func = refl; args = refl; given = refl; fuel = λ h. h }) tt tt refl c (view s2 t.place) (wants s2 t.place)

wanted_after : (call : Call) (want : Option Need) (old o : Option Suspension) → IsWanted want old → WaitsAfter call old o → IsWanted want o
wanted_after call want None o h after = subst (IsWanted want) (sym after) tt
wanted_after call want (Some for_fuel) o h after = elim after [ inl x ↦ subst (IsWanted want) (sym x.1) tt | inr x ↦ subst (IsWanted want) (sym x.1) tt ]
wanted_after call want (Some for_frame) o h after = subst (IsWanted want) (sym after) h
wanted_after call want (Some (for_device x)) o h after = subst (IsWanted want) (sym after) h

refuel_lasting : {m : Module} {p : Parameters} {n : ℕ} {t t2 : Tenant} {bytes : List ℕ} {want : Option Need} → Lasts m p t bytes want → Refuels t n t2 → Lasts m p t2 bytes want
refuel_lasting {m = m} {n = n} {t = t} {want = want} k (has_more {e = e} {es = es} {o = o} there after) =
    search (rules, order_on, still_open, wanted_after)

fault_lasting : {m : Module} {p : Parameters} {t : Tenant} {bytes : List ℕ} {want : Option Need} {a b : Suspension} → Lasts m p t bytes want → t.waiting_for ≡ Some a → a ≢ for_fuel → b ≢ for_fuel → Lasts m p (record t { waiting_for = Some b }) bytes want
fault_lasting {t = t} {want = want} {a = a} {b = b} k was from to = search rules

retry_lasting : {m : Module} {p : Parameters} {t t2 : Tenant} {bytes : List ℕ} {want : Option Need} → Lasts m p t bytes want → Retries t t2 → Lasts m p t2 bytes want
retry_lasting k (may_try there stands) = fault_lasting k stands (λ e. cc e) (λ e. cc e)

accept_lasting : {m mm : Module} {p : Parameters} {t t2 : Tenant} {name : List ℕ} {given : List ℤ} {fuel at : ℕ} (s : Space) → Lasts m p t (view s t.place) (wants s t.place) → TakesCall mm s t name given fuel at t2 → Lasts m p t2 (view s t.place) (wants s t.place)
accept_lasting {m} {p = p} {t = t} {given = given} {fuel = fuel} s k a = search (rules, length-append, order_comes)

begins_lasting : (m : Module) (place of : ℕ) (params : Params) (p : Parameters) (inst : Instance) (s : Store) (ps : List Piece) (fuel : ℕ) {d : Doing} {es os : List Entry} → AreGiven p → IsInitial m p (begins inst s ps) → fuel ≤ most_fuel
    → StartsAs inst s ps m.start fuel d es os → Lasts m p (beginner place of params inst s d es os) s.bytes None
begins_lasting m place of params p inst s ps fuel given initial low (writes some) = record {
  order = is_starting (record { func = refl; args = refl; given = refl; fuel = low }) refl tt;
  few = omega arith;
  few_open = omega arith;
  inputs = initial_inputs initial;
  wanted = tt;
}
begins_lasting m place of params p inst s ps fuel given initial low (runs none start f) = record {
  order = is_starting (record { func = refl; args = refl; given = refl; fuel = low }) refl tt;
  few = omega arith;
  few_open = omega arith;
  inputs = initial_inputs initial;
  wanted = tt;
}
begins_lasting m place of params p inst s ps fuel given initial low (ends none start) = record {
  order = has_started (record { func = sym start; args = refl; given = refl; fuel = low }) tt refl (λ none. refl, λ some. absurd (some refl)) tt tt;
  few = omega arith;
  few_open = omega arith;
  inputs = initial_inputs initial;
  wanted = tt;
}

fork_lasting : {m : Module} {p p2 : Parameters} {t : Tenant} {bytes : List ℕ} {want : Option Need} → Lasts m p t bytes want → SameLimit m p p2 t.inst → (place : ℕ) (params : Params)
    → Lasts m p2 (record t { place = place; params = params; copied = length t.ended; waiting_for = None }) bytes None
fork_lasting k same place params = search rules

pub lasts_up : IsKeptUp Lasts
lasts_up = search (rules, turn_lasting, cancel_lasting, refuel_lasting, fault_lasting, retry_lasting, accept_lasting, fork_lasting, begins_lasting)

-- ---- all of a host

abbrev pub IsLasting : World → Type 0
IsLasting w = IsGoodBy Lasts w

pub lasting_empty : (frames slots : ℕ) (tax : Tax) → IsLasting (empty_world frames slots tax)
lasting_empty frames slots tax = record {
  sound = empty_sound frames slots tax;
  modules = λ k l x. absurd (cc x);
  apart = λ i j a b x y e. absurd (cc x);
  owned = λ place c x. absurd (cc x);
  each = λ i t x. absurd (cc x);
}

-- other bytes were read
misread_lasting : (w : World) (s2 : Space) → IsLasting w → AllSeeAsMany w.space s2 → IsLasting (record w { space = s2 })
misread_lasting w s2 last same = record {
  sound = same.1;
  modules = last.modules;
  apart = last.apart;
  owned = λ place c e. let alike = same.0 place in last.owned place c (sym alike.claim ∙ e);
  each = λ i t x.
      let f = last.each i t x in
      let alike = same.0 t.place in
      let k = f.kept in
      record {
        loaded = f.loaded;
        is_loaded = f.is_loaded;
        claimed = alike.claim ∙ f.claimed;
        kept = record { order = k.order; few = k.few; few_open = k.few_open; inputs = k.inputs; wanted = subst (λ o. IsWanted o t.waiting_for) (sym alike.wants) k.wanted };
      };
}

pub befalls_lasting : (w w2 : World) (x : Step) → IsLasting w → Befalls w x w2 → IsLasting w2
befalls_lasting w w2 (by_event e) last h = events_keep Lasts lasts_up w w2 e last h
befalls_lasting w w2 by_misreading last h = subst IsLasting (sym h.2) (misread_lasting w h.0 last h.1)

all_lasting : (xs : List Step) (w w2 : World) → IsLasting w → AllBefall w xs w2 → IsLasting w2
all_lasting [] w w2 last r = subst IsLasting (sym r) last
all_lasting (x ∷ xs) w w2 last r = all_lasting xs r.0 w2 (befalls_lasting w r.0 x last r.1) r.2

-- whatever has befallen it
pub is_lasting : (w : World) → ComesAbout w → IsLasting w
is_lasting w c = all_lasting c.steps (empty_world c.frames c.slots c.tax) w (lasting_empty c.frames c.slots c.tax) c.befall

-- ---- the laws

pub memory_stays_sound : MemoryStaysSound
memory_stays_sound w c = let last = is_lasting w c in last.sound

pub places_stay_right : PlacesStayRight
places_stay_right w c =
    let last = is_lasting w c in
    record { claimed = λ i t x. let f = last.each i t x in f.claimed; apart = last.apart; all = last.owned }

pub modules_stay_accepted : ModulesStayAccepted
modules_stay_accepted w c = let last = is_lasting w c in last.modules

pub journals_stay_in_order : JournalsStayInOrder
journals_stay_in_order w c i t x =
    let last = is_lasting w c in
    let f = last.each i t x in
    let k = f.kept in
    record { loaded = f.loaded; is_loaded = f.is_loaded; calls = k.order; few = let few = k.few in let n = length-append t.ended t.open_calls in omega (arith, few, n); few_open = k.few_open }

pub inputs_stay : InputsStay
inputs_stay w c i t x = let last = is_lasting w c in let f = last.each i t x in let k = f.kept in k.inputs

pub frames_are_awaited : FramesAreAwaited
frames_are_awaited w c i t x stands =
    let last = is_lasting w c in
    let f = last.each i t x in
    subst (IsWanted (wants w.space t.place)) stands f.kept.wanted
