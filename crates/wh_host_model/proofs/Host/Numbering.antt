-- Whoever has a place, also one that was released, has the number of an instance that was admitted.
use Rattle.std.proofs.Common.{◌≡◌, ◌≢◌, ℕ, ℤ, zero, suc, ◌+◌, ◌<◌, inl, inr, List, [], ◌∷◌, ◌++◌, Option, Some, None, length, get_or, length-set, length-append, sym, ap, subst, ◌∙◌, arith, rules}
use Rattle.wh_space_model.specs.declared.Tax.{Tax}
use Rattle.wh_space_model.specs.declared.plain.InstId.{InstId}
use Rattle.wh_space_model.specs.declared.plain.SwapError.{SwapError}
use Rattle.wh_host_model.specs.declared.plain.TurnEnd.{TurnEnd}
use Rattle.wh_space_model.specs.{Claimed, Occupant, Promised, Space, claim, claim_of, occupant_at, promise_at, promised_to, IsSound}
use Rattle.wh_host_model.specs.Host.{AllLeftAlone, ArrivesSeeing, KeepsPromise, Tenant, World, empty_world, promised, with_tenant, Cancels, LetsGo, LetsIn, Event, turn, load, admit, invoke, refuel, cancel, retry, release, fork, unload, offer, evict_begin, evict_commit, fetch_begin, fetch_commit, provide, epoch, AllHappen, AwaitsFrame, AwaitsFrameFor, IsLive, IsTurn, MovesPages, OnlyMoves, has_failed, moved, of_none, of_one}
use Rattle.wh_host_model.specs.{Params, Quota, with_quota}
use Rattle.wh_host_model.specs.Host.OwnerCalls as requests
use Rattle.wh_host_model.specs.Host.Happens as happens
use Rattle.wh_host_model.specs.Host.Happens.{Happens}
use Rattle.wh_host_model.proofs.Host.Opening.{Apart, apart_steps}
use Rattle.wh_host_model.proofs.Host.Running.{IsGood, events_keep, kept_up, turn_apart}
use Rattle.wh_host_model.proofs.Host.Keeping.{Kept}
use Rattle.wh_space_model.proofs.Putting.{get_or_is, here_or}
use Rattle.wh_host_model.proofs.Host.Arriving.{copies_arrive}

-- ---- numbers below n

pub record AreBelow (n : ℕ) (s : Space) : Type 0 where
  pub each : (j : ℕ) (x : Promised) → promise_at s j ≡ Some x → x.number < n

abbrev pub AreAdmitted : World → Type 0
AreAdmitted w = AreBelow (length w.tenants) w.space

below_kept : (n j : ℕ) (s s2 : Space) → AreBelow n s → KeepsPromise j s s2 → (x : Promised) → promise_at s2 j ≡ Some x → x.number < n
below_kept n j s s2 below (inl same) x e = below.each j x (sym same ∙ e)
below_kept n j s s2 below (inr none) x e = absurd (let bad : None ≡ Some x = sym none ∙ e in cc bad)

below_all : (n : ℕ) (s s2 : Space) → AreBelow n s → AllLeftAlone s s2 → AreBelow n s2
below_all n s s2 below same = record { each = λ j x e. (let alike = same.0 j in below_kept n j s s2 below alike.promise x e) }

-- a live one has the number that it claims
claimed_number : (o : Option Occupant) (c : Claimed) (x : Promised) → claim_of o ≡ Some c → promised_to o ≡ Some x → x.number ≡ c.number
claimed_number None c x claims is = absurd (cc is)
claimed_number (Some t) c x claims is = search rules

below_claimed : (n i : ℕ) (s2 : Space) (c : Claimed) → c.number < n → claim s2 i ≡ Some c → (x : Promised) → promise_at s2 i ≡ Some x → x.number < n
below_claimed n i s2 c low claims x e = let same = claimed_number (get_or s2.occupants i None) c x claims e in omega (arith, same, low)

-- one has taken a step, or turns
below_apart : (n i : ℕ) (s s2 : Space) (c : Claimed) → claim s i ≡ Some c → c.number < n → AreBelow n s → Apart i s s2 → AreBelow n s2
below_apart n i s s2 c claims low below apart = search rules

-- ---- the number of one that is live

within_length : {A : Type 0} (xs : List (Option A)) (i : ℕ) (x : A) → get_or xs i None ≡ Some x → i < length xs
within_length [] i x e = absurd (cc e)
within_length (y ∷ xs) zero x e = omega arith
within_length (y ∷ xs) (suc i) x e = let h = within_length xs i x e in omega (arith, h)

same_count : (w : World) (i : ℕ) (o : Option Tenant) (s : Space) → AreBelow (length w.tenants) s → AreAdmitted (with_tenant w i o s)
same_count w i o s below = subst (λ n. AreBelow n s) (sym (length-set w.tenants i o)) below

turned_below : (w : World) (id : InstId) (t : Tenant) (o : Option Tenant) (s2 : Space) → IsGood w → AreAdmitted w → IsLive w id t → Apart t.place w.space s2 → AreAdmitted (with_tenant w id.number o s2)
turned_below w id t o s2 good below live apart =
    let fine = good.each id.number t live.0 in
    same_count w id.number o s2 (below_apart (length w.tenants) t.place w.space s2 (promised id.number t.params) fine.claimed (within_length w.tenants id.number t live.0) below apart)

-- ---- every event

turn_below : (w w2 : World) (id : InstId) (q : ℕ) (answer : TurnEnd) → IsGood w → AreAdmitted w → IsTurn w id q answer w2 → AreAdmitted w2
turn_below w w2 id q answer good below (of_none none) = below
turn_below w w2 id q answer good below (of_one {t = t} {t2 = t2} {s2 = s2} live turned) = turned_below w id t (Some t2) s2 good below live (turn_apart good.sound turned).0

load_below : (w w2 : World) (bytes : List ℕ) (answer : happens.LoadAnswer) → AreAdmitted w → happens.IsLoad w bytes answer w2 → AreAdmitted w2
load_below w w2 bytes answer below (happens.is_loaded l) = subst AreAdmitted (sym l.after) below
load_below w w2 bytes answer below (happens.isnt_loaded r) = below
load_below w w2 bytes answer below (happens.no_memory_to_load r) = below

arrives_below : (w : World) (place : ℕ) (c : Claimed) (bytes : List ℕ) (space : Space) (t : Tenant) → AreAdmitted w → c.number ≡ length w.tenants → ArrivesSeeing place c bytes w.space space → AreAdmitted (record w { tenants = w.tenants ++ Some t ∷ []; space = space })
arrives_below w place c bytes space t below next arrives = search (rules, ℕ, here_or, below_claimed, below_kept, length-append)

lets_in_below : (w w2 : World) (k : ℕ) (p : Params) (place number : ℕ) → AreAdmitted w → LetsIn w k p place number w2 → AreAdmitted w2
lets_in_below w w2 k p place number below a = subst AreAdmitted (sym a.after) (arrives_below w place (promised number p) _ a.space _ below a.next a.arrives)

admit_below : (w w2 : World) (k : ℕ) (p : Params) (answer : happens.AdmitAnswer) → AreAdmitted w → happens.IsAdmit w k p answer w2 → AreAdmitted w2
admit_below w w2 k p answer below (happens.is_admitted {id = id} a) = lets_in_below w w2 k p id.place id.number below a
admit_below w w2 k p answer below (happens.isnt_admitted r) = below
admit_below w w2 k p answer below (happens.no_memory_to_admit r) = below

invoke_below : (w w2 : World) (id : InstId) (name : List ℕ) (given : List ℤ) (fuel : ℕ) (answer : happens.InvokeAnswer) → AreAdmitted w → happens.IsInvoke w id name given fuel answer w2 → AreAdmitted w2
invoke_below w w2 id name given fuel answer below (happens.is_invoked {t2 = t2} there l a) = same_count w id.number (Some t2) w.space below
invoke_below w w2 id name given fuel answer below (happens.has_no_instance n) = below
invoke_below w w2 id name given fuel answer below (happens.isnt_invoked a l f) = below
invoke_below w w2 id name given fuel answer below (happens.no_memory_to_invoke a l f) = below

refuel_below : (w w2 : World) (id : InstId) (n : ℕ) (answer : happens.CallAnswer) → AreAdmitted w → happens.IsRefuel w id n answer w2 → AreAdmitted w2
refuel_below w w2 id n answer below (happens.is_refueled {t2 = t2} there r) = same_count w id.number (Some t2) w.space below
refuel_below w w2 id n answer below (happens.no_one_to_refuel x) = below
refuel_below w w2 id n answer below (happens.no_call_to_refuel x y) = below

cancels_steps : {s s2 : Space} {t t2 : Tenant} → Cancels s t s2 t2 → Apart t.place s s2
cancels_steps (requests.ends x l p c) = apart_steps l.steps

cancel_below : (w w2 : World) (id : InstId) (answer : happens.CallAnswer) → IsGood w → AreAdmitted w → happens.IsCancel w id answer w2 → AreAdmitted w2
cancel_below w w2 id answer good below (happens.is_cancelled {t = t} {t2 = t2} {s2 = s2} live c) = turned_below w id t (Some t2) s2 good below live (cancels_steps c)
cancel_below w w2 id answer good below (happens.no_one_to_cancel x) = below
cancel_below w w2 id answer good below (happens.no_call_to_cancel x y) = below

retry_below : (w w2 : World) (id : InstId) (answer : happens.CallAnswer) → AreAdmitted w → happens.IsRetry w id answer w2 → AreAdmitted w2
retry_below w w2 id answer below (happens.is_retried {t2 = t2} there r) = same_count w id.number (Some t2) w.space below
retry_below w w2 id answer below (happens.no_one_to_retry x) = below
retry_below w w2 id answer below (happens.no_fault_to_retry x y) = below

goes_below : (w w2 : World) (i : ℕ) (t : Tenant) (output : List ℕ) → AreAdmitted w → LetsGo w i t output w2 → AreAdmitted w2
goes_below w w2 i t output below r = search rules

release_below : (w w2 : World) (id : InstId) (answer : Option (List ℕ)) → AreAdmitted w → happens.IsRelease w id answer w2 → AreAdmitted w2
release_below w w2 id answer below (happens.is_released {t = t} {output = output} there r) = goes_below w w2 id.number t output below r
release_below w w2 id answer below (happens.no_one_to_release x) = below

fork_below : (w w2 : World) (id : InstId) (q : Quota) (answer : happens.ForkAnswer) → IsSound w.space → AreAdmitted w → happens.IsFork w id q answer w2 → AreAdmitted w2
fork_below w w2 id q answer sound below (happens.is_forked {t = t} {new = new} live f) = subst AreAdmitted (sym f.after) (arrives_below w new.place (promised new.number (with_quota t.params q)) _ f.space _ below f.next (copies_arrive w.space t.place new.place (promised new.number (with_quota t.params q)) f.space sound f.copies))
fork_below w w2 id q answer sound below (happens.no_one_to_fork x) = below
fork_below w w2 id q answer sound below (happens.isnt_forked x y) = below
fork_below w w2 id q answer sound below (happens.no_memory_to_fork x y) = below

unload_below : (w w2 : World) (k : ℕ) (answer : happens.UnloadAnswer) → AreAdmitted w → happens.IsUnload w k answer w2 → AreAdmitted w2
unload_below w w2 k answer below (happens.is_unloaded l) = subst AreAdmitted (sym l.after) below
unload_below w w2 k answer below (happens.no_module_to_unload none) = below
unload_below w w2 k answer below (happens.is_in_use i l x y) = below

moves_below : (w w2 : World) (id : InstId) (awaits : Tenant → Type 0) (fault : Option SwapError) → AreAdmitted w → MovesPages w id awaits fault w2 → AreAdmitted w2
moves_below w w2 id awaits fault below (moved {s2 = s2} same which) = below_all (length w.tenants) w.space s2 below same
moves_below w w2 id awaits fault below (has_failed {s2 = s2} same is live waits) = same_count w id.number _ s2 (below_all (length w.tenants) w.space s2 below same)

only_below : (w w2 : World) → AreAdmitted w → OnlyMoves w w2 → AreAdmitted w2
only_below w w2 below h = subst AreAdmitted (sym h.2) (below_all (length w.tenants) w.space h.0 below h.1)

event_below : (w w2 : World) (e : Event) → IsGood w → AreAdmitted w → Happens w e w2 → AreAdmitted w2
event_below w w2 (turn id q) good below h = turn_below w w2 id q h.0 good below h.1
event_below w w2 (load bytes) good below h = load_below w w2 bytes h.0 below h.1
event_below w w2 (admit k p) good below h = admit_below w w2 k p h.0 below h.1
event_below w w2 (invoke id name given fuel) good below h = invoke_below w w2 id name given fuel h.0 below h.1
event_below w w2 (refuel id n) good below h = refuel_below w w2 id n h.0 below h.1
event_below w w2 (cancel id) good below h = cancel_below w w2 id h.0 good below h.1
event_below w w2 (retry id) good below h = retry_below w w2 id h.0 below h.1
event_below w w2 (release id) good below h = release_below w w2 id h.0 below h.1
event_below w w2 (fork id q) good below h = fork_below w w2 id q h.0 good.sound below h.1
event_below w w2 (unload k) good below h = unload_below w w2 k h.0 below h.1
event_below w w2 (offer page hash) good below h = only_below w w2 below h
event_below w w2 (evict_begin id) good below h = only_below w w2 below h
event_below w w2 (evict_commit id call fault) good below h = moves_below w w2 id (AwaitsFrameFor call) fault below h
event_below w w2 (fetch_begin id) good below h = only_below w w2 below h
event_below w w2 (fetch_commit id call fault) good below h = moves_below w w2 id (AwaitsFrameFor call) fault below h
event_below w w2 (provide id fault) good below h = moves_below w w2 id AwaitsFrame fault below h
event_below w w2 epoch good below h = only_below w w2 below h

pub run_below : (events : List Event) (w w2 : World) → IsGood w → AreAdmitted w → AllHappen w events w2 → AreAdmitted w2
run_below [] w w2 good below r = subst AreAdmitted (sym r) below
run_below (e ∷ events) w w2 good below r = run_below events r.0 w2 (events_keep Kept kept_up w r.0 e good r.1) (event_below w r.0 e good below r.1) r.2

pub none_admitted : (frames slots : ℕ) (tax : Tax) → AreAdmitted (empty_world frames slots tax)
none_admitted frames slots tax = record { each = λ j x e. absurd (cc e) }

-- so the next number is nobody's
pub next_is_fresh : (w : World) → AreAdmitted w → (j : ℕ) (t : Occupant) → occupant_at w.space j t → t.number ≢ length w.tenants
next_is_fresh w below j t is e =
    let there : promise_at w.space j ≡ Some (record { number = t.number; min = t.min; max = t.max }) = ap promised_to (get_or_is w.space.occupants j (Some t) None is) in
    let less = below.each j _ there in
    absurd (omega (arith, less, e))
