-- No event changes number, minimum or maximum of whoever has a place.
use Rattle.std.proofs.Common.{◌≡◌, ◌⊎◌, ℕ, ℤ, zero, suc, inl, inr, List, [], ◌∷◌, Option, Some, None, length, get_or, slice_get, refl, sym, ap, subst, ◌∙◌, arith, rules}
use Rattle.wh_space_model.specs.declared.plain.InstId.{InstId}
use Rattle.wh_space_model.specs.declared.plain.SwapError.{SwapError}
use Rattle.wh_host_model.specs.declared.plain.TurnEnd.{TurnEnd}
use Rattle.wh_space_model.specs.{Claimed, Occupant, Promised, Space, claim, promise_at, promised_to, IsSound}
use Rattle.wh_host_model.specs.Host.{AllLeftAlone, ArrivesSeeing, KeepsPromise, Tenant, World, empty_world, promised, LetsGo, LetsIn, Event, turn, load, admit, invoke, refuel, cancel, retry, release, fork, unload, offer, evict_begin, evict_commit, fetch_begin, fetch_commit, provide, epoch, AwaitsFrame, AwaitsFrameFor, IsTurn, MovesPages, OnlyMoves, has_failed, moved, of_none, of_one, KeepsPromises, PromisesAreKept}
use Rattle.wh_host_model.specs.{Params, Quota, with_quota}
use Rattle.wh_host_model.specs.Host.OwnerCalls as requests
use Rattle.wh_host_model.specs.Host.Happens as happens
use Rattle.wh_host_model.specs.Host.Happens.{Happens}
use Rattle.wh_host_model.proofs.Host.Empty.{good_empty}
use Rattle.wh_host_model.proofs.Host.Opening.{Apart, apart_steps}
use Rattle.wh_host_model.proofs.Host.Running.{IsGood, good_run, turn_apart}
use Rattle.wh_space_model.proofs.Putting.{here_or}
use Rattle.wh_host_model.proofs.Host.Arriving.{copies_arrive}

-- ---- one place

kept_self : (s s2 : Space) → s2 ≡ s → KeepsPromises s s2
kept_self s s2 same j x is = inl (ap (λ (z : Space). promise_at z j) same ∙ is)

kept_at : (j : ℕ) (s s2 : Space) (x : Promised) → KeepsPromise j s s2 → promise_at s j ≡ Some x → (promise_at s2 j ≡ Some x) ⊎ (promise_at s2 j ≡ None)
kept_at j s s2 x (inl same) is = inl (same ∙ is)
kept_at j s s2 x (inr none) is = inr none

kept_apart : (s s2 : Space) (i : ℕ) (c : Claimed) → claim s i ≡ Some c → Apart i s s2 → KeepsPromises s s2
kept_apart s s2 i c claims apart j x is = search rules

kept_all : (s s2 : Space) → AllLeftAlone s s2 → KeepsPromises s s2
kept_all s s2 same j x is = let alike = same.0 j in kept_at j s s2 x alike.promise is

none_promised : (xs : List (Option Occupant)) (i : ℕ) → (slice_get xs i ≡ Some None) ⊎ (i ≡ length xs) → promised_to (get_or xs i None) ≡ None
none_promised [] i h = refl
none_promised (x ∷ xs) zero (inl e) = (let none : x ≡ None = cc e in ap promised_to none)
none_promised (x ∷ xs) zero (inr e) = absurd (omega (arith, e))
none_promised (x ∷ xs) (suc i) (inl e) = none_promised xs i (inl e)
none_promised (x ∷ xs) (suc i) (inr e) = none_promised xs i (inr (omega (arith, e)))

-- ---- each event

turn_kept : (w w2 : World) (id : InstId) (q : ℕ) (answer : TurnEnd) → IsGood w → IsTurn w id q answer w2 → KeepsPromises w.space w2.space
turn_kept w w2 id q answer good (of_none none) = kept_self w.space w.space refl
turn_kept w w2 id q answer good (of_one {t = t} {s2 = s2} live turned) =
    let fine = good.each id.number t live.0 in
    kept_apart w.space s2 t.place (promised id.number t.params) fine.claimed (turn_apart good.sound turned).0

load_kept : (w w2 : World) (bytes : List ℕ) (answer : happens.LoadAnswer) → happens.IsLoad w bytes answer w2 → KeepsPromises w.space w2.space
load_kept w w2 bytes answer (happens.is_loaded l) = kept_self w.space w2.space (ap (λ (z : World). z.space) l.after)
load_kept w w2 bytes answer (happens.isnt_loaded r) = kept_self w.space w.space refl
load_kept w w2 bytes answer (happens.no_memory_to_load r) = kept_self w.space w.space refl

arrives_kept : (s s2 : Space) (place : ℕ) (c : Claimed) (bytes : List ℕ) → ArrivesSeeing place c bytes s s2 → KeepsPromises s s2
arrives_kept s s2 place c bytes arrives j x is = search (rules, here_or, kept_at, none_promised)

lets_in_kept : (w w2 : World) (k : ℕ) (p : Params) (place number : ℕ) → LetsIn w k p place number w2 → KeepsPromises w.space w2.space
lets_in_kept w w2 k p place number a = subst (λ (z : World). KeepsPromises w.space z.space) (sym a.after) (arrives_kept w.space a.space place (promised number p) _ a.arrives)

fork_kept : (w w2 : World) (id : InstId) (q : Quota) (answer : happens.ForkAnswer) → IsSound w.space → happens.IsFork w id q answer w2 → KeepsPromises w.space w2.space
fork_kept w w2 id q answer sound (happens.is_forked {t = t} {new = new} live f) = subst (λ (z : World). KeepsPromises w.space z.space) (sym f.after) (arrives_kept w.space f.space new.place (promised new.number (with_quota t.params q)) _ (copies_arrive w.space t.place new.place (promised new.number (with_quota t.params q)) f.space sound f.copies))
fork_kept w w2 id q answer sound (happens.no_one_to_fork x) = kept_self w.space w.space refl
fork_kept w w2 id q answer sound (happens.isnt_forked x y) = kept_self w.space w.space refl
fork_kept w w2 id q answer sound (happens.no_memory_to_fork x y) = kept_self w.space w.space refl

unload_kept : (w w2 : World) (k : ℕ) (answer : happens.UnloadAnswer) → happens.IsUnload w k answer w2 → KeepsPromises w.space w2.space
unload_kept w w2 k answer (happens.is_unloaded l) = kept_self w.space w2.space (ap (λ (z : World). z.space) l.after)
unload_kept w w2 k answer (happens.no_module_to_unload none) = kept_self w.space w.space refl
unload_kept w w2 k answer (happens.is_in_use i l x y) = kept_self w.space w.space refl

admit_kept : (w w2 : World) (k : ℕ) (p : Params) (answer : happens.AdmitAnswer) → happens.IsAdmit w k p answer w2 → KeepsPromises w.space w2.space
admit_kept w w2 k p answer (happens.is_admitted {id = id} a) = lets_in_kept w w2 k p id.place id.number a
admit_kept w w2 k p answer (happens.isnt_admitted r) = kept_self w.space w.space refl
admit_kept w w2 k p answer (happens.no_memory_to_admit r) = kept_self w.space w.space refl

invoke_kept : (w w2 : World) (id : InstId) (name : List ℕ) (given : List ℤ) (fuel : ℕ) (answer : happens.InvokeAnswer) → happens.IsInvoke w id name given fuel answer w2 → KeepsPromises w.space w2.space
invoke_kept w w2 id name given fuel answer (happens.is_invoked there l a) = kept_self w.space w.space refl
invoke_kept w w2 id name given fuel answer (happens.has_no_instance n) = kept_self w.space w.space refl
invoke_kept w w2 id name given fuel answer (happens.isnt_invoked a l f) = kept_self w.space w.space refl
invoke_kept w w2 id name given fuel answer (happens.no_memory_to_invoke a l f) = kept_self w.space w.space refl

refuel_kept : (w w2 : World) (id : InstId) (n : ℕ) (answer : happens.CallAnswer) → happens.IsRefuel w id n answer w2 → KeepsPromises w.space w2.space
refuel_kept w w2 id n answer (happens.is_refueled there r) = kept_self w.space w.space refl
refuel_kept w w2 id n answer (happens.no_one_to_refuel x) = kept_self w.space w.space refl
refuel_kept w w2 id n answer (happens.no_call_to_refuel x y) = kept_self w.space w.space refl

cancels_steps : {s s2 : Space} {t t2 : Tenant} → requests.Cancels s t s2 t2 → Apart t.place s s2
cancels_steps (requests.ends x l p c) = apart_steps l.steps

cancel_kept : (w w2 : World) (id : InstId) (answer : happens.CallAnswer) → IsGood w → happens.IsCancel w id answer w2 → KeepsPromises w.space w2.space
cancel_kept w w2 id answer good (happens.is_cancelled {t = t} {s2 = s2} live c) = let fine = good.each id.number t live.0 in kept_apart w.space s2 t.place (promised id.number t.params) fine.claimed (cancels_steps c)
cancel_kept w w2 id answer good (happens.no_one_to_cancel x) = kept_self w.space w.space refl
cancel_kept w w2 id answer good (happens.no_call_to_cancel x y) = kept_self w.space w.space refl

retry_kept : (w w2 : World) (id : InstId) (answer : happens.CallAnswer) → happens.IsRetry w id answer w2 → KeepsPromises w.space w2.space
retry_kept w w2 id answer (happens.is_retried there r) = kept_self w.space w.space refl
retry_kept w w2 id answer (happens.no_one_to_retry x) = kept_self w.space w.space refl
retry_kept w w2 id answer (happens.no_fault_to_retry x y) = kept_self w.space w.space refl

goes_kept : (w w2 : World) (i : ℕ) (t : Tenant) (output : List ℕ) → LetsGo w i t output w2 → KeepsPromises w.space w2.space
goes_kept w w2 i t output r = search rules

release_kept : (w w2 : World) (id : InstId) (answer : Option (List ℕ)) → happens.IsRelease w id answer w2 → KeepsPromises w.space w2.space
release_kept w w2 id answer (happens.is_released {t = t} {output = output} there r) = goes_kept w w2 id.number t output r
release_kept w w2 id answer (happens.no_one_to_release x) = kept_self w.space w.space refl

moves_kept : (w w2 : World) (id : InstId) (awaits : Tenant → Type 0) (fault : Option SwapError) → MovesPages w id awaits fault w2 → KeepsPromises w.space w2.space
moves_kept w w2 id awaits fault (moved {s2 = s2} same which) = kept_all w.space s2 same
moves_kept w w2 id awaits fault (has_failed {s2 = s2} same is live waits) = kept_all w.space s2 same

only_kept : (w w2 : World) → OnlyMoves w w2 → KeepsPromises w.space w2.space
only_kept w w2 h = subst (λ (z : World). KeepsPromises w.space z.space) (sym h.2) (kept_all w.space h.0 h.1)

event_kept : (w w2 : World) (e : Event) → IsGood w → Happens w e w2 → KeepsPromises w.space w2.space
event_kept w w2 (turn id q) good h = turn_kept w w2 id q h.0 good h.1
event_kept w w2 (load bytes) good h = load_kept w w2 bytes h.0 h.1
event_kept w w2 (admit k p) good h = admit_kept w w2 k p h.0 h.1
event_kept w w2 (invoke id name given fuel) good h = invoke_kept w w2 id name given fuel h.0 h.1
event_kept w w2 (refuel id n) good h = refuel_kept w w2 id n h.0 h.1
event_kept w w2 (cancel id) good h = cancel_kept w w2 id h.0 good h.1
event_kept w w2 (retry id) good h = retry_kept w w2 id h.0 h.1
event_kept w w2 (release id) good h = release_kept w w2 id h.0 h.1
event_kept w w2 (fork id q) good h = fork_kept w w2 id q h.0 good.sound h.1
event_kept w w2 (unload k) good h = unload_kept w w2 k h.0 h.1
event_kept w w2 (offer page hash) good h = only_kept w w2 h
event_kept w w2 (evict_begin id) good h = only_kept w w2 h
event_kept w w2 (evict_commit id call fault) good h = moves_kept w w2 id (AwaitsFrameFor call) fault h
event_kept w w2 (fetch_begin id) good h = only_kept w w2 h
event_kept w w2 (fetch_commit id call fault) good h = moves_kept w w2 id (AwaitsFrameFor call) fault h
event_kept w w2 (provide id fault) good h = moves_kept w w2 id AwaitsFrame fault h
event_kept w w2 epoch good h = only_kept w w2 h

pub promises_are_kept : PromisesAreKept
promises_are_kept frames slots tax events w r e w2 happens_so = event_kept w w2 e (good_run events (empty_world frames slots tax) w (good_empty frames slots tax) r) happens_so
