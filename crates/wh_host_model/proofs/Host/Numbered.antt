-- The number of a module is never given again.
use Rattle.std.proofs.Common.{◌≡◌, ℕ, ℤ, zero, suc, ◌<◌, ◌++◌, inl, List, [], ◌∷◌, Option, None, length, get_or, length-append, refl, ap, ◌∙◌, arith, rules}
use Rattle.wh_space_model.specs.declared.plain.InstId.{InstId}
use Rattle.wh_space_model.specs.declared.plain.SwapError.{SwapError}
use Rattle.wh_host_model.specs.declared.plain.TurnEnd.{TurnEnd}
use Rattle.wh_host_model.specs.{Params, Quota}
use Rattle.wh_host_model.specs.Host.{Tenant, World, Event, turn, load, admit, invoke, refuel, cancel, retry, release, fork, unload, offer, evict_begin, evict_commit, fetch_begin, fetch_commit, provide, epoch, IsTurn, MovesPages, has_failed, moved, of_none, of_one, KeepsModules, ModulesAreKept}
use Rattle.wh_host_model.specs.Host.Happens as happens
use Rattle.wh_host_model.specs.Host.Happens.{Happens}

same_modules : (w w2 : World) → w2.modules ≡ w.modules → KeepsModules w w2
same_modules w w2 same = record { grows = let l = ap length same in omega (arith, l); same = λ k less. inl (ap (λ ms. get_or ms k None) same) }

still : {A : Type 0} (xs : List (Option A)) (o : Option A) (k : ℕ) → k < length xs → get_or (xs ++ o ∷ []) k None ≡ get_or xs k None
still [] o k less = absurd (omega (arith, less))
still (x ∷ xs) o zero less = refl
still (x ∷ xs) o (suc k) less = still xs o k (omega (arith, less))

turn_modules : (w w2 : World) (id : InstId) (q : ℕ) (answer : TurnEnd) → IsTurn w id q answer w2 → w2.modules ≡ w.modules
turn_modules w w2 id q answer (of_none none) = refl
turn_modules w w2 id q answer (of_one live t) = refl

load_kept : (w w2 : World) (bytes : List ℕ) (answer : happens.LoadAnswer) → happens.IsLoad w bytes answer w2 → KeepsModules w w2
load_kept w w2 bytes answer (happens.is_loaded l) = search (rules, length-append, still)
load_kept w w2 bytes answer (happens.isnt_loaded r) = same_modules w w refl
load_kept w w2 bytes answer (happens.no_memory_to_load r) = same_modules w w refl

admit_modules : (w w2 : World) (k : ℕ) (p : Params) (answer : happens.AdmitAnswer) → happens.IsAdmit w k p answer w2 → w2.modules ≡ w.modules
admit_modules w w2 k p answer (happens.is_admitted a) = ap (λ (z : World). z.modules) a.after
admit_modules w w2 k p answer (happens.isnt_admitted r) = refl
admit_modules w w2 k p answer (happens.no_memory_to_admit r) = refl

invoke_modules : (w w2 : World) (id : InstId) (name : List ℕ) (given : List ℤ) (fuel : ℕ) (answer : happens.InvokeAnswer) → happens.IsInvoke w id name given fuel answer w2 → w2.modules ≡ w.modules
invoke_modules w w2 id name given fuel answer (happens.is_invoked there l a) = refl
invoke_modules w w2 id name given fuel answer (happens.has_no_instance n) = refl
invoke_modules w w2 id name given fuel answer (happens.isnt_invoked a l f) = refl
invoke_modules w w2 id name given fuel answer (happens.no_memory_to_invoke a l f) = refl

refuel_modules : (w w2 : World) (id : InstId) (n : ℕ) (answer : happens.CallAnswer) → happens.IsRefuel w id n answer w2 → w2.modules ≡ w.modules
refuel_modules w w2 id n answer (happens.is_refueled there r) = refl
refuel_modules w w2 id n answer (happens.no_one_to_refuel x) = refl
refuel_modules w w2 id n answer (happens.no_call_to_refuel x y) = refl

cancel_modules : (w w2 : World) (id : InstId) (answer : happens.CallAnswer) → happens.IsCancel w id answer w2 → w2.modules ≡ w.modules
cancel_modules w w2 id answer (happens.is_cancelled live c) = refl
cancel_modules w w2 id answer (happens.no_one_to_cancel x) = refl
cancel_modules w w2 id answer (happens.no_call_to_cancel x y) = refl

retry_modules : (w w2 : World) (id : InstId) (answer : happens.CallAnswer) → happens.IsRetry w id answer w2 → w2.modules ≡ w.modules
retry_modules w w2 id answer (happens.is_retried there r) = refl
retry_modules w w2 id answer (happens.no_one_to_retry x) = refl
retry_modules w w2 id answer (happens.no_fault_to_retry x y) = refl

release_modules : (w w2 : World) (id : InstId) (answer : Option (List ℕ)) → happens.IsRelease w id answer w2 → w2.modules ≡ w.modules
release_modules w w2 id answer (happens.is_released there r) = ap (λ (z : World). z.modules) r.after
release_modules w w2 id answer (happens.no_one_to_release x) = refl

fork_modules : (w w2 : World) (id : InstId) (q : Quota) (answer : happens.ForkAnswer) → happens.IsFork w id q answer w2 → w2.modules ≡ w.modules
fork_modules w w2 id q answer (happens.is_forked there f) = ap (λ (z : World). z.modules) f.after
fork_modules w w2 id q answer (happens.no_one_to_fork x) = refl
fork_modules w w2 id q answer (happens.isnt_forked x y) = refl
fork_modules w w2 id q answer (happens.no_memory_to_fork x y) = refl

unload_kept : (w w2 : World) (k : ℕ) (answer : happens.UnloadAnswer) → happens.IsUnload w k answer w2 → KeepsModules w w2
unload_kept w w2 k answer (happens.is_unloaded l) = search rules
unload_kept w w2 k answer (happens.no_module_to_unload none) = same_modules w w refl
unload_kept w w2 k answer (happens.is_in_use i l x y) = same_modules w w refl

moves_modules : (w w2 : World) (id : InstId) (awaits : Tenant → Type 0) (fault : Option SwapError) → MovesPages w id awaits fault w2 → w2.modules ≡ w.modules
moves_modules w w2 id awaits fault (moved same which) = refl
moves_modules w w2 id awaits fault (has_failed same is live waits) = refl

event_kept : (w w2 : World) (e : Event) → Happens w e w2 → KeepsModules w w2
event_kept w w2 (turn id q) h = same_modules w w2 (turn_modules w w2 id q h.0 h.1)
event_kept w w2 (load bytes) h = load_kept w w2 bytes h.0 h.1
event_kept w w2 (admit k p) h = same_modules w w2 (admit_modules w w2 k p h.0 h.1)
event_kept w w2 (invoke id name given fuel) h = same_modules w w2 (invoke_modules w w2 id name given fuel h.0 h.1)
event_kept w w2 (refuel id n) h = same_modules w w2 (refuel_modules w w2 id n h.0 h.1)
event_kept w w2 (cancel id) h = same_modules w w2 (cancel_modules w w2 id h.0 h.1)
event_kept w w2 (retry id) h = same_modules w w2 (retry_modules w w2 id h.0 h.1)
event_kept w w2 (release id) h = same_modules w w2 (release_modules w w2 id h.0 h.1)
event_kept w w2 (fork id q) h = same_modules w w2 (fork_modules w w2 id q h.0 h.1)
event_kept w w2 (unload k) h = unload_kept w w2 k h.0 h.1
event_kept w w2 (offer page hash) h = same_modules w w2 (ap (λ (z : World). z.modules) h.2)
event_kept w w2 (evict_begin id) h = same_modules w w2 (ap (λ (z : World). z.modules) h.2)
event_kept w w2 (evict_commit id call fault) h = same_modules w w2 (moves_modules w w2 id _ fault h)
event_kept w w2 (fetch_begin id) h = same_modules w w2 (ap (λ (z : World). z.modules) h.2)
event_kept w w2 (fetch_commit id call fault) h = same_modules w w2 (moves_modules w w2 id _ fault h)
event_kept w w2 (provide id fault) h = same_modules w w2 (moves_modules w w2 id _ fault h)
event_kept w w2 epoch h = same_modules w w2 (ap (λ (z : World). z.modules) h.2)

pub modules_are_kept : ModulesAreKept
modules_are_kept frames slots tax events w r e w2 h = event_kept w w2 e h
