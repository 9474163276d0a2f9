-- What each event does to a host, and what one after the other do.
use Rattle.std.specs.Prelude.{◌≡◌, ◌⊎◌, ℕ, List, [], ◌∷◌, length, Option, Some, None, ℤ}
use Rattle.wh_host_model.specs.declared.plain.TurnEnd.{TurnEnd}
use Rattle.wh_host_model.specs.declared.plain.TurnEnd.TheVariants.{Idle}
use Rattle.wh_space_model.specs.declared.plain.InstId.{InstId}
use Rattle.wh_space_model.specs.declared.plain.SwapError.{SwapError}
use Rattle.wh_space_model.specs.Parts.{Space}
use Rattle.wh_host_model.specs.Host.Spaces.{AllLeftAlone}
use Rattle.wh_host_model.specs.Host.Worlds.{for_frame, for_device, Tenant, Loaded, World, tenant, with_tenant, loaded_of}
use Rattle.wh_host_model.specs.Owners.{Params, AdmitFault, ForkFault, InvokeFault, Quota}
use Rattle.wh_host_model.specs.Host.CallAnswers.{Turn}
use Rattle.wh_host_model.specs.Host.OwnerCalls.{Meets, IsFirst, TakesCall, Refuels, Cancels, Retries}
use Rattle.wh_host_model.specs.Host.Admission.{LoadFault, RefusesLoad, LoadOutOfMemory, MayRunOut, LoadsModule, MeetsFault, IsFirstMet, LetsIn, LetsGo, LetsModuleGo}
use Rattle.wh_host_model.specs.Host.Forking.{Forks, IsFirstForkFault, MeetsForkFault}
use Rattle.wh_host_model.specs.Host.Events.{Event, turn, load, admit, invoke, refuel, cancel, retry, release, fork, unload, offer, evict_begin, evict_commit, fetch_begin, fetch_commit, provide, epoch}

-- the number is that of a live instance, and it is there
abbrev pub IsLive : World → InstId → Tenant → Type 0
IsLive w id t = (tenant w id.number ≡ Some t) × (t.place ≡ id.place)

-- none is
abbrev pub NoInstance : World → InstId → Type 0
NoInstance w id = (t : Tenant) → ¬ (IsLive w id t)

-- ---- one relation a request, with its answer; at every refusal, out of memory included, the host is as it was

-- a turn
pub data IsTurn (w : World) (id : InstId) (q : ℕ) : TurnEnd → World → Type 0 where
  of_none : NoInstance w id → IsTurn w id q Idle w
  of_one : {t t2 : Tenant} {s2 : Space} {answer : TurnEnd}
      → IsLive w id t → Turn q w.space t answer s2 t2 → IsTurn w id q answer (with_tenant w id.number (Some t2) s2)

pub data LoadAnswer : Type 0 where
  load_ok : (number : ℕ) → LoadAnswer
  load_refused : LoadFault → LoadAnswer
  load_out_of_memory : LoadOutOfMemory → LoadAnswer

pub data IsLoad (w : World) (bytes : List ℕ) : LoadAnswer → World → Type 0 where
  is_loaded : {number : ℕ} {w2 : World} → LoadsModule w bytes number w2 → IsLoad w bytes (load_ok number) w2
  isnt_loaded : {fault : LoadFault} → RefusesLoad w bytes fault → IsLoad w bytes (load_refused fault) w
  no_memory_to_load : {want : LoadOutOfMemory} → MayRunOut w bytes want → IsLoad w bytes (load_out_of_memory want) w

pub data AdmitAnswer : Type 0 where
  admit_ok : InstId → AdmitAnswer
  admit_refused : AdmitFault → AdmitAnswer
  admit_out_of_memory : AdmitAnswer

pub data IsAdmit (w : World) (k : ℕ) (p : Params) : AdmitAnswer → World → Type 0 where
  is_admitted : {id : InstId} {w2 : World} → LetsIn w k p id.place id.number w2 → IsAdmit w k p (admit_ok id) w2
  isnt_admitted : {fault : AdmitFault} → IsFirstMet w k p fault → IsAdmit w k p (admit_refused fault) w
  no_memory_to_admit : ((fault : AdmitFault) → ¬ (MeetsFault w k p fault)) → IsAdmit w k p admit_out_of_memory w

pub data InvokeAnswer : Type 0 where
  invoke_ok : (at : ℕ) → InvokeAnswer
  invoke_no_instance : InvokeAnswer
  invoke_refused : InvokeFault → InvokeAnswer
  invoke_out_of_memory : InvokeAnswer

pub data IsInvoke (w : World) (id : InstId) (name : List ℕ) (given : List ℤ) (fuel : ℕ)
    : InvokeAnswer → World → Type 0 where
  is_invoked : {t t2 : Tenant} {l : Loaded} {at : ℕ}
      → IsLive w id t → loaded_of w t.of ≡ Some l → TakesCall l.m w.space t name given fuel at t2
      → IsInvoke w id name given fuel (invoke_ok at) (with_tenant w id.number (Some t2) w.space)
  has_no_instance : NoInstance w id → IsInvoke w id name given fuel invoke_no_instance w
  isnt_invoked : {t : Tenant} {l : Loaded} {fault : InvokeFault}
      → IsLive w id t → loaded_of w t.of ≡ Some l → IsFirst l.m t name given fault
      → IsInvoke w id name given fuel (invoke_refused fault) w
  no_memory_to_invoke : {t : Tenant} {l : Loaded}
      → IsLive w id t → loaded_of w t.of ≡ Some l → ((fault : InvokeFault) → ¬ (Meets l.m t name given fault))
      → IsInvoke w id name given fuel invoke_out_of_memory w

-- the answers to refuel, cancel and retry
pub data CallAnswer : Type 0 where
  call_ok : CallAnswer
  call_no_instance : CallAnswer
  call_no_call : CallAnswer

pub data IsRefuel (w : World) (id : InstId) (n : ℕ) : CallAnswer → World → Type 0 where
  is_refueled : {t t2 : Tenant} → IsLive w id t → Refuels t n t2
      → IsRefuel w id n call_ok (with_tenant w id.number (Some t2) w.space)
  no_one_to_refuel : NoInstance w id → IsRefuel w id n call_no_instance w
  no_call_to_refuel : {t : Tenant} → IsLive w id t → t.open_calls ≡ [] → IsRefuel w id n call_no_call w

pub data IsCancel (w : World) (id : InstId) : CallAnswer → World → Type 0 where
  is_cancelled : {t t2 : Tenant} {s2 : Space}
      → IsLive w id t → Cancels w.space t s2 t2 → IsCancel w id call_ok (with_tenant w id.number (Some t2) s2)
  no_one_to_cancel : NoInstance w id → IsCancel w id call_no_instance w
  no_call_to_cancel : {t : Tenant} → IsLive w id t → t.open_calls ≡ [] → IsCancel w id call_no_call w

pub data IsRetry (w : World) (id : InstId) : CallAnswer → World → Type 0 where
  is_retried : {t t2 : Tenant} → IsLive w id t → Retries t t2
      → IsRetry w id call_ok (with_tenant w id.number (Some t2) w.space)
  no_one_to_retry : NoInstance w id → IsRetry w id call_no_instance w
  no_fault_to_retry : {t : Tenant} → IsLive w id t → ((t2 : Tenant) → ¬ (Retries t t2)) → IsRetry w id call_no_call w

pub data IsRelease (w : World) (id : InstId) : Option (List ℕ) → World → Type 0 where
  is_released : {t : Tenant} {output : List ℕ} {w2 : World}
      → IsLive w id t → LetsGo w id.number t output w2 → IsRelease w id (Some output) w2
  no_one_to_release : NoInstance w id → IsRelease w id None w

pub data ForkAnswer : Type 0 where
  fork_ok : InstId → ForkAnswer
  fork_no_instance : ForkAnswer
  fork_refused : ForkFault → ForkAnswer
  fork_out_of_memory : ForkAnswer

pub data IsFork (w : World) (id : InstId) (q : Quota) : ForkAnswer → World → Type 0 where
  is_forked : {t : Tenant} {new : InstId} {w2 : World}
      → IsLive w id t → Forks w t q new.place new.number w2 → IsFork w id q (fork_ok new) w2
  no_one_to_fork : NoInstance w id → IsFork w id q fork_no_instance w
  isnt_forked : {t : Tenant} {fault : ForkFault}
      → IsLive w id t → IsFirstForkFault w t q fault → IsFork w id q (fork_refused fault) w
  no_memory_to_fork : {t : Tenant}
      → IsLive w id t → ((fault : ForkFault) → ¬ (MeetsForkFault w t q fault)) → IsFork w id q fork_out_of_memory w

-- the answers to unload
pub data UnloadAnswer : Type 0 where
  unload_ok : UnloadAnswer
  unload_no_module : UnloadAnswer
  unload_in_use : UnloadAnswer

pub data IsUnload (w : World) (k : ℕ) : UnloadAnswer → World → Type 0 where
  is_unloaded : {w2 : World} → LetsModuleGo w k w2 → IsUnload w k unload_ok w2
  no_module_to_unload : loaded_of w k ≡ None → IsUnload w k unload_no_module w
  is_in_use : {l : Loaded} {t : Tenant} (i : ℕ)
      → loaded_of w k ≡ Some l → tenant w i ≡ Some t → t.of ≡ k → IsUnload w k unload_in_use w

-- ---- pages that move

-- its present call waits for a frame, and for no device fault
abbrev pub AwaitsFrame : Tenant → Type 0
AwaitsFrame t = t.waiting_for ≡ Some for_frame

-- and is the one at this place of its journal
abbrev pub AwaitsFrameFor : ℕ → Tenant → Type 0
AwaitsFrameFor call t = AwaitsFrame t × (length t.ended ≡ call)

-- Pages are moved or merged: every journal, store, configuration and view stays, frames, slots and tickets being any
-- that are sound. A device fault is kept with the call for which the device was called, while that is there and waits
-- for a frame.
pub data MovesPages (w : World) (id : InstId) (awaits : Tenant → Type 0) (fault : Option SwapError)
    : World → Type 0 where
  moved : {s2 : Space} → AllLeftAlone w.space s2 → (fault ≡ None) ⊎ ((t : Tenant) → IsLive w id t → ¬ (awaits t))
      → MovesPages w id awaits fault (record w { space = s2 })
  has_failed : {t : Tenant} {e : SwapError} {s2 : Space}
      → AllLeftAlone w.space s2 → fault ≡ Some e → IsLive w id t → awaits t
      → MovesPages w id awaits fault (with_tenant w id.number (Some (record t { waiting_for = Some (for_device e) })) s2)

-- pages are moved or merged, and no device has failed
abbrev pub OnlyMoves : World → World → Type 0
OnlyMoves w w2 = (s2 : Space) × AllLeftAlone w.space s2 × (w2 ≡ record w { space = s2 })

-- ---- events

abbrev pub Happens : World → Event → World → Type 0
Happens w (turn id q) w2 = (answer : TurnEnd) × IsTurn w id q answer w2
Happens w (load bytes) w2 = (answer : LoadAnswer) × IsLoad w bytes answer w2
Happens w (admit k p) w2 = (answer : AdmitAnswer) × IsAdmit w k p answer w2
Happens w (invoke id name given fuel) w2 = (answer : InvokeAnswer) × IsInvoke w id name given fuel answer w2
Happens w (refuel id n) w2 = (answer : CallAnswer) × IsRefuel w id n answer w2
Happens w (cancel id) w2 = (answer : CallAnswer) × IsCancel w id answer w2
Happens w (retry id) w2 = (answer : CallAnswer) × IsRetry w id answer w2
Happens w (release id) w2 = (answer : Option (List ℕ)) × IsRelease w id answer w2
Happens w (fork id q) w2 = (answer : ForkAnswer) × IsFork w id q answer w2
Happens w (unload k) w2 = (answer : UnloadAnswer) × IsUnload w k answer w2
Happens w (offer page hash) w2 = OnlyMoves w w2
Happens w (evict_begin id) w2 = OnlyMoves w w2
Happens w (evict_commit id call fault) w2 = MovesPages w id (AwaitsFrameFor call) fault w2
Happens w (fetch_begin id) w2 = OnlyMoves w w2
Happens w (fetch_commit id call fault) w2 = MovesPages w id (AwaitsFrameFor call) fault w2
Happens w (provide id fault) w2 = MovesPages w id AwaitsFrame fault w2
Happens w epoch w2 = OnlyMoves w w2

-- one event after another
abbrev pub AllHappen : World → List Event → World → Type 0
AllHappen w [] w2 = w2 ≡ w
AllHappen w (e ∷ es) w2 = (mid : World) × Happens w e mid × AllHappen mid es w2
