-- Which events can happen to any host that is reached.
use Rattle.std.specs.Prelude.{◌≡◌, ℕ, ◌<◌, ◌≤◌, List, [], ◌∷◌, Some, ℤ}
use Rattle.wh_model.specs.Format.Syntax.{Module}
use Rattle.wh_space_model.specs.declared.plain.InstId.{InstId}
use Rattle.wh_host_model.specs.declared.plain.TurnEnd.{TurnEnd}
use Rattle.wh_host_model.specs.declared.plain.TurnEnd.TheVariants.{Idle, Fuel}
use Rattle.wh_host_model.specs.Host.Worlds.{Tenant, Loaded, World, for_fuel, with_tenant, loaded_of}
use Rattle.wh_host_model.specs.Owners.{Entry}
use Rattle.wh_host_model.specs.Owners.{ForkFault, Params, Quota, given_of, AdmitFault, most_modules, InvokeFault, most_fuel}
use Rattle.wh_host_model.specs.Host.OwnerCalls.{Meets}
use Rattle.wh_model.specs.Execution.Instance.{AreGiven}
use Rattle.wh_space_model.specs.Parts.{Space}
use Rattle.wh_model.specs.Linking.Accepting.{IsAccepted}
use Rattle.wh_host_model.specs.Host.Admission.{IsUnused, MeetsFault, module_count}
use Rattle.wh_host_model.specs.Host.Events.{Event}
use Rattle.wh_host_model.specs.Host.Happens.{Happens, IsLive, IsTurn, IsLoad, load_ok, IsAdmit, admit_ok, IsInvoke, invoke_ok, IsFork, fork_ok, IsUnload, unload_ok}
use Rattle.wh_host_model.specs.Host.Forking.{MeetsForkFault}
use Rattle.wh_host_model.specs.Host.Laws.{AfterEvents}
use Rattle.wh_host_model.specs.Host.TakenSteps.{IsStepReady, HasGoneOn}

-- whatever is asked for can happen, with some answer
abbrev pub EventsHappen : Type 0
EventsHappen = AfterEvents (λ w. (e : Event) → (w2 : World) × Happens w e w2)

-- a module that is right can be loaded, while there is room for one more
abbrev pub LoadsAreTaken : Type 0
LoadsAreTaken =
    AfterEvents (λ w. (bytes : List ℕ) (m : Module) → IsAccepted bytes m → module_count w.modules < most_modules
    → (number : ℕ) × (w2 : World) × IsLoad w bytes (load_ok number) w2)

-- an instance of a module that was loaded can be admitted where no fault is met, with any parameters that are in range
abbrev pub AdmissionsAreTaken : Type 0
AdmissionsAreTaken =
    AfterEvents (λ w. (k : ℕ) (p : Params) → AreGiven (given_of p) → p.fuel ≤ most_fuel
    → ((fault : AdmitFault) → ¬ (MeetsFault w k p fault))
    → (id : InstId) × (w2 : World) × IsAdmit w k p (admit_ok id) w2)

-- and a new call that meets no fault can be accepted
abbrev pub CallsAreTaken : Type 0
CallsAreTaken =
    AfterEvents (λ w. (id : InstId) (name : List ℕ) (given : List ℤ) (fuel : ℕ) (t : Tenant) (l : Loaded)
    → IsLive w id t → loaded_of w t.of ≡ Some l
    → ((fault : InvokeFault) → ¬ (Meets l.m t name given fault)) → fuel ≤ most_fuel
    → (at : ℕ) × (w2 : World) × IsInvoke w id name given fuel (invoke_ok at) w2)

-- an instance can be copied where no fault is met, and no frame is taken for its copy, nor is one written
abbrev pub ForksAreTaken : Type 0
ForksAreTaken =
    AfterEvents (λ w. (id : InstId) (q : Quota) (t : Tenant) → IsLive w id t
    → ((fault : ForkFault) → ¬ (MeetsForkFault w t q fault))
    → (new : InstId) × (w2 : World) × IsFork w id q (fork_ok new) w2 × (w2.space.pool ≡ w.space.pool))

-- and a module that no instance is of can go
abbrev pub UnloadsAreTaken : Type 0
UnloadsAreTaken =
    AfterEvents (λ w. (k : ℕ) (l : Loaded) → loaded_of w k ≡ Some l → IsUnused w k
    → (w2 : World) × IsUnload w k unload_ok w2)

-- a turn of an instance that is gone or has no open call is answered Idle
abbrev pub IdleTurnsHappen : Type 0
IdleTurnsHappen =
    AfterEvents (λ w. (id : InstId) (q : ℕ) → ((t : Tenant) → IsLive w id t → t.open_calls ≡ [])
    → (w2 : World) × IsTurn w id q Idle w2)

-- and one of an instance that waits for fuel is answered Fuel again
abbrev pub FuelTurnsHappen : Type 0
FuelTurnsHappen =
    AfterEvents (λ w. (id : InstId) (q : ℕ) (t : Tenant) → IsLive w id t → t.waiting_for ≡ Some for_fuel
    → (w2 : World) × IsTurn w id q Fuel w2)

-- and where the next step is ready, a piece or a charge, a turn can happen that takes it
abbrev pub ReadyTurnsHappen : Type 0
ReadyTurnsHappen =
    AfterEvents (λ w. (id : InstId) (q : ℕ) (t : Tenant) (e : Entry) (es : List Entry)
    → IsLive w id t → t.open_calls ≡ e ∷ es → IsStepReady q w.space t e
    → (answer : TurnEnd) × (s2 : Space) × (t2 : Tenant)
    × IsTurn w id q answer (with_tenant w id.number (Some t2) s2) × HasGoneOn t t2 e)
