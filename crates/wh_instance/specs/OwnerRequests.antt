-- What the owner's requests do to an instance.
use Rattle.std.specs.Prelude.{◌≡◌, ◌<◌, ℕ, List, [], ◌∷◌, Option, Some}
use Rattle.wh_model.specs.Execution.Replay.{cancelled}
use Rattle.wh_space_model.specs.Parts.{Space, view}
use Rattle.wh_space_model.specs.declared.plain.SwapError.{SwapError}
use Rattle.wh_host_model.specs.Host.Worlds.{Tenant, for_device}
use Rattle.wh_host_model.specs.Owners.{Entry}
use Rattle.wh_host_model.specs.Host.CallAnswers.{ended_by, Closes}
use Rattle.wh_host_model.specs.Host.OwnerCalls.{Refuels, Retries}
use Rattle.wh_host_model.specs.Host.Happens.{AwaitsFrame}
use Rattle.wh_imports.specs.LinkedState.{LinkedState}
use Rattle.wh_journal.specs.Calls.{JournalCallState}
use Rattle.wh_instance.specs.declared.stages.Suspension.{Suspension}
use Rattle.wh_instance.specs.declared.stages.Suspension.TheVariants as stop
use Rattle.wh_instance.specs.Tenancy.{HostInstanceState, IsTenant}

-- a call that waits for fuel has some
abbrev pub HasFuelAgain : Option Suspension → JournalCallState → Type 0
HasFuelAgain stands c = (stands ≡ Some stop.Fuel) × (c.charges < c.fuel)

-- for whatever instance it stands, of which module and over which bytes
abbrev pub OfAnyTenant : HostInstanceState → (LinkedState → ℕ → List ℕ → Tenant → Type 0) → Type 0
OfAnyTenant x P =
    (l : LinkedState) (limit : ℕ) (bytes : List ℕ) (t : Tenant) → IsTenant l limit x bytes t → P l limit bytes t

-- no call of it is open
abbrev pub HasNoOpenCall : HostInstanceState → Type 0
HasNoOpenCall x = OfAnyTenant x (λ l limit bytes t. t.open_calls ≡ [])

-- its present call has n more fuel
abbrev pub RefuelsTenant : HostInstanceState → ℕ → HostInstanceState → Type 0
RefuelsTenant x n x2 =
    OfAnyTenant x (λ l limit bytes t. (t2 : Tenant) × Refuels t n t2 × IsTenant l limit x2 bytes t2)

-- its present call waits for a device fault, and may be tried again
abbrev pub RetriesTenant : HostInstanceState → HostInstanceState → Type 0
RetriesTenant x x2 = OfAnyTenant x (λ l limit bytes t. (t2 : Tenant) × Retries t t2 × IsTenant l limit x2 bytes t2)

-- none does
abbrev pub CannotRetry : HostInstanceState → Type 0
CannotRetry x = OfAnyTenant x (λ l limit bytes t. (t2 : Tenant) → ¬ (Retries t t2))

-- its present call waits for a frame, and this device fault is kept with it
abbrev pub FailsTenant : HostInstanceState → SwapError → HostInstanceState → Type 0
FailsTenant x fault x2 =
    OfAnyTenant x (λ l limit bytes t. AwaitsFrame t
    × IsTenant l limit x2 bytes (record t { waiting_for = Some (for_device fault) }))

-- it isn't blocked on one
abbrev pub AwaitsNoFrame : HostInstanceState → Type 0
AwaitsNoFrame x = OfAnyTenant x (λ l limit bytes t. ¬ (AwaitsFrame t))

-- Its present call ends where it is; what it has written stays. It is closed over whatever space shows these bytes.
abbrev pub CancelsTenant : HostInstanceState → HostInstanceState → Type 0
CancelsTenant x x2 =
    OfAnyTenant x (λ l limit bytes t. (s : Space) → view s t.place ≡ bytes
    → (e : Entry) × (es : List Entry) × (t2 : Tenant) × (t.open_calls ≡ e ∷ es)
    × Closes s t (ended_by e cancelled) es t.rest t2 × IsTenant l limit x2 bytes t2)
