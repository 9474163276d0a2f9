-- Pages that move under a host of many instances: who waits for them, and what the events are.
use Rattle.std.specs.Prelude.{◌≡◌, ℕ, Bool, Option, Some, None, Result, Ok, Err}
use Rattle.std.specs.Bool.{MatchBool}
use Rattle.wh_model.specs.declared.memory.Need.{Need}
use Rattle.wh_space_model.specs.declared.plain.InstId.{InstId}
use Rattle.wh_space_model.specs.declared.plain.SwapError.{SwapError}
use Rattle.wh_space_model.specs.Parts.{wants}
use Rattle.wh_host_model.specs.Host.Worlds.{Tenant, World}
use Rattle.wh_host_model.specs.Host.Happens.{AwaitsFrame, IsLive, MovesPages, OnlyMoves}
use Rattle.wh_host_model.specs.Host.Misreading.{IsMisread}
use Rattle.wh_host_model.specs.Host.Suspensions.{CanGoOn}
use Rattle.wh_host.specs.Hosting.{HostState, IsHost}

-- the instance is there, and its present call waits for a frame
abbrev pub IsAwaiting : World → InstId → Type 0
IsAwaiting w id = (t : Tenant) × IsLive w id t × AwaitsFrame t

-- it is there, and a turn or a provision can make it progress
abbrev pub IsGoing : World → InstId → Type 0
IsGoing w id = (t : Tenant) × IsLive w id t × CanGoOn t

-- so it is told of whatever host the code's represents
abbrev pub Tells : HostState → Bool → (World → Type 0) → Type 0
Tells h told P = (w : World) → IsHost h w → MatchBool told (P w) (¬ (P w))

-- the present call of the instance waits for a frame, and these are the bytes of its next step
abbrev pub WaitsFor : HostState → InstId → Need → Type 0
WaitsFor h id need = (w : World) × IsHost h w × IsAwaiting w id × (wants w.space id.place ≡ Some need)

-- for whatever host it stands, pages have moved, a fault of the device is kept where the instance awaits it, and the
-- code's host represents what is left
abbrev pub MovesWith : HostState → InstId → (Tenant → Type 0) → Option SwapError → HostState → Type 0
MovesWith h id awaits fault h2 =
    (w : World) → IsHost h w → (w2 : World) × MovesPages w id awaits fault w2 × IsHost h2 w2

-- The same whatever bytes the device gave: some instances may see other bytes, as many as before, and so pages have
-- moved.
abbrev pub MovesAnyhow : HostState → InstId → (Tenant → Type 0) → Option SwapError → HostState → Type 0
MovesAnyhow h id awaits fault h2 =
    (w : World) → IsHost h w
    → (mid w2 : World) × IsMisread w mid × MovesPages mid id awaits fault w2 × IsHost h2 w2

-- or nothing but pages has moved
abbrev pub MovesOnly : HostState → HostState → Type 0
MovesOnly h h2 = (w : World) → IsHost h w → (w2 : World) × OnlyMoves w w2 × IsHost h2 w2

-- the fault of a provision
abbrev pub provide_fault : Result ℕ SwapError → Option SwapError
provide_fault (Ok left) = None
provide_fault (Err fault) = Some fault
