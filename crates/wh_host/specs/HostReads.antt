-- What a host reads of the memory of one of its instances.
use Rattle.std.specs.Prelude.{◌≡◌, ◌+◌, ◌<◌, ◌≤◌, ℕ, List, [], ◌∷◌, length, Result, Ok, Err}
use Rattle.wh_model.specs.Execution.Store.{bytes_at}
use Rattle.wh_space_model.specs.declared.plain.InstId.{InstId}
use Rattle.wh_space_model.specs.declared.plain.SwapError.{SwapError}
use Rattle.wh_space_model.specs.Parts.{view}
use Rattle.wh_host_model.specs.Host.Worlds.{Tenant, World}
use Rattle.wh_host_model.specs.Host.Happens.{IsLive, NoInstance as NobodyThere}
use Rattle.wh_host.specs.declared.error.ReadError.{ReadError}
use Rattle.wh_host.specs.declared.error.ReadError.TheVariants.{NoInstance, Outside, Device}
use Rattle.wh_host.specs.Hosting.{HostState, IsHost}

-- these bytes are those that the instance sees from this address on, and all are within its memory
abbrev pub SeesBytes : World → InstId → (at : ℕ) → List ℕ → Type 0
SeesBytes w id at bytes =
    (t : Tenant) × IsLive w id t × (at + length bytes ≤ length (view w.space t.place))
    × (bytes ≡ bytes_at (view w.space t.place) at (length bytes))

-- for whatever host it stands
abbrev pub ReadsBytes : HostState → InstId → ℕ → List ℕ → Type 0
ReadsBytes h id at bytes = (w : World) → IsHost h w → SeesBytes w id at bytes

-- there is no such instance, or not so many bytes from there on, or the device failed
abbrev pub IsReadRefused : World → InstId → (at count : ℕ) → ReadError → Type 0
IsReadRefused w id at count NoInstance = NobodyThere w id
IsReadRefused w id at count Outside =
    (t : Tenant) × IsLive w id t × (length (view w.space t.place) < at + count)
IsReadRefused w id at count (Device fault) =
    (t : Tenant) × IsLive w id t × (at + count ≤ length (view w.space t.place))

abbrev pub RefusesRead : HostState → InstId → (at count : ℕ) → ReadError → Type 0
RefusesRead h id at count error = (w : World) → IsHost h w → IsReadRefused w id at count error

-- the fault of the device, if it failed
abbrev pub read_faults : Result Unit ReadError → List SwapError
read_faults (Ok done) = []
read_faults (Err NoInstance) = []
read_faults (Err Outside) = []
read_faults (Err (Device fault)) = fault ∷ []
