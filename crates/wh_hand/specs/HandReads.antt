-- Why a hand doesn't read bytes of an instance.
use Rattle.std.specs.Prelude.{◌+◌, ◌≤◌, ℕ, length}
use Rattle.wh_space_model.specs.declared.plain.InstId.{InstId}
use Rattle.wh_space_model.specs.Parts.{view}
use Rattle.wh_host_model.specs.Host.Happens.{IsLive}
use Rattle.wh_host_model.specs.Host.Worlds.{Tenant, World}
use Rattle.wh_host.specs.declared.error.ReadError.{ReadError}
use Rattle.wh_host.specs.declared.error.ReadError.TheVariants as reads
use Rattle.wh_host.specs.Hosting.{HostState, IsHost}
use Rattle.wh_host.specs.HostReads.{RefusesRead}
use Rattle.wh_hand.specs.declared.reading.BytesError.{BytesError}
use Rattle.wh_hand.specs.declared.reading.BytesError.TheVariants.{NoInstance, Outside}

-- as the host says it
abbrev pub read_error_of : BytesError → ReadError
read_error_of NoInstance = reads.NoInstance
read_error_of Outside = reads.Outside

-- there is no such instance, or its memory has fewer bytes than up to the last of these
abbrev pub RefusesReadHere : HostState → InstId → (at count : ℕ) → BytesError → Type 0
RefusesReadHere h id at count error = RefusesRead h id at count (read_error_of error)

-- ---- within the crate

-- the instance is there, and has so many bytes from there on, in whatever host it stands for
abbrev pub HasSoManyBytes : HostState → InstId → (at count : ℕ) → Type 0
HasSoManyBytes h id at count =
    (w : World) → IsHost h w → (t : Tenant) × IsLive w id t × (at + count ≤ length (view w.space t.place))
