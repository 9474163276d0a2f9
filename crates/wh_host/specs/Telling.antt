-- What a host tells of one call.
use Rattle.std.specs.Prelude.{◌≡◌, ◌++◌, ℕ, length, option_map, slice_get, Option, Some, None}
use Rattle.wh_space_model.specs.declared.plain.InstId.{InstId}
use Rattle.wh_host_model.specs.Host.Worlds.{Tenant, World, journal}
use Rattle.wh_host_model.specs.Owners.{Entry}
use Rattle.wh_host_model.specs.Host.Happens.{IsLive, NoInstance as NobodyThere}
use Rattle.wh_journal.specs.Calls.{JournalState}
use Rattle.wh_instance.specs.declared.stages.CallStatus.{CallStatus}
use Rattle.wh_instance.specs.Told.{IsCallStatus, waits_at}
use Rattle.wh_host.specs.Hosting.{HostState, IsHost}

-- The instance is there and has a call at this place of its journal, of which this is told; or there is no such call.
abbrev pub IsTold : World → InstId → ℕ → Option CallStatus → Type 0
IsTold w id at None = (t : Tenant) → IsLive w id t → slice_get (journal t) at ≡ None
IsTold w id at (Some status) =
    (t : Tenant) × (e : Entry) × IsLive w id t × (slice_get (journal t) at ≡ Some e)
    × IsCallStatus status (waits_at (journal t) at) t.waiting_for e.call

-- for whatever host it stands
abbrev pub TellsOf : HostState → InstId → ℕ → Option CallStatus → Type 0
TellsOf h id at told = (w : World) → IsHost h w → IsTold w id at told

-- ---- charges

-- the instance is there and has a call at this place of its journal, which took these charges; or there is no such call
abbrev pub AreChargesTold : World → InstId → ℕ → Option ℕ → Type 0
AreChargesTold w id at None = (t : Tenant) → IsLive w id t → slice_get (journal t) at ≡ None
AreChargesTold w id at (Some charges) =
    (t : Tenant) × (e : Entry) × IsLive w id t × (slice_get (journal t) at ≡ Some e) × (e.call.charges ≡ charges)

-- for whatever host it stands
abbrev pub TellsChargesOf : HostState → InstId → ℕ → Option ℕ → Type 0
TellsChargesOf h id at told = (w : World) → IsHost h w → AreChargesTold w id at told

-- ---- how many calls have ended

-- so many of the instance have, or there is no such instance
abbrev pub IsEndedCount : World → InstId → Option ℕ → Type 0
IsEndedCount w id None = NobodyThere w id
IsEndedCount w id (Some count) = (t : Tenant) × IsLive w id t × (count ≡ length t.ended)

-- for whatever host it stands
abbrev pub CountsEnded : HostState → InstId → Option ℕ → Type 0
CountsEnded h id count = (w : World) → IsHost h w → IsEndedCount w id count

-- within the crate: what the code has of it
abbrev pub charges_in_journal : JournalState → ℕ → Option ℕ
charges_in_journal j at = option_map (λ c. c.charges) (slice_get (j.ended ++ j.open_calls) at)
