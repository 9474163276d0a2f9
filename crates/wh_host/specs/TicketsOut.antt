-- Pages in transit under a host: tickets that are out, and what is left when they come back.
use Rattle.std.specs.Prelude.{◌≡◌, ℕ, ◌⊎◌, Bool, List, [], length, slice_get, slice_set, Option, Some, None, Result, Ok, Err}
use Rattle.wh_space_model.specs.declared.plain.InstId.{InstId}
use Rattle.wh_space_model.specs.declared.plain.SwapError.{SwapError}
use Rattle.wh_space_model.specs.declared.states.EvictEnd.{EvictEnd}
use Rattle.wh_space_model.specs.declared.states.EvictEnd.TheVariants as evict
use Rattle.wh_space_model.specs.declared.states.FetchEnd.{FetchEnd}
use Rattle.wh_space_model.specs.declared.states.FetchEnd.TheVariants as fetch
use Rattle.wh_space_model.specs.Errands.{Errand, pass_of}
use Rattle.wh_space_model.specs.Parts.{Space}
use Rattle.wh_space_model.specs.Tickets.{CommitsEvict, IsWritten}
use Rattle.wh_host_model.specs.Host.Worlds.{Tenant, World, for_device}
use Rattle.wh_host_model.specs.Host.Happens.{AwaitsFrameFor, IsLive}
use Rattle.wh_instance.specs.OwnerRequests.{OfAnyTenant}
use Rattle.wh_instance.specs.Tenancy.{IsTenant, HostInstanceState}
use Rattle.wh_host.specs.declared.parts.InstanceEntry.{InstanceEntry}
use Rattle.wh_host.specs.declared.transit.Eviction.{Eviction}
use Rattle.wh_host.specs.declared.transit.Fetch.{Fetch}
use Rattle.wh_host.specs.Hosting.{HostState, IsHost, entry_at}

-- a ticket is out for the slot, void or not, to write it or to read it
abbrev pub IsOut : Space → ℕ → Errand → Type 0
IsOut s k errand = slice_get (pass_of s).out k ≡ Some (Some errand)

-- the slot that was begun to be written, with its bytes, and the one that was begun to be read
abbrev pub slot_to_write : {B : Type 0} → Result Eviction B → Option ℕ
slot_to_write (Ok eviction) = Some eviction.ticket.slot
slot_to_write (Err buf) = None

abbrev pub bytes_to_write : {B : Type 0} → Result Eviction B → List ℕ
bytes_to_write (Ok eviction) = eviction.ticket.bytes
bytes_to_write (Err buf) = []

abbrev pub slot_to_read : {B : Type 0} → Result Fetch B → Option ℕ
slot_to_read (Ok fetched) = Some fetched.ticket.slot
slot_to_read (Err buf) = None

-- the present call of the instance is at this place of its journal
abbrev pub IsPresentCall : HostState → InstId → ℕ → Type 0
IsPresentCall h id call = (w : World) → IsHost h w → (t : Tenant) → IsLive w id t → length t.ended ≡ call

-- the slot was written, or not, and its ticket comes back
abbrev pub EndsEvict : Space → ℕ → Bool → List ℕ → EvictEnd → Space → Type 0
EndsEvict s k wrote bytes end s2 = (mid : Space) × IsWritten s k bytes wrote mid × CommitsEvict mid k wrote bytes end s2

-- the fault of the device, where that is the outcome of the ticket
abbrev pub evict_fault : EvictEnd → Result Unit SwapError → Option SwapError
evict_fault evict.Failed (Err fault) = Some fault
evict_fault end device = None

abbrev pub fetch_fault : FetchEnd → Result Unit SwapError → Option SwapError
fetch_fault fetch.Failed (Err fault) = Some fault
fetch_fault end device = None

-- the fault is kept with this call of the instance, which waits for a frame
pub record HasKept (rs : List (Option InstanceEntry)) (id : InstId) (call : ℕ) (fault : SwapError)
    (rs2 : List (Option InstanceEntry)) : Type 0 where
  pub entry : InstanceEntry
  pub there : entry_at rs id.place ≡ Some entry
  pub number : entry.number ≡ Some id.number
  pub tenant : HostInstanceState
  pub keeps : OfAnyTenant entry.tenant (λ l limit bytes t. AwaitsFrameFor call t
      × IsTenant l limit tenant bytes (record t { waiting_for = Some (for_device fault) }))
  pub after : rs2 ≡ slice_set rs id.place (Some (record entry { tenant = tenant }))

-- the instance isn't there, its present call is another one, or it doesn't wait for a frame
abbrev pub NoneAwaits : List (Option InstanceEntry) → InstId → ℕ → Type 0
NoneAwaits rs id call =
    (x : InstanceEntry) → entry_at rs id.place ≡ Some x → x.number ≡ Some id.number
    → OfAnyTenant x.tenant (λ l limit bytes t. ¬ (AwaitsFrameFor call t))

-- it is kept where the call is there, and nothing is done where it isn't
abbrev pub KeepsFault : List (Option InstanceEntry) → InstId → ℕ → Option SwapError → List (Option InstanceEntry) → Type 0
KeepsFault rs id call None rs2 = rs2 ≡ rs
KeepsFault rs id call (Some fault) rs2 = HasKept rs id call fault rs2 ⊎ ((rs2 ≡ rs) × NoneAwaits rs id call)

-- whoever gave up its place had been released
abbrev pub OnlyReleasedGo : List (Option InstanceEntry) → List (Option InstanceEntry) → Type 0
OnlyReleasedGo rs rs2 =
    (place : ℕ) → (entry_at rs2 place ≡ entry_at rs place)
    ⊎ ((entry_at rs2 place ≡ None) × ((x : InstanceEntry) → entry_at rs place ≡ Some x → x.number ≡ None))
