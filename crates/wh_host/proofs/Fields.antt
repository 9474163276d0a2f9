-- A host whose fields are at hand, and what a request that does nothing leaves of it.
use Rattle.std.proofs.Common.{◌≡◌, ◌≢◌, ℕ, Some, None, slice_set, sym, subst, ◌∙◌, rules}
use Rattle.wh_space_model.specs.declared.plain.InstId.{InstId}
use Rattle.wh_host_model.specs.Host.{IsLive, NoInstance, Tenant, World}
use Rattle.wh_instance.specs.OwnerRequests.{OfAnyTenant}
use Rattle.wh_instance.specs.Tenancy.{HostInstanceState}
use Rattle.wh_host.specs.declared.host.Host.TheInside.{Inside}
use Rattle.wh_host.specs.declared.parts.InstanceEntry.{InstanceEntry}
use Rattle.wh_model.specs.declared.memory.Need.{Need}
use Rattle.wh_host.specs.Paging.{WaitsFor}
use Rattle.wh_host.specs.Hosting.{HostState, IsHost, entry_at}
use Rattle.wh_host.proofs.Hosts.{kept_back, of_who_is_there, put_back, somebody_else}

-- the host of these fields
abbrev pub host_of : Inside → HostState
host_of i = record { modules = i.modules.slots; module_refs = i.module_refs.items; entries = i.entries.slots; live = i.live; space = i.memory; next = i.next; next_module = i.next_module; counts = i.counts }

-- the same host represents the same world
pub shown_host : {h h2 : HostState} (w : World) → h2 ≡ h → IsHost h w → IsHost h2 w
shown_host w same st = subst (λ z. IsHost z w) (sym same) st

pub some_host : {h h2 : HostState} → h2 ≡ h → (w : World) × IsHost h w → (w : World) × IsHost h2 w
some_host same some = (some.0, shown_host some.0 same some.1)

-- who was looked at is put back
pub back_there : (h : HostState) (w : World) (place : ℕ) (x : InstanceEntry) {h0 : HostState} → h ≡ h0 → IsHost h0 w → entry_at h.entries place ≡ Some x → IsHost (record h { entries = slice_set h.entries place (Some x) }) w
back_there h w place x same st at = shown_host w (put_back h place x at ∙ same) st

pub still_waits : {h h2 : HostState} (id : InstId) (need : Need) → h2 ≡ h → WaitsFor h id need → WaitsFor h2 id need
still_waits id need same waits = subst (λ z. WaitsFor z id need) (sym same) waits

-- nobody is at that place
pub nobody_there : (h : HostState) (w : World) (id : InstId) {h0 : HostState} → h ≡ h0 → IsHost h0 w → entry_at h.entries id.place ≡ None → NoInstance w id × IsHost h w
nobody_there h w id same st none = search rules

-- somebody else is, and is put back
pub another_there : (h : HostState) (w : World) (id : InstId) (x : InstanceEntry) {h0 : HostState} → h ≡ h0 → IsHost h0 w → entry_at h.entries id.place ≡ Some x → x.number ≢ Some id.number
    → NoInstance w id × IsHost (record h { entries = slice_set h.entries id.place (Some x) }) w
another_there h w id x same st at other = search (rules, shown_host, somebody_else, back_there)

-- the one who is meant is, and stays as it was
pub unmoved_there : (h : HostState) (w : World) (id : InstId) (x : InstanceEntry) (z : HostInstanceState) (P : Tenant → Type 0) {h0 : HostState} → h ≡ h0 → IsHost h0 w → entry_at h.entries id.place ≡ Some x → x.number ≡ Some id.number
    → OfAnyTenant x.tenant (λ l limit bytes t. P t) → z ≡ x.tenant
    → (t : Tenant) × IsLive w id t × P t × IsHost (record h { entries = slice_set h.entries id.place (Some (record x { tenant = z })) }) w
unmoved_there h w id x z P same st at number asked stays =
    let here = shown_host w same st in
    let who = of_who_is_there h w id x P here at number asked in
    (who.0, who.1, who.2, shown_host w (kept_back h id.place x z stays at) here)
