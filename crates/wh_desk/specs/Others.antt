-- What isn't a tenant's stays.
use Rattle.std.specs.Prelude.{◌≡◌, ℕ, Some}
use Rattle.wh_space_model.specs.declared.plain.InstId.{InstId}
use Rattle.wh_space_model.specs.Parts.{view}
use Rattle.wh_host_model.specs.Host.Worlds.{Loaded, Tenant, World, loaded_of}
use Rattle.wh_host_model.specs.Host.Happens.{IsLive}
use Rattle.wh_host.specs.Hosting.{HostState, IsHost}
use Rattle.wh_host.specs.declared.parts.ModuleId.{ModuleId}
use Rattle.wh_desk.specs.declared.principal.Principal.{Principal}
use Rattle.wh_desk.specs.declared.principal.Principal.TheVariants as principal
use Rattle.wh_desk.specs.Permits.{IsModuleOf, IsTenants, OwnershipState}

-- Each instance that isn't this tenant's is as it was: its journal and what it has written, and what it sees of memory. So is each
-- module that isn't this tenant's.
abbrev pub KeepsOthers : OwnershipState → ℕ → HostState → HostState → Type 0
KeepsOthers owned t h h2 =
    (w : World) → IsHost h w → (w2 : World) × IsHost h2 w2
    × ((id : InstId) (x : Tenant) → ¬ (IsTenants owned t id) → IsLive w id x
    → IsLive w2 id x × (view w2.space id.place ≡ view w.space id.place))
    × ((of : ModuleId) (l : Loaded) → ¬ (IsModuleOf owned (principal.Tenant t) of) → loaded_of w of.number ≡ Some l
    → loaded_of w2 of.number ≡ Some l)

-- where a tenant asked
abbrev pub KeepsOthersOf : OwnershipState → Principal → HostState → HostState → Type 0
KeepsOthersOf owned principal.Operator h h2 = Unit {0}
KeepsOthersOf owned (principal.Tenant t) h h2 = KeepsOthers owned t h h2
