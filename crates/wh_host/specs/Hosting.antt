-- What contracts see of a host, and for which host of the definitions it stands.
use Rattle.std.specs.Prelude.{◌≡◌, ℕ, ◌+◌, ◌/◌, ◌≤◌, List, [], ◌∷◌, get_or, length, slice_index_or, Option, Some, None}
use Rattle.wh_space_model.specs.declared.Tax.{Tax}
use Rattle.wh_space_model.specs.Parts.{Space, view}
use Rattle.wh_host_model.specs.Host.Worlds.{Tenant, Loaded, World, tenant, empty_world}
use Rattle.wh_host_model.specs.Owners.{Params}
use Rattle.wh_host_model.specs.Host.Admission.{live_count}
use Rattle.wh_host_model.specs.Host.Events.{Event}
use Rattle.wh_host_model.specs.Host.Happens.{AllHappen}
use Rattle.wh_host_model.specs.Host.Misreading.{ComesAbout}
use Rattle.wh_load.specs.Refusing.{view_linked}
use Rattle.wh_instance.specs.Tenancy.{IsTenant}
use Rattle.wh_space.specs.Arrivals.{IsNew}
use Rattle.wh_host.specs.declared.counts.HostCounts.{HostCounts}
use Rattle.wh_host.specs.declared.parts.LoadedModule.{LoadedModule}
use Rattle.wh_host.specs.declared.parts.ModuleRef.{ModuleRef}
use Rattle.wh_host.specs.declared.parts.StoredParams.{StoredParams}
use Rattle.wh_host.specs.declared.parts.InstanceEntry.{InstanceEntry}

-- its modules by their places, those that are there by number, who has each place of an instance, how many instances there
-- are, the memory of all, how many were admitted, how many modules were loaded, and what was counted
pub record HostState : Type 0 where
  pub modules : List (Option LoadedModule)
  pub module_refs : List ModuleRef
  pub entries : List (Option InstanceEntry)
  pub live : ℕ
  pub space : Space
  pub next : ℕ
  pub next_module : ℕ
  pub counts : HostCounts

-- events alone lead from an empty host to this one: no swap device gave other bytes than were written to it
pub record IsReached (w : World) : Type 0 where
  pub frames : ℕ
  pub slots : ℕ
  pub tax : Tax
  pub events : List Event
  pub happen : AllHappen (empty_world frames slots tax) events w

-- the module that was loaded
abbrev pub loaded_as : LoadedModule → Loaded
loaded_as x = record { bytes = x.bytes.value.items; m = view_linked x.linked }

-- the module that has a place
abbrev pub module_in : List (Option LoadedModule) → ℕ → Option LoadedModule
module_in ms place = slice_index_or ms place None

-- this one has this place and this number
pub record IsKeptAt (ms : List (Option LoadedModule)) (number place : ℕ) (l : Loaded) : Type 0 where
  pub kept : LoadedModule
  pub lies : module_in ms place ≡ Some kept
  pub numbered : kept.number ≡ number
  pub loaded : loaded_as kept ≡ l

-- those that are there are listed by number, the first of the list having this one, and each has its place
abbrev pub AreListed : (number : ℕ) → List (Option LoadedModule) → List ModuleRef → List (Option Loaded) → Type 0
AreListed number ms refs [] = refs ≡ []
AreListed number ms refs (None ∷ ls) = AreListed (number + 1) ms refs ls
AreListed number ms refs (Some l ∷ ls) =
    (place : ℕ) × (rest : List ModuleRef) × (refs ≡ record { number = number; place = place } ∷ rest)
    × IsKeptAt ms number place l × AreListed (number + 1) ms rest ls

-- The modules that are there are listed; there are no others, and none has two places.
pub record HoldsModules (ms : List (Option LoadedModule)) (refs : List ModuleRef) (ls : List (Option Loaded)) : Type 0 where
  pub listed : AreListed 0 ms refs ls
  pub all : (place : ℕ) (m : LoadedModule) → module_in ms place ≡ Some m
      → get_or ls m.number None ≡ Some (loaded_as m)
  pub once : (p q : ℕ) (m n : LoadedModule) → module_in ms p ≡ Some m → module_in ms q ≡ Some n
      → m.number ≡ n.number → p ≡ q

-- who has a place
abbrev pub entry_at : List (Option InstanceEntry) → ℕ → Option InstanceEntry
entry_at entries place = slice_index_or entries place None

-- what the owner gave it, but for the words of its input
pub record AreGivenAs (g : StoredParams) (p : Params) : Type 0 where
  pub shares : g.shares ≡ p.shares
  pub min : g.min ≡ p.min
  pub max : g.max ≡ p.max
  pub fuel : g.fuel ≡ p.fuel
  pub base : g.base ≡ p.base
  pub salt : g.salt ≡ p.salt

-- Who has a place is the instance of this number: of the same module, with as many pages at most as it was promised, and
-- as many copied calls, over what it sees in memory.
pub record IsEntryOf (modules : List (Option LoadedModule)) (x : InstanceEntry) (s : Space) (i : ℕ) (t : Tenant) : Type 0 where
  pub number : x.number ≡ Some i
  pub of : x.of ≡ t.of
  pub loaded : LoadedModule
  pub is_loaded : module_in modules x.module_place ≡ Some loaded
  pub numbered : loaded.number ≡ x.of
  pub given : AreGivenAs x.given t.params
  pub limit : x.page_limit ≤ t.params.max / 16
  pub copied : x.copied ≡ t.copied
  pub is : IsTenant loaded.linked x.page_limit x.tenant (view s t.place) t

-- The host represents this one, to which events lead, and reads of a swap device that gave other bytes, if there were any: it has
-- its modules and its memory, each of its instances is in its place, and whoever else has one was released.
pub record IsHost (h : HostState) (w : World) : Type 0 where
  pub comes : ComesAbout w
  pub modules : HoldsModules h.modules h.module_refs w.modules
  pub space : h.space ≡ w.space
  pub live : h.live ≡ live_count w.tenants
  pub next : h.next ≡ length w.tenants
  pub next_module : h.next_module ≡ length w.modules
  pub there : (i : ℕ) (t : Tenant) → tenant w i ≡ Some t
      → (x : InstanceEntry) × (entry_at h.entries t.place ≡ Some x) × IsEntryOf h.modules x w.space i t
  pub all : (place i : ℕ) (x : InstanceEntry) → entry_at h.entries place ≡ Some x → x.number ≡ Some i
      → (t : Tenant) × (tenant w i ≡ Some t) × (t.place ≡ place)

-- nothing was loaded or admitted yet
abbrev pub IsNewHost : HostState → ℕ → ℕ → Tax → Type 0
IsNewHost h frames slots tax =
    (w : World) × IsHost h w × IsReached w × (w.modules ≡ []) × (w.tenants ≡ []) × IsNew w.space frames slots tax
