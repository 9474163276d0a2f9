-- Why there is always room to keep whose each module and each instance is: there are no more of them than a host has.
use Rattle.std.specs.Prelude.{◌≡◌, ◌≤◌, ◌⊎◌, ℕ, List, [], ◌∷◌, length, Some, vec_capacity}
use Rattle.wh_host_model.specs.Host.Worlds.{Loaded, Tenant, World, loaded_of, tenant}
use Rattle.wh_host_model.specs.Host.Admission.{live_count, module_count}
use Rattle.wh_host.specs.Hosting.{HostState, IsHost}
use Rattle.wh_desk.specs.declared.ownership.OwnedInstance.{OwnedInstance}
use Rattle.wh_desk.specs.declared.ownership.OwnedModule.{OwnedModule}
use Rattle.wh_desk.specs.declared.ownership.Ownership.{Ownership}
use Rattle.wh_desk.specs.Permits.{OwnershipState}

-- the table has room for as many as a host may have
pub record HasRoomToOwn (o : Ownership) : Type 0 where
  pub modules : 1024 ≤ vec_capacity o.modules
  pub instances : 4096 ≤ vec_capacity o.instances

-- one has this number
abbrev pub OneHasNumber : {A : Type 0} → (A → ℕ) → List A → ℕ → Type 0
OneHasNumber number_of [] n = ⊥
OneHasNumber number_of (x ∷ xs) n = (number_of x ≡ n) ⊎ OneHasNumber number_of xs n

-- the module of this number is somebody's
abbrev pub IsSomebodysModule : List OwnedModule → ℕ → Type 0
IsSomebodysModule xs k = OneHasNumber (λ (x : OwnedModule). x.id.number) xs k

-- the instance of this number is somebody's
abbrev pub IsSomebodys : List OwnedInstance → ℕ → Type 0
IsSomebodys xs i = OneHasNumber (λ (x : OwnedInstance). x.id.number) xs i

-- each module and each instance that is there is somebody's, and nobody has more than is there
pub record OwnsEach (modules : List OwnedModule) (instances : List OwnedInstance) (w : World) : Type 0 where
  pub few : length modules ≤ module_count w.modules
  pub live : length instances ≤ live_count w.tenants
  pub all_modules : (k : ℕ) (l : Loaded) → loaded_of w k ≡ Some l → IsSomebodysModule modules k
  pub all : (i : ℕ) (t : Tenant) → tenant w i ≡ Some t → IsSomebodys instances i

-- so it is of the host
abbrev pub OwnsAll : OwnershipState → HostState → Type 0
OwnsAll owned h = (w : World) × IsHost h w × OwnsEach owned.modules owned.instances w
