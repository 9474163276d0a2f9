-- What a host answers where a module is to go.
use Rattle.std.specs.Prelude.{◌≡◌, ◌≢◌, ℕ, List, Option, Some, None, Result, Ok, Err}
use Rattle.std.specs.List.{remove}
use Rattle.wh_host_model.specs.Host.Worlds.{World}
use Rattle.wh_host_model.specs.Host.Happens.{IsUnload, UnloadAnswer, unload_ok, unload_no_module, unload_in_use}
use Rattle.wh_host.specs.declared.parts.InstanceEntry.{InstanceEntry}
use Rattle.wh_host.specs.declared.parts.LoadedModule.{LoadedModule}
use Rattle.wh_host.specs.declared.parts.ModuleRef.{ModuleRef}
use Rattle.wh_host.specs.declared.error.UnloadError.{UnloadError}
use Rattle.wh_host.specs.declared.error.UnloadError.TheVariants.{NoModule, InUse}
use Rattle.wh_host.specs.Hosting.{HostState, IsHost, entry_at, module_in}

-- the result is this answer
abbrev pub IsUnloadAnswer : Result Unit UnloadError → UnloadAnswer → Type 0
IsUnloadAnswer (Ok done) answer = answer ≡ unload_ok
IsUnloadAnswer (Err NoModule) answer = answer ≡ unload_no_module
IsUnloadAnswer (Err InUse) answer = answer ≡ unload_in_use

-- for whatever host it stands, this is answered so, and leaves a host for which it stands then
abbrev pub AnswersUnload : HostState → ℕ → Result Unit UnloadError → HostState → Type 0
AnswersUnload h k result h2 =
    (w : World) → IsHost h w
    → (answer : UnloadAnswer) × (w2 : World) × IsUnloadAnswer result answer × IsUnload w k answer w2 × IsHost h2 w2

-- ---- within the crate

-- it is an instance of the module of this number
abbrev pub IsOf : InstanceEntry → ℕ → Type 0
IsOf x k = (number : ℕ) × (x.number ≡ Some number) × (x.of ≡ k)

-- one has this place
abbrev pub Uses : List (Option InstanceEntry) → ℕ → ℕ → Type 0
Uses rs k place = (x : InstanceEntry) × (entry_at rs place ≡ Some x) × IsOf x k

-- one of it has some place
abbrev pub HasUser : List (Option InstanceEntry) → ℕ → Type 0
HasUser rs k = (place : ℕ) × Uses rs k place

-- the module that is listed at this index is gone, from the list and from its place, and the others stay
pub record LeavesModule (ms : List (Option LoadedModule)) (refs : List ModuleRef) (at : ℕ) (module_ref : ModuleRef)
    (ms2 : List (Option LoadedModule)) (refs2 : List ModuleRef) : Type 0 where
  pub refs_are : refs2 ≡ remove refs at
  pub gone : module_in ms2 module_ref.place ≡ None
  pub others : (place : ℕ) → place ≢ module_ref.place → module_in ms2 place ≡ module_in ms place
