-- The roll of a host: what is there.
use Rattle.std.specs.Prelude.{◌≡◌, ℕ, ◌+◌, ◌++◌, Bool, List, [], ◌∷◌, length, Option, Some, None}
use Rattle.wh_space_model.specs.Errands.{tickets}
use Rattle.wh_host_model.specs.Host.Worlds.{Suspension, Tenant, Loaded, World, journal}
use Rattle.wh_host_model.specs.Owners.{Params}
use Rattle.wh_params.specs.View.{view_params}
use Rattle.wh_instance.specs.Tenancy.{suspension_of}
use Rattle.wh_host.specs.declared.parts.LoadedModule.{LoadedModule}
use Rattle.wh_host.specs.declared.parts.InstanceEntry.{InstanceEntry}
use Rattle.wh_space_model.specs.declared.plain.InstId.{InstId}
use Rattle.wh_host.specs.declared.parts.ModuleRef.{ModuleRef}
use Rattle.wh_host.specs.declared.rolling.RollInstance.{RollInstance}
use Rattle.wh_host.specs.declared.rolling.RollModule.{RollModule}
use Rattle.wh_host_model.specs.Host.Misreading.{ComesAbout}
use Rattle.wh_host.specs.Hosting.{HostState, IsHost, entry_at, module_in}
use Rattle.wh_host.specs.Showing.{given_with}

-- a module as the roll has it: its number, and its bytes
pub record ListedModule : Type 0 where
  pub number : ℕ
  pub bytes : List ℕ

-- An instance as the roll has it: its number, its place, of which module it is, what it was given, how many calls there are, how
-- many of them were copied with it and how many are open, whether it is dead, and what its first open call is blocked on.
pub record Listed : Type 0 where
  pub number : ℕ
  pub place : ℕ
  pub of : ℕ
  pub params : Params
  pub calls : ℕ
  pub copied : ℕ
  pub open_calls : ℕ
  pub dead : Bool
  pub waiting_for : Option Suspension

-- the modules by number, the next number of an instance, how many tickets are out, and the instances by number
pub record RollState : Type 0 where
  pub modules : List ListedModule
  pub next : ℕ
  pub tickets_out : ℕ
  pub instances : List Listed

-- ---- the roll of a host

abbrev pub listed_as : (number : ℕ) → Tenant → Listed
listed_as number t = record {
  number = number;
  place = t.place;
  of = t.of;
  params = t.params;
  calls = length (journal t);
  copied = t.copied;
  open_calls = length t.open_calls;
  dead = t.dead;
  waiting_for = t.waiting_for;
}

-- each that is live, by number, the first of the list having this one
abbrev pub all_listed : (number : ℕ) → List (Option Tenant) → List Listed
all_listed number [] = []
all_listed number (None ∷ ts) = all_listed (number + 1) ts
all_listed number (Some t ∷ ts) = listed_as number t ∷ all_listed (number + 1) ts

-- each that is there, by number, the first of the list having this one
abbrev pub all_modules : (number : ℕ) → List (Option Loaded) → List ListedModule
all_modules number [] = []
all_modules number (None ∷ ls) = all_modules (number + 1) ls
all_modules number (Some l ∷ ls) = record { number = number; bytes = l.bytes } ∷ all_modules (number + 1) ls

abbrev pub roll_of : World → RollState
roll_of w = record {
  modules = all_modules 0 w.modules;
  next = length w.tenants;
  tickets_out = tickets w.space;
  instances = all_listed 0 w.tenants;
}

-- events, and reads of a swap device that gave other bytes, lead from an empty host to one that has this roll
abbrev pub IsRollOfSome : RollState → Type 0
IsRollOfSome roll = (w : World) × ComesAbout w × (roll ≡ roll_of w)

-- for whatever host it stands, this is its roll
abbrev pub IsRollOf : HostState → RollState → Type 0
IsRollOf h roll = (w : World) → IsHost h w → roll ≡ roll_of w

-- ---- what the code has of it

abbrev pub view_listed_module : RollModule → ListedModule
view_listed_module e = record { number = e.id.number; bytes = e.bytes.value.items }

abbrev pub view_listed : RollInstance → Listed
view_listed e = record {
  number = e.id.number;
  place = e.id.place;
  of = e.of.number;
  params = view_params e.params;
  calls = e.calls;
  copied = e.copied;
  open_calls = e.open_calls;
  dead = e.dead;
  waiting_for = suspension_of e.waiting_for;
}

-- ---- within the crate

-- what the code has of the modules at these places
abbrev pub module_by : ModuleRef → LoadedModule → ListedModule
module_by module_ref x = record { number = module_ref.number; bytes = x.bytes.value.items }

abbrev pub listed_module : ModuleRef → Option LoadedModule → List ListedModule
listed_module module_ref None = []
listed_module module_ref (Some x) = module_by module_ref x ∷ []

abbrev pub listed_modules : List (Option LoadedModule) → List ModuleRef → List ListedModule
listed_modules ms [] = []
listed_modules ms (module_ref ∷ module_refs) =
    listed_module module_ref (module_in ms module_ref.place) ++ listed_modules ms module_refs

-- what the code has of who has a seat
abbrev pub listed_by : InstId → InstanceEntry → Listed
listed_by instance_ref x = record {
  number = instance_ref.number;
  place = instance_ref.place;
  of = x.of;
  params = given_with x.given x.tenant.store.inputs.items;
  calls = length x.tenant.journal.ended + length x.tenant.journal.open_calls;
  copied = x.copied;
  open_calls = length x.tenant.journal.open_calls;
  dead = x.tenant.dead;
  waiting_for = suspension_of x.tenant.waiting_for;
}

abbrev pub listed_in : InstId → Option InstanceEntry → List Listed
listed_in instance_ref None = []
listed_in instance_ref (Some x) = listed_by instance_ref x ∷ []

abbrev pub listed_refs : List (Option InstanceEntry) → List InstId → List Listed
listed_refs rs [] = []
listed_refs rs (instance_ref ∷ instance_refs) =
    listed_in instance_ref (entry_at rs instance_ref.place) ++ listed_refs rs instance_refs
