-- How modules and instances come to a host, and how instances go.
use Rattle.std.specs.Prelude.{◌≡◌, ◌≢◌, ℕ, ◌+◌, ◌-◌, ◌<◌, ◌≤◌, ◌⊎◌, false, List, [], ◌∷◌, ◌++◌, length, slice_set, Option, Some, None}
use Rattle.wh_model.specs.declared.faults.FaultKind.{FaultKind}
use Rattle.wh_model.specs.Format.Syntax.{Module}
use Rattle.wh_model.specs.Format.Spelling.{IsBroken}
use Rattle.wh_model.specs.Validity.Valid.{Valid}
use Rattle.wh_model.specs.Validity.Heights.{Fits}
use Rattle.wh_model.specs.Execution.Store.{Instance, Store}
use Rattle.wh_model.specs.Execution.Instance.{AreGiven, Piece, IsInitial, memory_min, segment_bounds, begins}
use Rattle.wh_model.specs.Execution.Replay.{returned, pending}
use Rattle.wh_model.specs.declared.faults.ImportFault.{ImportFault}
use Rattle.wh_model.specs.Linking.Imports.{IsFirstFault}
use Rattle.wh_model.specs.Linking.Accepting.{IsModule, IsAccepted}
use Rattle.wh_space_model.specs.Parts.{Space, minima, spreads}
use Rattle.wh_host_model.specs.Host.Spaces.{Arrives, Departs}
use Rattle.wh_host_model.specs.Host.Worlds.{Rest, Doing, resting, has_left, Tenant, Loaded, World, promised, tenant, with_tenant, loaded_of}
use Rattle.wh_host_model.specs.Owners.{Entry}
use Rattle.wh_host_model.specs.Owners.{Params, given_of, most_fuel}
use Rattle.wh_host_model.specs.Host.CallAnswers.{Faces}
use Rattle.wh_host_model.specs.Owners.{AdmitFault, admit_rank, frames, instances, memory, min_max, most_instances, most_modules, no_module, segments, shares, swap}
use Rattle.wh_host_model.specs.Owners.{start_entry}

-- ---- modules

-- why a module isn't loaded
pub data LoadFault : Type 0 where
  broken : (kind : FaultKind) (offset : ℕ) → LoadFault
  invalid : LoadFault
  unlinked : (fault : ImportFault) (place : ℕ) → LoadFault
  modules_full : LoadFault

-- how many modules are there
abbrev pub module_count : List (Option Loaded) → ℕ
module_count [] = 0
module_count (None ∷ ls) = module_count ls
module_count (Some l ∷ ls) = 1 + module_count ls

abbrev pub RefusesLoad : World → List ℕ → LoadFault → Type 0
RefusesLoad w bytes (broken kind offset) = IsBroken bytes kind offset
RefusesLoad w bytes invalid = (m : Module) × IsModule bytes m × ¬ (Valid m × Fits m)
RefusesLoad w bytes (unlinked fault place) =
    (m : Module) × IsModule bytes m × Valid m × Fits m × IsFirstFault m fault place
RefusesLoad w bytes modules_full = (m : Module) × IsAccepted bytes m × (most_modules ≤ module_count w.modules)

-- who may want memory, each where those before it are done: the decoder, the validator, the linker, and the host
pub data LoadOutOfMemory : Type 0 where
  decoder_out_of_memory : LoadOutOfMemory
  validator_out_of_memory : LoadOutOfMemory
  linker_out_of_memory : LoadOutOfMemory
  host_out_of_memory : LoadOutOfMemory

abbrev pub MayRunOut : World → List ℕ → LoadOutOfMemory → Type 0
MayRunOut w bytes decoder_out_of_memory = Unit {0}
MayRunOut w bytes validator_out_of_memory = (m : Module) × IsModule bytes m
MayRunOut w bytes linker_out_of_memory = (m : Module) × IsModule bytes m × Valid m × Fits m
MayRunOut w bytes host_out_of_memory = (m : Module) × IsAccepted bytes m × (module_count w.modules < most_modules)

-- it is loaded under the next number
pub record LoadsModule (w : World) (bytes : List ℕ) (number : ℕ) (w2 : World) : Type 0 where
  pub m : Module
  pub accepted : IsAccepted bytes m
  pub few : module_count w.modules < most_modules
  pub next : number ≡ length w.modules
  pub after : w2 ≡ record w { modules = w.modules ++ Some (record { bytes = bytes; m = m }) ∷ [] }

-- no live instance is of it
abbrev pub IsUnused : World → ℕ → Type 0
IsUnused w k = (i : ℕ) (t : Tenant) → tenant w i ≡ Some t → t.of ≢ k

-- it is let go, and its number isn't used again
pub record LetsModuleGo (w : World) (k : ℕ) (w2 : World) : Type 0 where
  pub loaded : Loaded
  pub is_loaded : loaded_of w k ≡ Some loaded
  pub unused : IsUnused w k
  pub after : w2 ≡ record w { modules = slice_set w.modules k None }

-- ---- admission

-- how many instances are live
abbrev pub live_count : List (Option Tenant) → ℕ
live_count [] = 0
live_count (None ∷ ts) = live_count ts
live_count (Some t ∷ ts) = 1 + live_count ts

-- the fault is met, whatever of the other ones is
abbrev pub MeetsFault : World → ℕ → Params → AdmitFault → Type 0
MeetsFault w k p no_module = loaded_of w k ≡ None
MeetsFault w k p shares = (p.shares < 1) ⊎ (1000000 < p.shares)
MeetsFault w k p min_max = (p.min < 2) ⊎ (p.max < p.min) ⊎ (65536 < p.max)
MeetsFault w k p frames = length w.space.pool.frames < minima w.space + p.min
MeetsFault w k p swap = length w.space.slots.uses < spreads w.space + ((p.max - p.min) + 1)
MeetsFault w k p instances = most_instances ≤ live_count w.tenants
MeetsFault w k p memory = (l : Loaded) × (loaded_of w k ≡ Some l) × IsInitial l.m (given_of p) memory_min
MeetsFault w k p segments = (l : Loaded) × (loaded_of w k ≡ Some l) × IsInitial l.m (given_of p) segment_bounds

abbrev pub IsFirstMet : World → ℕ → Params → AdmitFault → Type 0
IsFirstMet w k p fault =
    MeetsFault w k p fault × ((other : AdmitFault) → admit_rank other < admit_rank fault → ¬ (MeetsFault w k p other))

-- What an instance begins with: its start has pieces to write, or calls the start function, or has ended already.
pub data StartsAs (inst : Instance) (s : Store) (pieces : List Piece) (start : Option ℕ) (fuel : ℕ)
    : Doing → List Entry → List Entry → Type 0 where
  writes : pieces ≢ [] → StartsAs inst s pieces start fuel (has_left pieces) [] (start_entry start fuel pending ∷ [])
  runs : {x : ℕ} {d : Doing} → pieces ≡ [] → start ≡ Some x → Faces inst s (start_entry start fuel pending ∷ []) d
      → StartsAs inst s pieces start fuel d [] (start_entry start fuel pending ∷ [])
  ends : pieces ≡ [] → start ≡ None
      → StartsAs inst s pieces start fuel resting (start_entry None fuel (returned []) ∷ []) []

abbrev pub rest_of : Store → Rest
rest_of s = record { globals = s.globals; table = s.table; inputs = s.inputs; output = s.output }

-- An instance is admitted under the next number: it begins as instantiation says (4.5.4), at a free place.
pub record LetsIn (w : World) (k : ℕ) (p : Params) (place number : ℕ) (w2 : World) : Type 0 where
  pub no_fault : (fault : AdmitFault) → ¬ (MeetsFault w k p fault)
  pub can_count : p.fuel ≤ most_fuel
  pub given : AreGiven (given_of p)
  pub loaded : Loaded
  pub is_loaded : loaded_of w k ≡ Some loaded
  pub inst : Instance
  pub s : Store
  pub pieces : List Piece
  pub initial : IsInitial loaded.m (given_of p) (begins inst s pieces)
  pub doing : Doing
  pub ended : List Entry
  pub open_calls : List Entry
  pub starts : StartsAs inst s pieces loaded.m.start p.fuel doing ended open_calls
  pub space : Space
  pub arrives : Arrives place (promised number p) (length s.bytes) w.space space
  pub next : number ≡ length w.tenants
  pub after : w2 ≡ record w {
    tenants = w.tenants ++ Some (record {
      place = place;
      of = k;
      params = p;
      inst = inst;
      rest = rest_of s;
      doing = doing;
      ended = ended;
      copied = 0;
      open_calls = open_calls;
      waiting_for = None;
      dead = false;
    }) ∷ [];
    space = space;
  }

-- ---- release

-- the instance is gone, its number is not used again, and its output is handed out
pub record LetsGo (w : World) (i : ℕ) (t : Tenant) (output : List ℕ) (w2 : World) : Type 0 where
  pub space : Space
  pub departs : Departs t.place w.space space
  pub written : output ≡ t.rest.output
  pub after : w2 ≡ with_tenant w i None space
