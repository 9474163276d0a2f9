-- A host as its definitions see it: modules, instances and their calls, over one memory.
use Rattle.std.specs.Prelude.{ℕ, Bool, List, [], ◌++◌, drop, map, get_or, slice_set, Option, None}
use Rattle.wh_model.specs.Format.Syntax.{Module}
use Rattle.wh_model.specs.Execution.Store.{Value, Instance, Store}
use Rattle.wh_model.specs.Execution.Configuration.{Term, config}
use Rattle.wh_model.specs.Execution.Instance.{Piece}
use Rattle.wh_model.specs.Execution.Replay.{Call, Standing, idle, writing, running}
use Rattle.wh_space_model.specs.declared.Tax.{Tax}
use Rattle.wh_space_model.specs.declared.plain.SwapError.{SwapError}
use Rattle.wh_space_model.specs.Parts.{Space, Claimed, view, empty_space}
use Rattle.wh_host_model.specs.Owners.{Params}
use Rattle.wh_host_model.specs.Owners.{Entry}

-- ---- what is known of an instance

-- the store of an instance (4.2.3) but for its memory
pub record Rest : Type 0 where
  pub globals : List Value
  pub table : List (Option ℕ)
  pub inputs : List ℕ
  pub output : List ℕ

-- where the present call of an instance is: there is none; it has these pieces left to write; or it computes, and
-- this is its term (4.2.12), no frame being around
pub data Doing : Type 0 where
  resting : Doing
  has_left : (pieces : List Piece) → Doing
  computing : (t : Term) → Doing

-- what the present call is blocked on: all its fuel is used; bytes of its next step aren't ready; or, such bytes being wanted, a
-- device call failed
pub data Suspension : Type 0 where
  for_fuel : Suspension
  for_frame : Suspension
  for_device : (fault : SwapError) → Suspension

-- An instance: its place in memory, which module it is of, what it was given, its module instance (4.2.5), its store but for the
-- memory, and where its present call is. Its journal is the calls that have ended, and then the open ones, the first of which is
-- the present one. The first `copied` of the ended ones were copied with it, and are another's. It is dead where its start has
-- trapped or was cancelled.
pub record Tenant : Type 0 where
  pub place : ℕ
  pub of : ℕ
  pub params : Params
  pub inst : Instance
  pub rest : Rest
  pub doing : Doing
  pub ended : List Entry
  pub copied : ℕ
  pub open_calls : List Entry
  pub waiting_for : Option Suspension
  pub dead : Bool

-- a module that was loaded, and the bytes that spell it
pub record Loaded : Type 0 where
  pub bytes : List ℕ
  pub m : Module

-- A host: the modules that were loaded and the instances that were admitted, by their numbers, each of them gone or
-- there; and the memory on which the instances' memories lie. No number is used twice, since the lists only grow.
pub record World : Type 0 where
  pub modules : List (Option Loaded)
  pub tenants : List (Option Tenant)
  pub space : Space

-- ---- words for it

-- what the instance of this number is promised
abbrev pub promised : ℕ → Params → Claimed
promised number p = record { number = number; shares = p.shares; min = p.min; max = p.max }

abbrev pub journal : Tenant → List Entry
journal t = t.ended ++ t.open_calls

-- the calls that were asked of it
abbrev pub own_calls : Tenant → List Entry
own_calls t = drop t.copied (journal t)

abbrev pub journal_calls : List Entry → List Call
journal_calls es = map (λ e. e.call) es

-- the whole store of an instance whose memory has these bytes
abbrev pub store_with : List ℕ → Rest → Store
store_with bytes r =
    record { bytes = bytes; globals = r.globals; table = r.table; inputs = r.inputs; output = r.output }

-- what its first open call stands at
abbrev pub standing_with : List ℕ → Rest → Doing → Standing
standing_with bytes r resting = idle (store_with bytes r)
standing_with bytes r (has_left ps) = writing (store_with bytes r) ps
standing_with bytes r (computing t) = running (config (store_with bytes r) [] t)

-- of an instance: its memory is what it sees
abbrev pub store_in : Space → Tenant → Store
store_in s t = store_with (view s t.place) t.rest

abbrev pub standing_in : Space → Tenant → Standing
standing_in s t = standing_with (view s t.place) t.rest t.doing

-- the module of a number, if it is there
abbrev pub loaded_of : World → ℕ → Option Loaded
loaded_of w k = get_or w.modules k None

-- the live instance of a number, if it is
abbrev pub tenant : World → ℕ → Option Tenant
tenant w i = get_or w.tenants i None

-- the host with another instance of this number, or with none, over another memory
abbrev pub with_tenant : World → ℕ → Option Tenant → Space → World
with_tenant w i t s = record w { tenants = slice_set w.tenants i t; space = s }

-- a host in which nothing was loaded or admitted
abbrev pub empty_world : ℕ → ℕ → Tax → World
empty_world frames slots tax = record { modules = []; tenants = []; space = empty_space frames slots tax }
