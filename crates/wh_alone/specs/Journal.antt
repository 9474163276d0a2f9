-- Where an instance is, by the journal of its calls.
use Rattle.std.specs.Prelude.{◌≡◌, ℕ, ◌+◌, true, false, List, [], ◌∷◌, ◌++◌, length, Option, Some, None, slice_get, map, reverse}
use Rattle.std.specs.List.{AllByRecursion}
use Rattle.wh_model.specs.Format.Syntax.{FuncType, Body, Module}
use Rattle.wh_model.specs.Execution.Store.{Value, type_of, own, Instance, Store}
use Rattle.wh_model.specs.Execution.Configuration.{Config}
use Rattle.wh_model.specs.Execution.Reduction.{After, IsNext}
use Rattle.wh_model.specs.Execution.Instance.{Parameters, AreGiven, Piece, IsInitial, begins}
use Rattle.wh_model.specs.Execution.Histories.{Past}
use Rattle.wh_model.specs.Execution.Replay as model
use Rattle.wh_model.specs.Execution.Replay.{Call, returned, stopped, cancelled, dead, pending, with_pieces, Invocation, Standing, idle, running, store_at, fails, IsJournal}
use Rattle.wh_syntax.specs.View.{view_module}
use Rattle.wh_control.specs.Represents.{bits_of, result_of}
use Rattle.wh_machine.specs.MachineRuns.{linked_parts, IsSettledIn}
use Rattle.wh_alone.specs.declared.outcome.Outcome.{Outcome}
use Rattle.wh_alone.specs.declared.outcome.Outcome.TheVariants.{Returned, Trapped, OutOfFuel}
use Rattle.wh_alone.specs.declared.outcome.Stage.{Stage}
use Rattle.wh_alone.specs.declared.outcome.Stage.TheVariants.{Fresh, Starting, Idle, Calling, Dead}
use Rattle.wh_alone.specs.InstanceStates.{Kept, HasStore, RepresentsAt}

-- what contracts see of an instance
pub record InstanceState : Type 0 where
  pub kept : Kept
  pub stage : Stage

-- ---- calls

-- the answer is this outcome of the journal: the result, if there is one, is the last value
abbrev pub IsOutcome : Outcome → model.Outcome → Type 0
IsOutcome (Returned result) (returned vs) = result ≡ slice_get (map bits_of (reverse vs)) 0
IsOutcome (Trapped x) (stopped y) = x ≡ y
IsOutcome OutOfFuel pending = Unit {0}
IsOutcome answer o = ⊥

-- a call that has returned has results of its function's types
abbrev pub HasResults : Instance → Call → Type 0
HasResults inst call =
    (x : ℕ) (type : FuncType) (body : Body) (vs : List Value) → call.func ≡ Some x
    → slice_get inst.funcs x ≡ Some (own type body)
    → call.outcome ≡ returned vs → map type_of vs ≡ type.results

-- the call, if it has ended
abbrev pub ended_as : Call → model.Outcome → List Call
ended_as call (returned vs) = call ∷ []
ended_as call (stopped x) = call ∷ []
ended_as call cancelled = call ∷ []
ended_as call dead = call ∷ []
ended_as call pending = []

-- and if it is current
abbrev pub open_as : Call → model.Outcome → Option Call
open_as call (returned vs) = None
open_as call (stopped x) = None
open_as call cancelled = None
open_as call dead = None
open_as call pending = Some call

abbrev pub listed : Option Call → List Call
listed None = []
listed (Some call) = call ∷ []

-- ---- where an instance is

-- the call is at its invocation, with no fuel yet
pub record IsInvoked (inst : Instance) (s : Store) (ps : List Piece) (call : Call) (z : Standing) : Type 0 where
  pub at : Config
  pub stands : z ≡ running at
  pub is_open : call.outcome ≡ pending
  pub all_written : call.fragments ≡ length ps
  pub no_charges : call.charges ≡ 0
  pub no_fuel : call.fuel ≡ 0
  pub no_args : call.args ≡ []
  pub invocation : Invocation inst (with_pieces s ps) call at

-- the call has taken all its fuel, a charged reduction is next, and the machine represents where it is
pub record IsUnderWay (k : Kept) (inst : Instance) (s : Store) (ps : List Piece) (call : Call) (z : Standing) : Type 0
  where
    pub first : Config
    pub at : Config
    pub stands : z ≡ running at
    pub is_open : call.outcome ≡ pending
    pub all_written : call.fragments ≡ length ps
    pub spent : call.charges ≡ call.fuel
    pub invocation : Invocation inst (with_pieces s ps) call first
    pub after : After inst first call.charges at
    pub next : IsNext inst at
    pub machine : RepresentsAt k (result_of invocation.type) inst at
    pub runs : k.machine.running ≡ true
    pub settled : IsSettledIn (linked_parts k.linked) k.machine

-- the first of these calls, the start, hasn't failed
abbrev pub HasStarted : List Call → Type 0
HasStarted [] = ⊥
HasStarted (start ∷ rest) = fails start.outcome ≡ false

-- it has, and nothing was called since
abbrev pub HasFailed : List Call → Type 0
HasFailed [] = ⊥
HasFailed (start ∷ rest) = (fails start.outcome ≡ true) × (rest ≡ [])

-- The stage is that of an instance after these calls that have ended, with this store and these pieces to write, an open call, if
-- there is one, and where that stands.
abbrev pub IsStage : Stage → Kept → Instance → Store → List Piece → List Call → Option Call → Standing → Type 0
IsStage Fresh k inst s ps ended current z =
    (ended ≡ []) × (call : Call) × (current ≡ Some call) × IsInvoked inst s ps call z
IsStage Starting k inst s ps ended current z =
    (ended ≡ []) × (call : Call) × (current ≡ Some call) × IsUnderWay k inst s ps call z
IsStage Idle k inst s ps ended current z = HasStarted ended × (ps ≡ []) × (current ≡ None) × (z ≡ idle s)
IsStage Calling k inst s ps ended current z =
    HasStarted ended × (ps ≡ []) × (call : Call) × (current ≡ Some call) × IsUnderWay k inst s ps call z
IsStage Dead k inst s ps ended current z = HasFailed ended × (current ≡ None) × (z ≡ idle s)

-- the calls are a journal of the module
abbrev pub IsJournalOf : Module → List Call → Type 0
IsJournalOf m [] = ⊥
IsJournalOf m (start ∷ rest) = IsJournal m start rest

-- The instance is one of this module with these parameters, and it is where its journal leads: after calls that have ended, and
-- an open one, if there is one.
pub record IsAtStanding (i : InstanceState) (m : Module) (p : Parameters) (ended : List Call) (current : Option Call)
    (z : Standing)
    : Type 0 where
  pub module_is : m ≡ view_module i.kept.linked.valid.decoded
  pub given : AreGiven p
  pub journal : IsJournalOf m (ended ++ listed current)
  pub inst : Instance
  pub first : Store
  pub pieces : List Piece
  pub initial : IsInitial m p (begins inst first pieces)
  pub results : AllByRecursion (HasResults inst) ended
  pub s : Store
  pub ps : List Piece
  pub past : Past inst first pieces ended s ps
  pub store : HasStore i.kept inst (store_at z)
  pub stage : IsStage i.stage i.kept inst s ps ended current z

-- there is such a journal
pub record IsSomewhere (i : InstanceState) : Type 0 where
  pub m : Module
  pub p : Parameters
  pub ended : List Call
  pub current : Option Call
  pub z : Standing
  pub is_at : IsAtStanding i m p ended current z

-- ---- what calls do

-- the open call was given more fuel and has taken more charges, with this outcome
abbrev pub further : Call → ℕ → ℕ → model.Outcome → Call
further call fuel charges o = record call { fuel = call.fuel + fuel; charges = call.charges + charges; outcome = o }

-- Whatever its journal is, the open call is run with more fuel: it has that outcome after n more charges.
abbrev pub GoesOnWith : InstanceState → ℕ → Outcome → ℕ → InstanceState → Type 0
GoesOnWith i fuel outcome n i2 =
    (m : Module) (p : Parameters) (ended : List Call) (call : Call) (z : Standing)
    → IsAtStanding i m p ended (Some call) z
    → (o : model.Outcome) × (z2 : Standing) × IsOutcome outcome o
    × IsAtStanding i2 m p (ended ++ ended_as (further call fuel n o) o) (open_as (further call fuel n o) o) z2

-- a call of this function with these values and this fuel came so far
abbrev pub called_so : ℕ → List Value → ℕ → ℕ → model.Outcome → Call
called_so func vs fuel charges o =
    record { func = Some func; args = vs; fuel = fuel; fragments = 0; charges = charges; outcome = o }

-- Whatever its journal is, the call is its next one: it has that outcome after n charges.
abbrev pub CallEnds : InstanceState → ℕ → List ℕ → ℕ → Outcome → ℕ → InstanceState → Type 0
CallEnds i func args fuel outcome n i2 =
    (m : Module) (p : Parameters) (ended : List Call) (z : Standing) → IsAtStanding i m p ended None z
    → (vs : List Value) × (o : model.Outcome) × (z2 : Standing) × (map bits_of vs ≡ args) × IsOutcome outcome o
    × IsAtStanding i2 m p (ended ++ ended_as (called_so func vs fuel n o) o) (open_as (called_so func vs fuel n o) o) z2

-- Whatever its journal is, the open call has been cancelled where it stood.
abbrev pub GivenUp : InstanceState → InstanceState → Type 0
GivenUp i i2 =
    (m : Module) (p : Parameters) (ended : List Call) (call : Call) (z : Standing)
    → IsAtStanding i m p ended (Some call) z
    → IsAtStanding i2 m p (ended ++ record call { outcome = cancelled } ∷ []) None (idle (store_at z))
