-- An instance of a host as its code keeps it, and what that represents.
use Rattle.std.specs.Prelude.{◌≡◌, ◌≢◌, ◌+◌, ◌<◌, ◌≤◌, ◌^◌, ℕ, Bool, List, [], ◌∷◌, length, map, reverse, slice_get, Option, Some, None}
use Rattle.std.specs.List.{AllByRecursion}
use Rattle.wh_model.specs.Format.Syntax.{FuncType, Body}
use Rattle.wh_model.specs.Execution.Store.{type_of, InRange, own, Instance}
use Rattle.wh_model.specs.Execution.Configuration.{Term}
use Rattle.wh_model.specs.Execution.Instance.{Piece}
use Rattle.wh_model.specs.Execution.Replay.{Outcome, returned, stopped, cancelled, dead, pending, Waits}
use Rattle.wh_host_model.specs.Host.Worlds.{Rest, Doing, resting, has_left, computing, Suspension, for_fuel, for_frame, for_device, Tenant}
use Rattle.wh_host_model.specs.Owners.{Entry}
use Rattle.wh_imports.specs.LinkedState.{LinkedState}
use Rattle.wh_control.specs.Represents.{bits_of}
use Rattle.wh_control.specs.declared.store.Store as code_store
use Rattle.wh_machine.specs.declared.machine.Machine.{Machine}
use Rattle.wh_machine.specs.CallStates.{CallState, Setting, setting_of, call_state}
use Rattle.wh_journal.specs.Calls.{JournalCallState}
use Rattle.wh_journal.specs.Calls.{JournalState}
use Rattle.wh_journal.specs.declared.calls.CallEnd.{CallEnd}
use Rattle.wh_journal.specs.declared.calls.CallEnd.TheVariants as end
use Rattle.wh_instance.specs.declared.writing.Cursor.{Cursor}
use Rattle.wh_instance.specs.declared.stages.CallStage.{CallStage}
use Rattle.wh_instance.specs.declared.stages.CallStage.TheVariants.{Writing, Faced, UnderWay}
use Rattle.wh_instance.specs.declared.stages.Suspension as code
use Rattle.wh_instance.specs.declared.stages.Suspension.TheVariants as stop
use Rattle.wh_instance.specs.Pieces.{pieces_left}
use Rattle.wh_instance.specs.Turned.{HasRest, IsStarting, IsFaced, IsComputing}

-- What contracts see of an instance: its store, the machine of its calls, where the data segments of its module belong and how
-- far they are written, where its present call is, its calls, what the present one is blocked on, and whether it is dead.
pub record HostInstanceState : Type 0 where
  pub store : code_store.Store
  pub machine : Machine
  pub places : List ℕ
  pub cursor : Cursor
  pub progress : CallStage
  pub journal : JournalState
  pub waiting_for : Option code.Suspension
  pub dead : Bool

-- with the memory on which its calls run
abbrev pub state_over : {M : Type 0} → HostInstanceState → M → CallState M
state_over x m = call_state x.machine x.store m

-- ---- its calls

-- so a call has ended, or is open; the result, if there is one, is the last value
abbrev pub IsCallEnd : CallEnd → Outcome → Type 0
IsCallEnd end.Open pending = Unit {0}
IsCallEnd (end.Returned result) (returned vs) = result ≡ slice_get (map bits_of (reverse vs)) 0
IsCallEnd (end.Trapped x) (stopped y) = x ≡ y
IsCallEnd end.Cancelled cancelled = Unit {0}
IsCallEnd end.Dead dead = Unit {0}
IsCallEnd how o = ⊥

pub record RepresentsCall (c : JournalCallState) (e : Entry) : Type 0 where
  pub func : e.call.func ≡ c.func
  pub given : e.given ≡ c.given
  pub words : map bits_of e.call.args ≡ c.words
  pub fuel : e.call.fuel ≡ c.fuel
  pub pieces : e.call.fragments ≡ c.pieces
  pub charges : e.call.charges ≡ c.charges
  pub end : IsCallEnd c.end e.call.outcome

-- one after the other
abbrev pub RepresentsEach : List JournalCallState → List Entry → Type 0
RepresentsEach [] [] = Unit {0}
RepresentsEach (c ∷ cs) (e ∷ es) = RepresentsCall c e × RepresentsEach cs es
RepresentsEach cs es = ⊥

-- The call hasn't begun, and may: its function is the instance's own, and takes its arguments.
pub record MayBegin (inst : Instance) (e : Entry) : Type 0 where
  pub index : ℕ
  pub type : FuncType
  pub body : Body
  pub calls : e.call.func ≡ Some index
  pub is_own : slice_get inst.funcs index ≡ Some (own type body)
  pub types : map type_of e.call.args ≡ type.params
  pub fit : AllByRecursion InRange e.call.args
  pub waits : Waits e.call

-- what it has written and what it was given can be counted in 64 bits
pub record IsCounted (e : Entry) : Type 0 where
  pub pieces : e.call.fragments < 2 ^ 64
  pub fuel : e.call.fuel < 2 ^ 64

-- those after the first
abbrev pub behind_first : List Entry → List Entry
behind_first [] = []
behind_first (e ∷ es) = es

-- ---- where the present call is

-- None is open. Or it is a start that has these pieces left. Or it is at its invocation. Or it is under way, its
-- charges within its fuel.
pub data IsWhere {M : Type 0} (w : Setting M) (x : HostInstanceState) (m : M) (inst : Instance) (r : Rest)
    : Doing → List Entry → Type 0 where
  rests : x.progress ≡ Faced → IsWhere w x m inst r resting []
  writes : {ps : List Piece} {e : Entry} {es : List Entry}
      → x.progress ≡ Writing → ps ≢ [] → e.call.func ≡ w.program.decoded.start
      → IsStarting w (state_over x m) inst e.call r ps
      → ps ≡ pieces_left w.program.decoded.segments.items x.places x.cursor
      → e.call.fragments + length ps < 2 ^ 64 → IsWhere w x m inst r (has_left ps) (e ∷ es)
  is_faced : {func : ℕ} {term : Term} {e : Entry} {es : List Entry}
      → x.progress ≡ Faced → IsFaced w (state_over x m) inst e.call r func (map bits_of e.call.args) term
      → IsWhere w x m inst r (computing term) (e ∷ es)
  is_under_way : {term : Term} {e : Entry} {es : List Entry}
      → x.progress ≡ UnderWay → IsComputing w (state_over x m) inst e.call r term → e.call.charges ≤ e.call.fuel
      → IsWhere w x m inst r (computing term) (e ∷ es)

-- ---- the whole instance

abbrev pub suspension_of : Option code.Suspension → Option Suspension
suspension_of None = None
suspension_of (Some stop.Fuel) = Some for_fuel
suspension_of (Some stop.Frame) = Some for_frame
suspension_of (Some (stop.Device fault)) = Some (for_device fault)

-- With this memory it represents an instance of the host's definitions. A call that is at its invocation isn't blocked.
pub record RepresentsTenant {M : Type 0} (w : Setting M) (x : HostInstanceState) (m : M) (t : Tenant) : Type 0 where
  pub store : HasRest w (state_over x m) t.inst t.rest
  pub ended : RepresentsEach x.journal.ended t.ended
  pub open_calls : RepresentsEach x.journal.open_calls t.open_calls
  pub is_where : IsWhere w x m t.inst t.rest t.doing t.open_calls
  pub waiting : AllByRecursion (MayBegin t.inst) (behind_first t.open_calls)
  pub counted : AllByRecursion IsCounted t.open_calls
  pub waiting_for : t.waiting_for ≡ suspension_of x.waiting_for
  pub fresh : x.progress ≡ Faced → x.waiting_for ≡ None
  pub dead : x.dead ≡ t.dead

-- ---- by its bytes

-- the setting of a call of a linked module over bytes alone
abbrev pub byte_setting : LinkedState → ℕ → Setting (List ℕ)
byte_setting l limit = setting_of l (λ b. b) (λ b need. Unit {0}) (λ b b2. Unit {0}) limit

-- With a memory of these bytes, which may grow to `limit` pages, the code's instance represents this one. Over any memory with
-- these bytes and this limit it is the same.
abbrev pub IsTenant : LinkedState → ℕ → HostInstanceState → List ℕ → Tenant → Type 0
IsTenant l limit x bytes t = RepresentsTenant (byte_setting l limit) x bytes t
