-- What the owner of an instance is told of one of its calls.
use Rattle.std.specs.Prelude.{◌≡◌, ℕ, Bool, true, false, List, [], ◌∷◌, take, map, reverse, slice_get, is_some, Option, Some, None}
use Rattle.std.specs.List.{AllByRecursion}
use Rattle.wh_model.specs.Format.Syntax.{Module}
use Rattle.wh_model.specs.Validity.Typing.{Context}
use Rattle.wh_model.specs.Execution.Store.{Value, value, bits_of, InRange, Instance}
use Rattle.wh_model.specs.Execution.Replay.{Call, returned, stopped, cancelled, dead, pending}
use Rattle.wh_host_model.specs.Host.Worlds.{Suspension, Tenant, journal, journal_calls}
use Rattle.wh_host_model.specs.Owners.{Entry, first_open}
use Rattle.wh_host_model.specs.Host.Journals.{InOrder, ReturnsTyped}
use Rattle.wh_imports.specs.LinkedState.{LinkedState}
use Rattle.wh_journal.specs.Calls.{JournalCallState}
use Rattle.wh_instance.specs.declared.stages.CallStatus.{CallStatus}
use Rattle.wh_instance.specs.declared.stages.CallStatus.TheVariants as tells
use Rattle.wh_instance.specs.declared.stages.CallValue.{CallValue}
use Rattle.wh_instance.specs.declared.stages.Suspension as code
use Rattle.wh_instance.specs.Tenancy.{IsTenant, RepresentsCall, HostInstanceState, suspension_of}
use Rattle.wh_machine.specs.MachineRuns.{IsInstanceOf}

-- the values that a call has returned: one, or none
abbrev pub told_values : Option CallValue → List Value
told_values None = []
told_values (Some v) = value v.of v.word ∷ []

-- How far a call is, where an open call stands before it or doesn't, and the present call waits for this.
abbrev pub IsCallStatus : CallStatus → (waits : Bool) → Option Suspension → Call → Type 0
IsCallStatus (tells.Returned v charges) waits stands c =
    (c.outcome ≡ returned (told_values v)) × AllByRecursion InRange (told_values v) × (c.charges ≡ charges)
IsCallStatus (tells.Trapped trap charges) waits stands c = (c.outcome ≡ stopped trap) × (c.charges ≡ charges)
IsCallStatus (tells.Cancelled charges) waits stands c = (c.outcome ≡ cancelled) × (c.charges ≡ charges)
IsCallStatus tells.Dead waits stands c = c.outcome ≡ dead
IsCallStatus tells.Waiting waits stands c = (c.outcome ≡ pending) × (waits ≡ true)
IsCallStatus (tells.Present suspension charges) waits stands c =
    (c.outcome ≡ pending) × (waits ≡ false) × (stands ≡ suspension_of suspension) × (c.charges ≡ charges)

-- an open call stands before this place
abbrev pub waits_at : List Entry → ℕ → Bool
waits_at es at = is_some (first_open (take at (journal_calls es)))

-- so it is told of the call at this place of the journal, or there is none
abbrev pub IsToldAt : Tenant → ℕ → Option CallStatus → Type 0
IsToldAt t at None = slice_get (journal t) at ≡ None
IsToldAt t at (Some status) =
    (e : Entry) × (slice_get (journal t) at ≡ Some e)
    × IsCallStatus status (waits_at (journal t) at) t.waiting_for e.call

-- so for whatever instance of this module it stands, its calls being in order
abbrev pub TellsCall : LinkedState → HostInstanceState → ℕ → Option CallStatus → Type 0
TellsCall l x at told =
    (limit : ℕ) (bytes : List ℕ) (m : Module) (t : Tenant) → IsTenant l limit x bytes t
    → InOrder m t.inst t.dead t.ended t.open_calls → IsToldAt t at told

-- ---- within the crate

-- in whatever instance of the module: what a call of this function returned, the last value being this word, is this
abbrev pub IsReturnedAs : LinkedState → Option ℕ → Option ℕ → Option CallValue → Type 0
IsReturnedAs l func word told =
    (c : Context) (inst : Instance) (call : Call) (vs : List Value) → IsInstanceOf l c inst
    → call.func ≡ func → ReturnsTyped inst call (returned vs) → word ≡ slice_get (map bits_of (reverse vs)) 0
    → (vs ≡ told_values told) × AllByRecursion InRange vs

-- so it is told of whatever call of an instance of the module for which the code's stands
abbrev pub IsEntryTold : LinkedState → JournalCallState → Bool → Option code.Suspension → CallStatus → Type 0
IsEntryTold l x waits stands status =
    (c : Context) (inst : Instance) (e : Entry) → IsInstanceOf l c inst → RepresentsCall x e
    → ReturnsTyped inst e.call e.call.outcome → IsCallStatus status waits (suspension_of stands) e.call
