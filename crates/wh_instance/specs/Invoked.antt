-- Whether an instance takes a call, and what that does to it.
use Rattle.std.specs.Prelude.{◌≡◌, ◌+◌, ◌-◌, ◌<◌, ◌≤◌, ℕ, true, false, List, [], ◌∷◌, ◌++◌, length, min, slice_get, Option, Some, None, ℤ}
use Rattle.wh_model.specs.Format.Syntax.{FuncType, Body}
use Rattle.wh_model.specs.Validity.Typing.{Context}
use Rattle.wh_model.specs.Execution.Store.{Value, own, Instance}
use Rattle.wh_space_model.specs.Parts.{Space, view}
use Rattle.wh_host_model.specs.Host.Worlds.{Tenant}
use Rattle.wh_host_model.specs.Host.OwnerCalls.{Meets, IsFirst, TakesCall}
use Rattle.wh_host_model.specs.Owners.{most_open, most_calls, InvokeFault, no_export, arguments, queue_full, instance_dead, journal_full, AreArguments, rank}
use Rattle.wh_syntax.specs.View.{view_module}
use Rattle.wh_imports.specs.LinkedState.{LinkedState}
use Rattle.wh_journal.specs.Calls.{JournalCallState, JournalState}
use Rattle.wh_journal.specs.declared.calls.CallEnd.TheVariants.{Open}
use Rattle.wh_instance.specs.CallsByName.{NamesOwn, WordsAre}
use Rattle.wh_instance.specs.declared.error.InvokeError.{InvokeError}
use Rattle.wh_instance.specs.declared.error.InvokeError.TheVariants.{NoExport, Arguments, QueueFull, Dead, JournalFull, Memory}
use Rattle.wh_instance.specs.Tenancy.{HostInstanceState, IsTenant}
use Rattle.wh_machine.specs.MachineRuns.{IsInstanceOf}

-- ---- faults

-- out of memory is none of the definitions' faults
abbrev pub refusal_of : InvokeError → Option InvokeFault
refusal_of NoExport = Some no_export
refusal_of Arguments = Some arguments
refusal_of QueueFull = Some queue_full
refusal_of Dead = Some instance_dead
refusal_of JournalFull = Some journal_full
refusal_of Memory = None

-- a fault has the number by which the definitions order it, and out of memory comes last
abbrev pub number_of_refusal : Option InvokeFault → ℕ
number_of_refusal (Some fault) = rank fault
number_of_refusal None = 7

abbrev pub invoke_number : InvokeError → ℕ
invoke_number e = number_of_refusal (refusal_of e)

-- ---- the journal's room

-- how many calls are open, the start not counted
abbrev pub open_in : HostInstanceState → ℕ
open_in x = length x.journal.open_calls - (1 - min 1 (length x.journal.ended))

abbrev pub calls_in_journal : HostInstanceState → ℕ
calls_in_journal x = length x.journal.ended + length x.journal.open_calls

pub record HasCallRoom (x : HostInstanceState) : Type 0 where
  pub few_open : open_in x < most_open
  pub alive : x.dead ≡ false
  pub few_calls : calls_in_journal x < most_calls

-- the first of them that isn't so
abbrev pub LacksCallRoom : HostInstanceState → InvokeError → Type 0
LacksCallRoom x QueueFull = most_open ≤ open_in x
LacksCallRoom x Dead = (open_in x < most_open) × (x.dead ≡ true)
LacksCallRoom x JournalFull = (open_in x < most_open) × (x.dead ≡ false) × (most_calls ≤ calls_in_journal x)
LacksCallRoom x e = ⊥

-- ---- one more call

-- in each instance of the module the numbers are arguments of this function
abbrev pub TakesThese : LinkedState → ℕ → List ℤ → Type 0
TakesThese l func given =
    (c : Context) (inst : Instance) (type : FuncType) (body : Body) → IsInstanceOf l c inst
    → slice_get inst.funcs func ≡ Some (own type body) → (vs : List Value) × AreArguments type.params given vs

-- in none they are
abbrev pub TakesNone : LinkedState → ℕ → List ℤ → Type 0
TakesNone l func given =
    (c : Context) (inst : Instance) (type : FuncType) (body : Body) → IsInstanceOf l c inst
    → slice_get inst.funcs func ≡ Some (own type body) → (vs : List Value) → ¬ (AreArguments type.params given vs)

-- the name is that of this function, these are arguments of it, and there is room for a call
pub record MayTake (l : LinkedState) (x : HostInstanceState) (name : List ℕ) (given : List ℤ) (func : ℕ) : Type 0 where
  pub names : NamesOwn l name func
  pub takes : TakesThese l func given
  pub room : HasCallRoom x

abbrev pub new_call : ℕ → List ℤ → List ℕ → ℕ → JournalCallState
new_call func given words fuel =
    record { func = Some func; given = given; words = words; fuel = fuel; pieces = 0; charges = 0; end = Open }

abbrev pub with_journal : HostInstanceState → JournalState → HostInstanceState
with_journal x j = record x { journal = j }

-- it stands after the other calls, at this place
abbrev pub AddsCall : LinkedState → HostInstanceState → ℕ → List ℤ → ℕ → ℕ → HostInstanceState → Type 0
AddsCall l x func given fuel at x2 =
    (words : List ℕ) × WordsAre l func given words × (at ≡ calls_in_journal x)
    × (x2 ≡ with_journal x (record x.journal {
      open_calls = x.journal.open_calls ++ new_call func given words fuel ∷ [];
    }))

-- ---- calls

-- it represents some instance of this module
abbrev pub IsSomeTenant : LinkedState → HostInstanceState → Type 0
IsSomeTenant l x = (limit : ℕ) × (bytes : List ℕ) × (t : Tenant) × IsTenant l limit x bytes t

-- for whatever instance of this module it stands, and over whatever space shows its bytes
abbrev pub OfTenantOf : LinkedState → HostInstanceState → (ℕ → List ℕ → Tenant → Space → Type 0) → Type 0
OfTenantOf l x P =
    (limit : ℕ) (bytes : List ℕ) (t : Tenant) (s : Space) → IsTenant l limit x bytes t → view s t.place ≡ bytes
    → P limit bytes t s

-- it takes the call, which stands at this place of its journal
abbrev pub InvokesTenant : LinkedState → HostInstanceState → List ℕ → List ℤ → ℕ → ℕ → HostInstanceState → Type 0
InvokesTenant l x name given fuel at x2 =
    OfTenantOf l x (λ limit bytes t s.
    (t2 : Tenant) × TakesCall (view_module l.valid.decoded) s t name given fuel at t2 × IsTenant l limit x2 bytes t2)

-- this fault is the first that it meets, or it meets none, and memory runs out
abbrev pub RefusesCallFor : Option InvokeFault → LinkedState → Tenant → List ℕ → List ℤ → Type 0
RefusesCallFor (Some fault) l t name given = IsFirst (view_module l.valid.decoded) t name given fault
RefusesCallFor None l t name given = (fault : InvokeFault) → ¬ (Meets (view_module l.valid.decoded) t name given fault)

abbrev pub RefusesInvoke : LinkedState → HostInstanceState → List ℕ → List ℤ → InvokeError → Type 0
RefusesInvoke l x name given e =
    OfTenantOf l x (λ limit bytes t s. RefusesCallFor (refusal_of e) l t name given)
