-- What the owner of an instance asks of its calls: a new one, more fuel, an end, another try.
use Rattle.std.specs.Prelude.{◌≡◌, ◌≢◌, ℕ, ◌+◌, ◌-◌, ◌<◌, ◌≤◌, ◌⊎◌, true, false, List, [], ◌∷◌, ◌++◌, length, min, Option, Some, None, ℤ}
use Rattle.wh_model.specs.Format.Syntax.{FuncType, Body, Module}
use Rattle.wh_model.specs.Execution.Store.{Value}
use Rattle.wh_model.specs.Execution.Replay.{Call, cancelled}
use Rattle.wh_space_model.specs.declared.plain.SwapError.{SwapError}
use Rattle.wh_space_model.specs.Parts.{Space}
use Rattle.wh_space_model.specs.Sight.{HasNoPins}
use Rattle.wh_host_model.specs.Host.Spaces.{WaitsAlone}
use Rattle.wh_host_model.specs.Host.Worlds.{Doing, Suspension, for_fuel, for_frame, for_device, Tenant, journal, store_in}
use Rattle.wh_host_model.specs.Owners.{Entry}
use Rattle.wh_host_model.specs.Host.CallAnswers.{ended_by, Faces, Closes}
use Rattle.wh_host_model.specs.Owners.{AreArguments, ExportsOwn, InvokeFault, arguments, instance_dead, journal_full, most_calls, most_fuel, most_open, no_export, queue_full, rank}
use Rattle.wh_host_model.specs.Owners.{new_entry}

-- ---- a new call

-- how many calls are open, the start not counted
abbrev pub open_count : Tenant → ℕ
open_count t = length t.open_calls - (1 - min 1 (length t.ended))

-- the fault is met, whatever of the other ones is
abbrev pub Meets : Module → Tenant → List ℕ → List ℤ → InvokeFault → Type 0
Meets m t name given no_export = (x : ℕ) (type : FuncType) (body : Body) → ¬ (ExportsOwn m t.inst name x type body)
Meets m t name given arguments =
    (x : ℕ) (type : FuncType) (body : Body) (vs : List Value) → ExportsOwn m t.inst name x type body
    → ¬ (AreArguments type.params given vs)
Meets m t name given queue_full = most_open ≤ open_count t
Meets m t name given instance_dead = t.dead ≡ true
Meets m t name given journal_full = most_calls ≤ length (journal t)

abbrev pub IsFirst : Module → Tenant → List ℕ → List ℤ → InvokeFault → Type 0
IsFirst m t name given fault =
    Meets m t name given fault × ((other : InvokeFault) → rank other < rank fault → ¬ (Meets m t name given other))

-- A call is accepted: it stands at the end of the journal, and is faced where no other is open.
pub record TakesCall (m : Module) (s : Space) (t : Tenant) (name : List ℕ) (given : List ℤ) (fuel at : ℕ) (t2 : Tenant)
    : Type 0 where
  pub func : ℕ
  pub type : FuncType
  pub body : Body
  pub vs : List Value
  pub doing : Doing
  pub exports : ExportsOwn m t.inst name func type body
  pub fits : AreArguments type.params given vs
  pub can_count : fuel ≤ most_fuel
  pub few_open : open_count t < most_open
  pub alive : t.dead ≡ false
  pub few_calls : length (journal t) < most_calls
  pub place : at ≡ length (journal t)
  pub first : t.open_calls ≡ [] → Faces t.inst (store_in s t) (new_entry func vs given fuel ∷ []) doing
  pub later : t.open_calls ≢ [] → doing ≡ t.doing
  pub after : t2 ≡ record t { doing = doing; open_calls = t.open_calls ++ new_entry func vs given fuel ∷ [] }

-- ---- the present call

abbrev pub more_fuel : Entry → ℕ → Entry
more_fuel e n = record e { call = record e.call { fuel = min (e.call.fuel + n) most_fuel } }

-- where it was blocked on fuel, it isn't any more, if this call has some left
abbrev pub WaitsAfter : Call → Option Suspension → Option Suspension → Type 0
WaitsAfter call (Some for_fuel) o =
    ((call.charges < call.fuel) × (o ≡ None)) ⊎ ((call.fuel ≤ call.charges) × (o ≡ Some for_fuel))
WaitsAfter call old o = o ≡ old

-- the present call has n more fuel
pub data Refuels (t : Tenant) (n : ℕ) : Tenant → Type 0 where
  has_more : {e : Entry} {es : List Entry} {o : Option Suspension}
      → t.open_calls ≡ e ∷ es → WaitsAfter (more_fuel e n).call t.waiting_for o
      → Refuels t n (record t { open_calls = more_fuel e n ∷ es; waiting_for = o })

-- the present call ends where it is, and waits for no frame
pub data Cancels (s : Space) (t : Tenant) : Space → Tenant → Type 0 where
  ends : {e : Entry} {es : List Entry} {s2 : Space} {t2 : Tenant}
      → t.open_calls ≡ e ∷ es → WaitsAlone t.place None s s2 → HasNoPins s2 t.place
      → Closes s2 t (ended_by e cancelled) es t.rest t2 → Cancels s t s2 t2

-- the present call waits for a device fault, and may be tried again
pub data Retries (t : Tenant) : Tenant → Type 0 where
  may_try : {e : Entry} {es : List Entry} {fault : SwapError}
      → t.open_calls ≡ e ∷ es → t.waiting_for ≡ Some (for_device fault)
      → Retries t (record t { waiting_for = Some for_frame })
