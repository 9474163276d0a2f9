-- What has been said of calls, whatever the lines of a script have made.
use Rattle.std.specs.Prelude.{◌≡◌, ℕ, Bool, true, false, List, [], ◌∷◌, slice_get, Option, Some, None}
use Rattle.std.specs.List.{AllByRecursion}
use Rattle.wh_model.specs.Execution.Replay.{Call}
use Rattle.wh_script_model.specs.Texts as texts
use Rattle.wh_script_model.specs.Texts.{CallStatus, done, trapped, wants_fuel, wants_frame, queued, cancelled, dead, refused}
use Rattle.wh_script_model.specs.ScriptState.{NamedInstance, Invoked, ScriptState, call_rejected, call_accepted}
use Rattle.wh_host_model.specs.Owners.{is_open}
use Rattle.wh_script_model.specs.Drains.{call_status}

-- how a call is said to be once its instance is released, which was said to be so before
abbrev pub when_released : CallStatus → CallStatus
when_released (done value charges) = done value charges
when_released (trapped trap charges) = trapped trap charges
when_released (wants_fuel charges) = texts.released charges
when_released (wants_frame fault charges) = texts.released charges
when_released queued = texts.released 0
when_released (cancelled charges) = cancelled charges
when_released (texts.released charges) = texts.released charges
when_released dead = dead
when_released (refused fault) = refused fault

-- what is so said has ended, and is said to be so ever after
abbrev pub is_final : CallStatus → Bool
is_final (done value charges) = true
is_final (trapped trap charges) = true
is_final (wants_fuel charges) = false
is_final (wants_frame fault charges) = false
is_final queued = false
is_final (cancelled charges) = true
is_final (texts.released charges) = true
is_final dead = true
is_final (refused fault) = true

-- its start has pieces to write or a function to call, so that lines are said of it
abbrev pub HasStart : NamedInstance → Type 0
HasStart g = ¬ ((g.pieces ≡ []) × (g.m.start ≡ None))

-- it was said of the call at this place how it is
abbrev pub IsPrinted : NamedInstance → ℕ → Call → Option CallStatus → Type 0
IsPrinted g place c last_printed = last_printed ≡ Some (call_status g place c)

-- or how it was when its instance was released
abbrev pub WasPrinted : NamedInstance → ℕ → Call → Option CallStatus → Type 0
WasPrinted g place c last_printed =
    (status : CallStatus) × (last_printed ≡ Some status) × (call_status g place c ≡ when_released status)

-- so it is with the start of each instance of this kind, and with each call of an `invoke`
pub record ArePrinted (kind : NamedInstance → Type 0) (so : NamedInstance → ℕ → Call → Option CallStatus → Type 0)
    (instances : List NamedInstance) (invoked : List Invoked) : Type 0 where
  pub starts : (i : ℕ) (g : NamedInstance) (c : Call) → slice_get instances i ≡ Some g → kind g → HasStart g
      → slice_get g.calls 0 ≡ Some c → so g 0 c g.last_printed
  pub calls : (n i place : ℕ) (v : Invoked) (g : NamedInstance) (c : Call) → slice_get invoked n ≡ Some v
      → v.outcome ≡ call_accepted i place → slice_get instances i ≡ Some g → kind g → slice_get g.calls place ≡ Some c
      → so g place c v.last_printed

abbrev pub IsAnyone : NamedInstance → Type 0
IsAnyone g = Unit {0}

abbrev pub IsReleased : NamedInstance → Type 0
IsReleased g = g.is_released ≡ true

-- of all of them it was said how they are
abbrev pub AllArePrinted : ScriptState → Type 0
AllArePrinted m = ArePrinted IsAnyone IsPrinted m.instances m.invoked

-- each instance has its start, and each `invoke` that was taken has its call
pub record CallsAreThere (instances : List NamedInstance) (invoked : List Invoked) : Type 0 where
  pub starts : (i : ℕ) (g : NamedInstance) → slice_get instances i ≡ Some g → (c : Call) × (slice_get g.calls 0 ≡ Some c)
  pub calls : (n i place : ℕ) (v : Invoked) → slice_get invoked n ≡ Some v → v.outcome ≡ call_accepted i place
      → (g : NamedInstance) × (c : Call) × (slice_get instances i ≡ Some g) × (slice_get g.calls place ≡ Some c)

-- where it was last said that the call has ended, it has ended so
abbrev pub HasEndedSo : NamedInstance → ℕ → Call → Option CallStatus → Type 0
HasEndedSo g place c last_printed =
    (status : CallStatus) → last_printed ≡ Some status → is_final status ≡ true → call_status g place c ≡ status

-- after an open start all calls are open
abbrev pub StartsFirst : List Call → Type 0
StartsFirst [] = Unit {0}
StartsFirst (first ∷ calls) =
    is_open first.outcome ≡ true → AllByRecursion (λ (c : Call). is_open c.outcome ≡ true) calls

-- what was last said to have ended has ended so: of calls that were taken, and of those that were refused
pub record EndedAsPrinted (instances : List NamedInstance) (invoked : List Invoked) : Type 0 where
  pub taken : ArePrinted IsAnyone HasEndedSo instances invoked
  pub refused : (n fault : ℕ) (v : Invoked) (status : CallStatus) → slice_get invoked n ≡ Some v
      → v.outcome ≡ call_rejected fault → v.last_printed ≡ Some status → status ≡ texts.refused fault
  pub starts_first : (i : ℕ) (g : NamedInstance) → slice_get instances i ≡ Some g → StartsFirst g.calls

-- What the lines of a script have made: its calls are there, of those of released instances it was said how they were
-- when these were released, and those that were said to have ended have.
pub record IsWellMade (m : ScriptState) : Type 0 where
  pub there : CallsAreThere m.instances m.invoked
  pub gone : ArePrinted IsReleased WasPrinted m.instances m.invoked
  pub ended : EndedAsPrinted m.instances m.invoked
