-- What is said of calls at the end of a drain.
use Rattle.std.specs.Prelude.{◌≡◌, ℕ, Bool, false, List, ◌++◌, slice_get, Option, Some, option_map}
use Rattle.std.specs.List.{AllByRecursion}
use Rattle.wh_model.specs.Execution.Store.{InRange}
use Rattle.wh_model.specs.Execution.Replay.{Call, returned}
use Rattle.wh_host_model.specs.Host.Worlds.{Suspension, Tenant, World, journal, journal_calls}
use Rattle.wh_host_model.specs.Host.Happens.{IsLive}
use Rattle.wh_script_model.specs.Settings.{Settings}
use Rattle.wh_script_model.specs.Texts as texts
use Rattle.wh_script_model.specs.Texts.{Reply}
use Rattle.wh_script_model.specs.ScriptState as script
use Rattle.wh_script_model.specs.ScriptState.{ScriptState}
use Rattle.wh_script_model.specs.Drains.{call_status, status_by, PrintsLine, PrintsStart, PrintStarts, PrintsCall, PrintCalls}
use Rattle.wh_script_model.specs.Answers.{replies_text}
use Rattle.wh_host.specs.Hosting.{HostState, IsHost}
use Rattle.wh_instance.specs.declared.stages.CallStatus.{CallStatus}
use Rattle.wh_instance.specs.declared.stages.CallValue.{CallValue}
use Rattle.wh_instance.specs.Told.{IsCallStatus, told_values}
use Rattle.wh_replies.specs.View.{status_of}
use Rattle.wh_replies.specs.declared.call.Status.{Status}
use Rattle.wh_script_laws.specs.Printed.{HasStart, WasPrinted, IsReleased, IsWellMade}
use Rattle.wh_engine.specs.declared.parts.NamedInstance.{NamedInstance}
use Rattle.wh_engine.specs.declared.parts.Invoked.{Invoked}
use Rattle.wh_engine.specs.Finding.{HasNoNumber, RiseFrom}
use Rattle.wh_engine.specs.RepresentedScript.{ScriptHostState, RepresentsScript, IsNamedInstance, IsInvokedAs}
use Rattle.wh_script_laws.specs.Following.{device_fault, IsAtSameFault}

-- The host shows the calls that a script knows of an instance, where that isn't released.
pub record ShowsCalls (h : HostState) (x : NamedInstance) (g : script.NamedInstance) : Type 0 where
  pub released : x.is_released ≡ g.is_released
  pub world : World
  pub is : IsHost h world
  pub live : g.is_released ≡ false
      → (t : Tenant) × IsLive world x.id t × (g.calls ≡ journal_calls (journal t)) × IsAtSameFault g t

-- what is said of a call of which the host tells this
abbrev pub IsPrintedAs : CallStatus → Option Status → Type 0
IsPrintedAs told last_printed =
    (waits : Bool) (stands : Option Suspension) (c : Call) → IsCallStatus told waits stands c
    → (status : Status) × (last_printed ≡ Some status)
    × (status_of status ≡ status_by c.outcome false waits (device_fault stands) c.charges)

-- and so of a call that has returned these
abbrev pub IsReturnedSo : Option CallValue → ℕ → Option Status → Type 0
IsReturnedSo value charges last_printed =
    AllByRecursion InRange (told_values value)
    → (status : Status) × (last_printed ≡ Some status)
    × ((waits : Bool) (at_fault : Option ℕ)
    → status_of status ≡ status_by (returned (told_values value)) false waits at_fault charges)

-- so the call at this place is, which was said to be so
abbrev pub IsStatusAt : HostState → NamedInstance → ℕ → Option Status → Option Status → Type 0
IsStatusAt h x place last_printed found =
    (g : script.NamedInstance) (c : Call) → ShowsCalls h x g → slice_get g.calls place ≡ Some c
    → (IsReleased g → WasPrinted g place c (option_map status_of last_printed))
    → (status : Status) × (found ≡ Some status) × (status_of status ≡ call_status g place c)

-- the one of these instances that has the number shows the calls of this; where none has, this is released
pub record IsLookedUp (h : HostState) (xs : List NamedInstance) (i : ℕ) (g : script.NamedInstance) : Type 0 where
  pub rise : RiseFrom 0 xs
  pub shows : (at : ℕ) (x : NamedInstance) → slice_get xs at ≡ Some x → x.id.number ≡ i → ShowsCalls h x g
  pub gone : HasNoNumber xs i → IsReleased g

-- so the call at this place is of the instance of this number, which was said to be so
abbrev pub IsFoundAt : HostState → List NamedInstance → (number place : ℕ) → Option Status → Option Status → Type 0
IsFoundAt h xs number place last_printed found =
    (g : script.NamedInstance) (c : Call) → IsLookedUp h xs number g → slice_get g.calls place ≡ Some c
    → (IsReleased g → WasPrinted g place c (option_map status_of last_printed))
    → (status : Status) × (found ≡ Some status) × (status_of status ≡ call_status g place c)

-- the lines stand after the text
abbrev pub AddsLines : List Reply → List ℕ → List ℕ → Type 0
AddsLines lines text text2 = text2 ≡ text ++ replies_text lines

-- the line of a call, where it differs from the last one
abbrev pub PrintsOf : texts.Caller → Option Status → Status → List ℕ → List ℕ → Type 0
PrintsOf who last_printed status text text2 =
    (lines : List Reply) × PrintsLine who (option_map status_of last_printed) (status_of status) lines
    × AddsLines lines text text2

-- the line of a start
abbrev pub PrintsStartOf : HostState → NamedInstance → NamedInstance → List ℕ → List ℕ → Type 0
PrintsStartOf h x x2 text text2 =
    (i : ℕ) (g : script.NamedInstance) (c : Call) → IsNamedInstance i x g → ShowsCalls h x g → slice_get g.calls 0 ≡ Some c
    → (IsReleased g → HasStart g → WasPrinted g 0 c g.last_printed)
    → (lines : List Reply) × (g2 : script.NamedInstance) × PrintsStart g lines g2 × AddsLines lines text text2
    × IsNamedInstance i x2 g2 × (x2.id ≡ x.id)

-- the calls of an `invoke` are shown, and those of released instances were said
abbrev pub HasItsCall : HostState → List NamedInstance → List script.NamedInstance → script.Invoked → Type 0
HasItsCall h xs instances v =
    (i place : ℕ) → v.outcome ≡ script.call_accepted i place
    → (g : script.NamedInstance) × (c : Call) × (slice_get instances i ≡ Some g) × (slice_get g.calls place ≡ Some c)
    × IsLookedUp h xs i g × (IsReleased g → WasPrinted g place c v.last_printed)

-- so the call of an `invoke` is
abbrev pub IsInvokedNow : HostState → List NamedInstance → Invoked → Option Status → Type 0
IsInvokedNow h xs x found =
    (instances : List script.NamedInstance) (v : script.Invoked) (number : ℕ) → IsInvokedAs number x v → HasItsCall h xs instances v
    → (status : Status) × (found ≡ Some status)
    × ((lines : List Reply) → PrintsLine (texts.call number) v.last_printed (status_of status) lines
    → PrintsCall instances number v lines (record v { last_printed = Some (status_of status) }))

-- the line of the call of an `invoke`
abbrev pub PrintsCallOf : HostState → List NamedInstance → Invoked → Invoked → List ℕ → List ℕ → Type 0
PrintsCallOf h xs x x2 text text2 =
    (instances : List script.NamedInstance) (v : script.Invoked) (number : ℕ) → IsInvokedAs number x v → HasItsCall h xs instances v
    → (lines : List Reply) × (v2 : script.Invoked) × PrintsCall instances number v lines v2 × AddsLines lines text text2
    × IsInvokedAs number x2 v2

-- whatever script the engine represents, these are the lines of all starts
abbrev pub PrintsAllStarts : {D : Type 0} → ScriptHostState D → List ℕ → ScriptHostState D → List ℕ → Type 0
PrintsAllStarts e text e2 text2 =
    (settings : Settings) (m : ScriptState) → RepresentsScript settings e m → IsWellMade m
    → (lines : List Reply) × (instances : List script.NamedInstance) × PrintStarts m.instances lines instances
    × AddsLines lines text text2 × RepresentsScript settings e2 (record m { instances = instances })

-- of all calls
abbrev pub PrintsAllCalls : {D : Type 0} → ScriptHostState D → List ℕ → ScriptHostState D → List ℕ → Type 0
PrintsAllCalls e text e2 text2 =
    (settings : Settings) (m : ScriptState) → RepresentsScript settings e m → IsWellMade m
    → (lines : List Reply) × (invoked : List script.Invoked) × PrintCalls m.instances 1 m.invoked lines invoked
    × AddsLines lines text text2 × RepresentsScript settings e2 (record m { invoked = invoked })

-- and of both, one after the other
abbrev pub PrintsAll : {D : Type 0} → ScriptHostState D → List ℕ → ScriptHostState D → List ℕ → Type 0
PrintsAll e text e2 text2 =
    (settings : Settings) (m : ScriptState) → RepresentsScript settings e m → IsWellMade m
    → (starts calls : List Reply) × (instances : List script.NamedInstance) × (invoked : List script.Invoked)
    × PrintStarts m.instances starts instances × PrintCalls instances 1 m.invoked calls invoked
    × AddsLines (starts ++ calls) text text2
    × RepresentsScript settings e2 (record m { instances = instances; invoked = invoked })
