-- A drain: each call is run alone, on a flat memory, until it ends or waits for fuel; and then the lines that it
-- prints.
use Rattle.std.specs.Prelude.{◌≡◌, ℕ, ◌+◌, Bool, true, false, List, [], ◌∷◌, ◌++◌, take, slice_get, Option, Some, None, is_some, ℤ}
use Rattle.std.specs.List.{AllZip}
use Rattle.wh_model.specs.Format.Numbering.{trap_number}
use Rattle.wh_model.specs.Execution.Numbers.{bits, signed}
use Rattle.wh_model.specs.Execution.Store.{Value, value, Instance, Store}
use Rattle.wh_model.specs.Execution.Configuration.{Config}
use Rattle.wh_model.specs.Execution.Reduction.{IsNext}
use Rattle.wh_model.specs.Execution.Replay.{Outcome, returned, stopped, cancelled, dead, pending, Call, Standing, idle, running, Replay}
use Rattle.wh_host_model.specs.Owners.{given_of, is_open, first_open}
use Rattle.wh_script_model.specs.Texts as texts
use Rattle.wh_script_model.specs.Texts.{Caller, call, start, CallStatus, done, trapped, wants_fuel, wants_frame, queued, released, refused, Reply, call_is}
use Rattle.wh_script_model.specs.ScriptState.{NamedInstance, call_rejected, call_accepted, Invoked, ScriptState}

-- ---- calls run alone

-- what had ended is as it was, and what was open has some outcome, but isn't cancelled
pub data ComesTo (c : Call) : Call → Type 0 where
  had_ended : is_open c.outcome ≡ false → ComesTo c c
  goes_on : {outcome : Outcome} {pieces charges : ℕ} → is_open c.outcome ≡ true → ¬ (outcome ≡ cancelled)
      → ComesTo c (record c { fragments = pieces; charges = charges; outcome = outcome })

-- none is open; or all fuel of the first open one is used, and a charged reduction is next
pub data AreAtRest (inst : Instance) (calls : List Call) : Standing → Type 0 where
  all_ended : {s : Store} → first_open calls ≡ None → AreAtRest inst calls (idle s)
  used_up : {c : Call} {at : Config} → first_open calls ≡ Some c → c.charges ≡ c.fuel → IsNext inst at
      → AreAtRest inst calls (running at)

-- The calls of an instance come as far as they can, one after the other, as its journal says. Nobody else is named.
pub data RunsAlone (g : NamedInstance) : NamedInstance → Type 0 where
  is_gone : g.is_released ≡ true → RunsAlone g g
  has_run : {calls : List Call} {z : Standing}
      → g.is_released ≡ false → AllZip ComesTo g.calls calls → Replay g.m (given_of g.params) calls z
      → AreAtRest g.inst calls z → RunsAlone g (record g { calls = calls })

-- ---- how a call is said to be

-- what a call has returned, signed: one value at most
abbrev pub signed_result : Value → ℤ
signed_result (value t n) = signed (bits t) n

abbrev pub returned_value : List Value → Option ℤ
returned_value [] = None
returned_value (v ∷ vs) = Some (signed_result v)

-- an open call of an instance that is released, or not; after an open one, or not; the first one standing for a fault of the
-- device, or not
abbrev pub open_status : (is_released waits : Bool) (at_fault : Option ℕ) (charges : ℕ) → CallStatus
open_status true waits at_fault charges = released charges
open_status false true at_fault charges = queued
open_status false false None charges = wants_fuel charges
open_status false false (Some fault) charges = wants_frame fault charges

abbrev pub status_by : Outcome → (is_released waits : Bool) (at_fault : Option ℕ) (charges : ℕ) → CallStatus
status_by (returned results) gone waits at_fault charges = done (returned_value results) charges
status_by (stopped trap) gone waits at_fault charges = trapped (trap_number trap) charges
status_by cancelled gone waits at_fault charges = texts.cancelled charges
status_by dead gone waits at_fault charges = texts.dead
status_by pending gone waits at_fault charges = open_status gone waits at_fault charges

-- the call at a place of the journal
abbrev pub call_status : NamedInstance → (place : ℕ) → Call → CallStatus
call_status g place c =
    status_by c.outcome g.is_released (is_some (first_open (take place g.calls))) g.at_fault c.charges

-- ---- what is printed

-- the line, where it differs from the last one; what has ended has the same line ever after
pub data PrintsLine (who : Caller) (last_printed : Option CallStatus) (status : CallStatus) : List Reply → Type 0 where
  as_before : last_printed ≡ Some status → PrintsLine who last_printed status []
  anew : ¬ (last_printed ≡ Some status) → PrintsLine who last_printed status (call_is who status ∷ [])

-- a start without pieces and without a function has no line
pub data PrintsStart (g : NamedInstance) : List Reply → NamedInstance → Type 0 where
  has_none : g.pieces ≡ [] → g.m.start ≡ None → PrintsStart g [] g
  has_one : {first : Call} {lines : List Reply}
      → ¬ ((g.pieces ≡ []) × (g.m.start ≡ None)) → slice_get g.calls 0 ≡ Some first
      → PrintsLine (start g.name) g.last_printed (call_status g 0 first) lines
      → PrintsStart g lines (record g { last_printed = Some (call_status g 0 first) })

-- of an `invoke` with a number
pub data PrintsCall (instances : List NamedInstance) (number : ℕ) (v : Invoked) : List Reply → Invoked → Type 0 where
  is_refused : {fault : ℕ} {lines : List Reply}
      → v.outcome ≡ call_rejected fault → PrintsLine (call number) v.last_printed (refused fault) lines
      → PrintsCall instances number v lines (record v { last_printed = Some (refused fault) })
  is_taken : {i place : ℕ} {g : NamedInstance} {c : Call} {lines : List Reply}
      → v.outcome ≡ call_accepted i place → slice_get instances i ≡ Some g → slice_get g.calls place ≡ Some c
      → PrintsLine (call number) v.last_printed (call_status g place c) lines
      → PrintsCall instances number v lines (record v { last_printed = Some (call_status g place c) })

-- by number
abbrev pub PrintStarts : List NamedInstance → List Reply → List NamedInstance → Type 0
PrintStarts [] lines after = (lines ≡ []) × (after ≡ [])
PrintStarts (g ∷ gs) lines after =
    (here rest : List Reply) × (g2 : NamedInstance) × (gs2 : List NamedInstance) × (lines ≡ here ++ rest) × (after ≡ g2 ∷ gs2)
    × PrintsStart g here g2 × PrintStarts gs rest gs2

-- by number, the first having this one
abbrev pub PrintCalls : List NamedInstance → ℕ → List Invoked → List Reply → List Invoked → Type 0
PrintCalls instances number [] lines after = (lines ≡ []) × (after ≡ [])
PrintCalls instances number (v ∷ vs) lines after =
    (here rest : List Reply) × (v2 : Invoked) × (vs2 : List Invoked) × (lines ≡ here ++ rest) × (after ≡ v2 ∷ vs2)
    × PrintsCall instances number v here v2 × PrintCalls instances (number + 1) vs rest vs2

-- what a drain makes of what a script has made, and the lines that it prints
abbrev pub DrainRule : Type 1
DrainRule = ScriptState → List Reply → ScriptState → Type 0

-- all calls are run, in this way, and meet these faults; then the starts are said, and then the calls
pub record DrainsBy (EachRuns : List NamedInstance → List NamedInstance → Type 0) (faults : List ℕ)
    (w : ScriptState) (lines : List Reply) (w2 : ScriptState) : Type 0 where
  pub run : List NamedInstance
  pub instances : List NamedInstance
  pub invoked : List Invoked
  pub starts : List Reply
  pub calls : List Reply
  pub each_runs : EachRuns w.instances run
  pub print_starts : PrintStarts run starts instances
  pub print_calls : PrintCalls instances 1 w.invoked calls invoked
  pub lines_are : lines ≡ starts ++ calls
  pub after : w2 ≡ record w { instances = instances; invoked = invoked; faults_met = faults ++ w.faults_met }

-- each instance's alone, and none meets a fault
abbrev pub Drains : DrainRule
Drains = DrainsBy (AllZip RunsAlone) []
