-- How what a script has made follows what happens on the host.
use Rattle.std.specs.Prelude.{◌≡◌, ◌≢◌, ◌⊎◌, ℕ, Bool, true, false, List, [], ◌∷◌, ◌++◌, slice_get, Option, Some, None, ℤ}
use Rattle.wh_space_model.specs.declared.plain.InstId.{InstId}
use Rattle.wh_space_model.specs.declared.plain.SwapError.{SwapError}
use Rattle.wh_host_model.specs.declared.plain.TurnEnd.{TurnEnd}
use Rattle.wh_host_model.specs.Host.Worlds.{for_device, Tenant, World, tenant}
use Rattle.wh_host_model.specs.Owners.{Params}
use Rattle.wh_host_model.specs.Host.Laws.{AfterEvents}
use Rattle.wh_host_model.specs.Host.Happens.{IsLive, IsTurn, LoadAnswer, IsLoad, AdmitAnswer, admit_ok, admit_refused, admit_out_of_memory, IsAdmit, InvokeAnswer, IsInvoke, CallAnswer, IsRefuel, IsCancel, IsRetry, IsRelease, OnlyMoves}
use Rattle.wh_host_model.specs.Host.Suspensions.{CanGoOn}
use Rattle.wh_script_model.specs.Settings.{Settings}
use Rattle.wh_script_model.specs.Commands.{Command, refuel, cancel, retry, release}
use Rattle.wh_script_model.specs.Texts.{CallStatus, Reply}
use Rattle.wh_script_model.specs.ScriptState.{NamedModule, NamedInstance, Invoked, ScriptState, empty_script, HasInstance, SomeCallIsOpen, SomeCallMayGo}
use Rattle.wh_script_model.specs.Drains.{PrintsStart, PrintStarts, PrintsCall, PrintCalls, Drains}
use Rattle.wh_script_model.specs.Served.{GoesNoFurther}
use Rattle.wh_script_model.specs.Receiving.{ReceivesModule, ReceivesInstance, ReceivesCall}
use Rattle.wh_script_model.specs.Answers.{Files, IsObeyed, AnswersScript}
use Rattle.wh_script_model.specs.Failing.{RunsAmid, ZipAmid}
use Rattle.wh_script_laws.specs.Following.{Knows, RunsKnown, StaysWhole}
use Rattle.wh_script_laws.specs.Printed.{AllArePrinted, IsWellMade, is_final}
use Rattle.wh_script_laws.specs.OutOfMemory.{NoneIsOutOfMemory}
use Rattle.wh_script_laws.specs.Replies.{SaysModule, admit_reply, invoke_outcome, refuel_reply, cancel_reply, retry_reply, release_reply}

-- ---- commands

-- a module comes
abbrev pub ModulesFollow : Type 0
ModulesFollow =
    AfterEvents (λ w. (settings : Settings) (m : ScriptState) (places : List ℕ) (name bytes : List ℕ)
    (answer : LoadAnswer) (w2 : World) (reply : Reply) → Knows settings w m places → IsLoad w bytes answer w2
    → SaysModule name answer reply
    → (m2 : ScriptState) × ReceivesModule true m name bytes reply m2 × Knows settings w2 m2 places)

-- the places after an answer to an admission
abbrev pub places_after : List ℕ → AdmitAnswer → List ℕ
places_after places (admit_ok id) = places ++ id.place ∷ []
places_after places (admit_refused fault) = places
places_after places admit_out_of_memory = places

-- an instance comes, of a module of the script
abbrev pub InstancesFollow : Type 0
InstancesFollow =
    AfterEvents (λ w. (settings : Settings) (m : ScriptState) (places : List ℕ) (k : ℕ) (named : NamedModule)
    (name : List ℕ) (p : Params) (answer : AdmitAnswer) (w2 : World) → Knows settings w m places
    → slice_get m.modules k ≡ Some named
    → IsAdmit w k p answer w2 → StaysWhole w.space w2.space
    → (m2 : ScriptState) × ReceivesInstance true settings m name named.m p (admit_reply name answer) m2
    × Knows settings w2 m2 (places_after places answer))

-- a call is asked of an instance
abbrev pub CallsFollow : Type 0
CallsFollow =
    AfterEvents (λ w. (settings : Settings) (m : ScriptState) (places : List ℕ) (i place : ℕ) (g : NamedInstance)
    (name : List ℕ) (given : List ℤ) (fuel : ℕ) (answer : InvokeAnswer) (w2 : World) → Knows settings w m places
    → slice_get m.instances i ≡ Some g
    → slice_get places i ≡ Some place → IsInvoke w (record { place = place; number = i }) name given fuel answer w2
    → StaysWhole w.space w2.space
    → (m2 : ScriptState) × ReceivesCall true m i g name fuel given m2
    × (m2.invoked ≡ m.invoked ++ record { outcome = invoke_outcome i answer; last_printed = None } ∷ [])
    × Knows settings w2 m2 places)

-- the answer to what is asked of the present call of an instance
abbrev pub FollowsCommand : (World → InstId → CallAnswer → World → Type 0) → Command → (CallAnswer → Reply) → List ℕ
    → Type 0
FollowsCommand asks command reply name =
    AfterEvents (λ w. (settings : Settings) (files : Files) (number : ℕ) (m : ScriptState) (places : List ℕ)
    (i place : ℕ) (g : NamedInstance) (answer : CallAnswer) (w2 : World) → Knows settings w m places → HasInstance m name i g
    → slice_get places i ≡ Some place → asks w (record { place = place; number = i }) answer w2
    → StaysWhole w.space w2.space
    → (m2 : ScriptState) × IsObeyed true settings files m number command (reply answer ∷ []) m2 × Knows settings w2 m2 places)

abbrev pub RefuelsFollow : Type 0
RefuelsFollow =
    (name : List ℕ) (n : ℕ)
    → FollowsCommand (λ w id answer w2. IsRefuel w id n answer w2) (refuel name n) (refuel_reply name) name

abbrev pub CancelsFollow : Type 0
CancelsFollow =
    (name : List ℕ) → FollowsCommand (λ w id answer w2. IsCancel w id answer w2) (cancel name) (cancel_reply name) name

abbrev pub RetriesFollow : Type 0
RetriesFollow =
    (name : List ℕ) → FollowsCommand (λ w id answer w2. IsRetry w id answer w2) (retry name) (retry_reply name) name

-- an instance goes
abbrev pub ReleasesFollow : Type 0
ReleasesFollow =
    AfterEvents (λ w. (settings : Settings) (files : Files) (number : ℕ) (m : ScriptState) (places : List ℕ)
    (i place : ℕ) (g : NamedInstance) (name : List ℕ) (answer : Option (List ℕ)) (w2 : World) → Knows settings w m places
    → HasInstance m name i g
    → slice_get places i ≡ Some place → IsRelease w (record { place = place; number = i }) answer w2
    → StaysWhole w.space w2.space
    → (m2 : ScriptState) × IsObeyed true settings files m number (release name) (release_reply name answer ∷ []) m2
    × Knows settings w2 m2 places)

-- ---- drains

-- what is known runs from where it is
abbrev pub DrainsBegin : Type 0
DrainsBegin =
    (settings : Settings) (w : World) (m : ScriptState) (places : List ℕ) → Knows settings w m places
    → RunsKnown [] settings w m places

-- turns of who can go on make calls progress
abbrev pub TurnsFollow : Type 0
TurnsFollow =
    AfterEvents (λ w. (faults : List ℕ) (settings : Settings) (m : ScriptState) (places : List ℕ) (id : InstId) (q : ℕ)
    (t : Tenant) (answer : TurnEnd) (w2 : World) → RunsKnown faults settings w m places → IsLive w id t → CanGoOn t
    → IsTurn w id q answer w2 → StaysWhole w.space w2.space → RunsKnown faults settings w2 m places)

-- moves of pages don't, and what is known stays so
abbrev pub MovesFollow : Type 0
MovesFollow =
    AfterEvents (λ w. (faults : List ℕ) (settings : Settings) (m : ScriptState) (places : List ℕ) (w2 : World)
    → OnlyMoves w w2 → StaysWhole w.space w2.space
    → (Knows settings w m places → Knows settings w2 m places)
    × (RunsKnown faults settings w m places → RunsKnown faults settings w2 m places))

-- its present call is blocked on a fault of a device
abbrev pub StandsForDevice : Tenant → Type 0
StandsForDevice t = (fault : SwapError) × (t.waiting_for ≡ Some (for_device fault))

-- nobody has a call that can go on
abbrev pub AllServed : World → Type 0
AllServed w = (i : ℕ) (t : Tenant) → tenant w i ≡ Some t → GoesNoFurther t ⊎ StandsForDevice t

-- where nobody has, each instance's calls have run as they do alone, or until a fault was met
abbrev pub DrainsEnd : Type 0
DrainsEnd =
    AfterEvents (λ w. (faults : List ℕ) (settings : Settings) (m : ScriptState) (places : List ℕ)
    → RunsKnown faults settings w m places → AllServed w
    → (run : List NamedInstance) × ZipAmid RunsAmid faults m.instances run
    × Knows settings w (record m { instances = run; faults_met = faults ++ m.faults_met }) places)

-- and where somebody has an open call, the script knows one
abbrev pub OpenIsKnown : Type 0
OpenIsKnown =
    AfterEvents (λ w. (settings : Settings) (m : ScriptState) (places : List ℕ) (i : ℕ) (t : Tenant)
    → Knows settings w m places → tenant w i ≡ Some t → t.open_calls ≢ [] → SomeCallIsOpen m)

-- one that may go on, where that can
abbrev pub GoingIsKnown : Type 0
GoingIsKnown =
    AfterEvents (λ w. (settings : Settings) (m : ScriptState) (places : List ℕ) (i : ℕ) (t : Tenant)
    → Knows settings w m places → tenant w i ≡ Some t → CanGoOn t → SomeCallMayGo m)

-- to say how calls are changes nothing of that
abbrev pub PrintingFollows : Type 0
PrintingFollows =
    (settings : Settings) (w : World) (m : ScriptState) (places : List ℕ) (lines : List Reply) (last_printed : List NamedInstance)
    (invoked : List Invoked) → Knows settings w m places → PrintStarts m.instances lines last_printed
    → Knows settings w (record m { instances = last_printed; invoked = invoked }) places

-- ---- what has been said

-- what lines make is well made: from the beginning
abbrev pub BeginsWell : Type 0
BeginsWell = IsWellMade empty_script

-- while calls run
abbrev pub RunsWell : Type 0
RunsWell =
    (faults : List ℕ) (m : ScriptState) (run : List NamedInstance) → IsWellMade m
    → ZipAmid RunsAmid faults m.instances run → IsWellMade (record m { instances = run; faults_met = faults ++ m.faults_met })

-- where it is said how they are: then it was said of all of them
abbrev pub SaysWell : Type 0
SaysWell =
    (m : ScriptState) (starts calls : List Reply) (instances : List NamedInstance) (invoked : List Invoked) → IsWellMade m
    → PrintStarts m.instances starts instances → PrintCalls instances 1 m.invoked calls invoked
    → IsWellMade (record m { instances = instances; invoked = invoked })
    × AllArePrinted (record m { instances = instances; invoked = invoked })

-- where a call is asked for
abbrev pub AsksWell : Type 0
AsksWell =
    (may_run_out : Bool) (m m2 : ScriptState) (i : ℕ) (g : NamedInstance) (name : List ℕ) (fuel : ℕ) (given : List ℤ)
    → slice_get m.instances i ≡ Some g → ReceivesCall may_run_out m i g name fuel given m2 → IsWellMade m → IsWellMade m2

-- and where a command is obeyed, once it was said of all calls how they are
abbrev pub ObeysWell : Type 0
ObeysWell =
    (may_run_out : Bool) (settings : Settings) (files : Files) (m m2 : ScriptState) (number : ℕ) (command : Command)
    (replies : List Reply) → IsObeyed may_run_out settings files m number command replies m2
    → IsWellMade m → AllArePrinted m → IsWellMade m2

-- What was last said to have ended is said so at any later drain: no line is printed for it, and nothing of it changes.
-- So it is with starts, and with the calls of each `invoke`, whatever its number.
abbrev pub EndedStays : Type 0
EndedStays =
    (m : ScriptState) → IsWellMade m
    → ((i : ℕ) (g : NamedInstance) (status : CallStatus) → slice_get m.instances i ≡ Some g → g.last_printed ≡ Some status
    → is_final status ≡ true → PrintsStart g [] g)
    × ((n number : ℕ) (v : Invoked) (status : CallStatus) → slice_get m.invoked n ≡ Some v
    → v.last_printed ≡ Some status → is_final status ≡ true → PrintsCall m.instances number v [] v)

-- ---- out of memory

-- the answers to a script in which no reply names out of memory are those that it gets where memory can't run out
abbrev pub OutOfMemoryIsNamed : Type 0
OutOfMemoryIsNamed =
    (settings : Settings) (files : Files) (lines : List (List ℕ)) (replies : List Reply)
    → AnswersScript Drains true settings files lines replies → NoneIsOutOfMemory replies
    → AnswersScript Drains false settings files lines replies
