-- Drains: the device after a host, and what calls come to.
use Rattle.std.specs.Prelude.{◌≡◌, ◌⊎◌, ℕ, ◌+◌, ◌*◌, ◌≤◌, Bool, List, [], ◌++◌, map, IsOk, Result, Ok, slice_get, Option, Some, None, false, true}
use Rattle.wh_space_model.specs.declared.plain.InstId.{InstId}
use Rattle.wh_space_model.specs.declared.plain.SwapError.{SwapError}
use Rattle.wh_space_model.specs.SwapFaults.{swap_number}
use Rattle.wh_space_model.specs.Stores.{Epochs}
use Rattle.wh_script_model.specs.Settings.{Settings}
use Rattle.wh_script_model.specs.ScriptState as script
use Rattle.wh_script_model.specs.ScriptState.{ScriptState, SomeCallMayGo}
use Rattle.wh_script_model.specs.Failing.{RunsAmid, ZipAmid}
use Rattle.wh_host.specs.Hosting.{HostState}
use Rattle.wh_host.specs.Paging.{IsGoing, Tells}
use Rattle.wh_threads.specs.declared.channel.Message.{Message}
use Rattle.wh_threads.specs.Handover.{SameMessages}
use Rattle.wh_workers.specs.Serving.{AreRun, AreTurns}
use Rattle.wh_threads.specs.declared.own_count.OwnCount.{OwnCount}
use Rattle.wh_cell.specs.Counted.{countable, offers_of}
use Rattle.wh_cell.specs.Locking.{BooksState}
use Rattle.wh_cell.specs.Owning.{ComesOn}
use Rattle.wh_scheduler.specs.InHand.{OwnedState, WorksHere, by_scanners, left_of}
use Rattle.wh_workers.specs.declared.crew.Served.{Served}
use Rattle.wh_workers.specs.declared.crew.ServeError.{ServeError}
use Rattle.wh_engine.specs.declared.fault.RunFault.{RunFault}
use Rattle.wh_engine.specs.declared.fault.RunFault.TheVariants.{Memory, Transcript}
use Rattle.wh_engine.specs.declared.parts.NamedInstance.{NamedInstance}
use Rattle.wh_engine.specs.RepresentedScript.{ScriptHostState, RepresentsScript}

-- ---- the device: none where there is none

-- What calls of a device leave of what is known of it: if it has read right so far, it had before; and if it keeps what
-- is written to it, it goes on to, and goes on to read right.
pub record StaysTrue (keeps honest keeps2 honest2 : Type 0) : Type 0 where
  pub was_honest : honest2 → honest
  pub goes_on : keeps → keeps2
  pub stays_honest : keeps → honest → honest2

abbrev pub DeviceStaysTrue : {D : Type 0} (keeps honest : D → Type 0) → Option D → Option D → Type 0
DeviceStaysTrue keeps honest None None = Unit {0}
DeviceStaysTrue keeps honest (Some d) (Some d2) = StaysTrue (keeps d) (honest d) (keeps d2) (honest d2)
DeviceStaysTrue keeps honest o o2 = ⊥

-- calls of the device may have failed, before which others had
abbrev pub HasAdded : (faults faults2 : List SwapError) → Type 0
HasAdded faults faults2 = (more : List SwapError) × (faults2 ≡ more ++ faults)

abbrev pub DeviceMayFail : {D : Type 0} (faults : D → List SwapError) → Option D → Option D → Type 0
DeviceMayFail faults None None = Unit {0}
DeviceMayFail faults (Some d) (Some d2) = HasAdded (faults d) (faults d2)
DeviceMayFail faults o o2 = ⊥

-- the device has served well: it has read right, and no further call of it has failed
abbrev pub HasServed : (honest : Type 0) (faults faults2 : List SwapError) → Type 0
HasServed honest faults faults2 = honest × (faults2 ≡ faults)

-- Where the device has read right: further calls of it have failed with these faults, the last one first, and this holds
-- of their numbers.
abbrev pub HoldsAmid : (honest : Type 0) (faults faults2 : List SwapError) (holds : List ℕ → Type 0) → Type 0
HoldsAmid honest faults faults2 holds =
    honest → (more : List SwapError) × (faults2 ≡ more ++ faults) × holds (map swap_number more)

abbrev pub DeviceHoldsAmid : {D : Type 0} (honest : D → Type 0) (faults : D → List SwapError) → Option D → Option D
    → (holds : List ℕ → Type 0) → Type 0
DeviceHoldsAmid honest faults None None holds = holds []
DeviceHoldsAmid honest faults (Some d) (Some d2) holds = HoldsAmid (honest d2) (faults d) (faults d2) holds
DeviceHoldsAmid honest faults o o2 holds = Unit {0}

-- ---- calls

-- no call of these instances can go on
abbrev pub AllRest : HostState → List NamedInstance → Type 0
AllRest h xs = (i : ℕ) (x : NamedInstance) → slice_get xs i ≡ Some x → Tells h false (λ w. IsGoing w x.id)

-- a call of some instance can
abbrev pub SomeGoes : HostState → Type 0
SomeGoes h = (id : InstId) × Tells h true (λ w. IsGoing w id)

-- why the lines of a drain aren't printed: memory was refused, or a call can go on
abbrev pub StopsPrinting : HostState → RunFault → Type 0
StopsPrinting h Memory = Unit {0}
StopsPrinting h Transcript = SomeGoes h

-- whatever script the engine represents, its calls have run while calls of the device had these faults
abbrev pub RunsEach : {D : Type 0} → ScriptHostState D → ScriptHostState D → (faults : List ℕ) → Type 0
RunsEach e e2 faults =
    (settings : Settings) (m : ScriptState) → RepresentsScript settings e m
    → (run : List script.NamedInstance) × ZipAmid RunsAmid faults m.instances run
    × RepresentsScript settings e2 (record m { instances = run; faults_met = faults ++ m.faults_met })

-- it was served to its end
abbrev pub IsServedWhole : Result Served ServeError → Type 0
IsServedWhole served = (s : Served) × (served ≡ Ok s) × IsOk s.end

-- Turns of q charges were handed out, and workers have run each of them once. So they ran no other.
pub record RanByWorkers (q : ℕ) (books books2 : BooksState) : Type 0 where
  pub turns : ℕ
  pub sent : List Message
  pub received : List Message
  pub left : Option Message
  pub dispatched : AreTurns turns q sent
  pub once : SameMessages sent received
  pub ran : AreRun books.turns left received books2.turns
  pub grown : books2.turns ≡ books.turns + turns

-- one after the other, work that the owner did itself, and turns that workers ran
pub data RanInParts (q : ℕ) (books : BooksState) (own : OwnCount) : BooksState → OwnCount → Type 0 where
  none_ran : RanInParts q books own books own
  owner_ran : {b b2 : BooksState} {o o2 : OwnCount} (turns offers : ℕ) → RanInParts q books own b o → WorksHere b o turns offers b2 o2
      → RanInParts q books own b2 o2
  workers_ran : {b b2 : BooksState} {o : OwnCount} → RanInParts q books own b o → RanByWorkers q b b2 → RanInParts q books own b2 o

-- the owner ran 31 turns at most, and 4096 for each page that it evicted
abbrev pub HasRunFew : OwnCount → OwnCount → Type 0
HasRunFew own own2 = own2.turns + 4096 * own.evictions ≤ own.turns + 31 + 4096 * own2.evictions

-- Of turns of q charges that were handed out workers have run those that they received. After these the owner ran some itself,
-- and offered pages.
pub record GoesOnByOwner (q : ℕ) (books : BooksState) (own : OwnCount) (books2 : BooksState) (own2 : OwnCount) : Type 0 where
  pub turns : ℕ
  pub sent : List Message
  pub received : List Message
  pub left : Option Message
  pub dispatched : AreTurns turns q sent
  pub behind : BooksState
  pub ran : AreRun books.turns left received behind.turns
  pub further : ℕ
  pub offered : ℕ
  pub did : WorksHere behind own further offered books2 own2

-- The turns of a drain, of q charges each, which the book has: workers ran them, each once, but for few that the owner ran
-- itself; and where threads were lacking the owner may have run others after these.
pub record RunsTurns (q : ℕ) (lacked_threads : Bool) (books : BooksState) (own : OwnCount) (books2 : BooksState) (own2 : OwnCount)
    : Type 0 where
  pub between : BooksState
  pub own_between : OwnCount
  pub ran : RanInParts q books own between own_between
  pub few : HasRunFew own own_between
  pub ends : ((books2 ≡ between) × (own2 ≡ own_between))
      ⊎ ((lacked_threads ≡ true) × GoesOnByOwner q between own_between books2 own2)

-- The pages that were offered in a pass, if any, are counted in the book: by a scanner, or, where threads were lacking, by the
-- owner.
abbrev pub CountsPass : {D : Type 0} → (lacked_threads : Bool) → OwnedState D → (offered : Option ℕ) → OwnedState D → Type 0
CountsPass lacked_threads o offered o2 =
    ((o2.own ≡ o.own) × (o2.books ≡ record o.books {
      offers = o.books.offers + countable (by_scanners o.books o.own) (offers_of offered);
    })) ⊎ ((lacked_threads ≡ true)
    × (o2.own ≡ record o.own { offers = o.own.offers + countable o.own.offers (offers_of offered) })
    × (o2.books ≡ record o.books { offers = o.books.offers + countable o.own.offers (offers_of offered) }))

-- where threads were lacking before, they were
abbrev pub StaysLacking : {D : Type 0} → ScriptHostState D → ScriptHostState D → Type 0
StaysLacking e e2 = e.lacked_threads ≡ true → e2.lacked_threads ≡ true

-- A new epoch began on the host, in which no page was touched yet; what came then was work alone.
pub record WorksInNewEpoch {D : Type 0} (keeps honest : D → Type 0) (faults : D → List SwapError) (o o2 : OwnedState D) : Type 0 where
  pub begun : OwnedState D
  pub clears : Epochs o.host.space begun.host.space
  pub same : begun.device ≡ o.device
  pub works : ComesOn keeps honest faults (left_of begun) (left_of o2)

-- a call of some instance can go on, and whatever script the engine represents, an instance of it has an open call and isn't
-- blocked on a fault of a device
abbrev pub WasOpen : {D : Type 0} → ScriptHostState D → Type 0
WasOpen e =
    SomeGoes e.host.host × ((settings : Settings) (m : ScriptState) → RepresentsScript settings e m → SomeCallMayGo m)

-- why a drain stops: where calls that could go on should have run, one could before
abbrev pub StopsOnlyOpen : {D : Type 0} → ScriptHostState D → RunFault → Type 0
StopsOnlyOpen e Transcript = WasOpen e
StopsOnlyOpen e Memory = Unit {0}

-- pages alone have moved: whatever script the engine represented, it represents it still
abbrev pub StaysSo : {D : Type 0} → ScriptHostState D → ScriptHostState D → Type 0
StaysSo e e2 = (settings : Settings) (m : ScriptState) → RepresentsScript settings e m → RepresentsScript settings e2 m
