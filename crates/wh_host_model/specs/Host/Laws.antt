-- What holds of a host after every list of events, and of the answers of a turn.
use Rattle.std.specs.Prelude.{◌≡◌, ◌≢◌, ◌⊎◌, ℕ, ◌<◌, ◌≤◌, List, [], length, Some, None}
use Rattle.std.specs.List.{AllByRecursion}
use Rattle.wh_model.specs.declared.memory.Need.{Need}
use Rattle.wh_model.specs.Execution.Store.{Store}
use Rattle.wh_model.specs.Execution.Instance.{Piece, begins, IsInitial}
use Rattle.wh_model.specs.Execution.Replay.{Replay}
use Rattle.wh_model.specs.Execution.Configuration.{Term, config}
use Rattle.wh_model.specs.Execution.Asking.{Asks}
use Rattle.wh_space_model.specs.declared.Tax.{Tax}
use Rattle.wh_host_model.specs.declared.plain.TurnEnd.{TurnEnd}
use Rattle.wh_host_model.specs.declared.plain.TurnEnd.TheVariants.{Again, Frame}
use Rattle.wh_space_model.specs.Parts.{Space, Claimed, Promised, view, claim, promise_at, wants}
use Rattle.wh_space_model.specs.Sound.{IsSound}
use Rattle.wh_space_model.specs.Ready.{Ready}
use Rattle.wh_host_model.specs.Host.Worlds.{computing, Tenant, Loaded, World, promised, journal, journal_calls, store_in, standing_in, tenant, empty_world, loaded_of}
use Rattle.wh_host_model.specs.Owners.{given_of, most_calls, most_open}
use Rattle.wh_host_model.specs.Host.CallAnswers.{Turn}
use Rattle.wh_host_model.specs.Host.OwnerCalls.{open_count}
use Rattle.wh_model.specs.Linking.Accepting.{IsAccepted}
use Rattle.wh_host_model.specs.Host.Events.{Event}
use Rattle.wh_host_model.specs.Host.Happens.{Happens, AllHappen}
use Rattle.wh_host_model.specs.Host.Journals.{InOrder}
use Rattle.wh_host_model.specs.Host.Suspensions.{WaitsRightly}

-- it holds after every list of events from an empty host
abbrev pub AfterEvents : (World → Type 0) → Type 0
AfterEvents P =
    (frames slots : ℕ) (tax : Tax) (events : List Event) (w : World)
    → AllHappen (empty_world frames slots tax) events w → P w

-- ---- the memory

abbrev pub MemoryIsSound : Type 0
MemoryIsSound = AfterEvents (λ w. IsSound w.space)

-- Each live instance has its place alone, with what its owner was promised, and nobody else has one.
pub record PlacesAreTenants (w : World) : Type 0 where
  pub claimed : (i : ℕ) (t : Tenant) → tenant w i ≡ Some t → claim w.space t.place ≡ Some (promised i t.params)
  pub apart : (i j : ℕ) (t u : Tenant) → tenant w i ≡ Some t → tenant w j ≡ Some u → t.place ≡ u.place → i ≡ j
  pub all : (place : ℕ) (c : Claimed) → claim w.space place ≡ Some c
      → (i : ℕ) × (t : Tenant) × (tenant w i ≡ Some t) × (t.place ≡ place)

abbrev pub PlacesAreRight : Type 0
PlacesAreRight = AfterEvents PlacesAreTenants

-- Whoever has a place, live or released, keeps number, minimum and maximum, or has the place no more.
abbrev pub KeepsPromises : Space → Space → Type 0
KeepsPromises s s2 = (place : ℕ) (x : Promised) → promise_at s place ≡ Some x
    → (promise_at s2 place ≡ Some x) ⊎ (promise_at s2 place ≡ None)

-- whatever happens
abbrev pub PromisesAreKept : Type 0
PromisesAreKept = AfterEvents (λ w. (e : Event) (w2 : World) → Happens w e w2 → KeepsPromises w.space w2.space)

-- ---- modules

-- A number that was given means the same module, or none any more. It is never given again.
pub record KeepsModules (w w2 : World) : Type 0 where
  pub grows : length w.modules ≤ length w2.modules
  pub same : (k : ℕ) → k < length w.modules → (loaded_of w2 k ≡ loaded_of w k) ⊎ (loaded_of w2 k ≡ None)

abbrev pub ModulesAreKept : Type 0
ModulesAreKept = AfterEvents (λ w. (e : Event) (w2 : World) → Happens w e w2 → KeepsModules w w2)

-- ---- instances

-- each live one has it
abbrev pub EachHas : (World → Tenant → Type 0) → World → Type 0
EachHas P w = (i : ℕ) (t : Tenant) → tenant w i ≡ Some t → P w t

-- An instance is the outcome of its journal, from the beginning of the module that its bytes spell, with what it was given:
-- globals, table, output and configuration are those that its calls lead to, and so is its memory, which is what it sees. No
-- other instance is named.
pub record IsReplayed (w : World) (t : Tenant) : Type 0 where
  pub loaded : Loaded
  pub is_loaded : loaded_of w t.of ≡ Some loaded
  pub accepted : IsAccepted loaded.bytes loaded.m
  pub first : Store
  pub pieces : List Piece
  pub initial : IsInitial loaded.m (given_of t.params) (begins t.inst first pieces)
  pub replay : Replay loaded.m (given_of t.params) (journal_calls (journal t)) (standing_in w.space t)

abbrev pub InstancesReplay : Type 0
InstancesReplay = AfterEvents (EachHas IsReplayed)

-- no call takes more charges than it was given fuel
abbrev pub ChargesAreWithin : Type 0
ChargesAreWithin = AfterEvents (EachHas (λ w t. AllByRecursion (λ e. e.call.charges ≤ e.call.fuel) (journal t)))

-- the calls that were copied with it have ended
abbrev pub CopiedCallsHaveEnded : Type 0
CopiedCallsHaveEnded = AfterEvents (EachHas (λ w t. t.copied ≤ length t.ended))

-- the calls are in order, with arguments as they were given and results of their types; not too many, nor too many open
pub record HasJournal (w : World) (t : Tenant) : Type 0 where
  pub loaded : Loaded
  pub is_loaded : loaded_of w t.of ≡ Some loaded
  pub calls : InOrder loaded.m t.inst t.dead t.ended t.open_calls
  pub few : length (journal t) ≤ most_calls
  pub few_open : open_count t ≤ most_open

abbrev pub JournalsAreInOrder : Type 0
JournalsAreInOrder = AfterEvents (EachHas HasJournal)

-- what the present call is blocked on is right
abbrev pub SuspensionsAreRight : Type 0
SuspensionsAreRight = AfterEvents (EachHas (λ w t. WaitsRightly w.space t))

-- ---- a turn's answers

-- Frame is answered only where the bytes that are wanted aren't ready in the memory that is left
abbrev pub FrameIsLacking : Type 0
FrameIsLacking =
    (q : ℕ) (s s2 : Space) (t t2 : Tenant) → Turn q s t Frame s2 t2
    → (need : Need) × (wants s2 t2.place ≡ Some need) × ¬ (Ready s2 t2.place need)

-- and Again only where all that the next reduction asks for is
abbrev pub AgainIsReady : Type 0
AgainIsReady =
    (q : ℕ) (s s2 : Space) (t t2 : Tenant) → Turn q s t Again s2 t2
    → (term : Term) × (t2.doing ≡ computing term)
    × ((need : Need) → Asks t2.inst (config (store_in s2 t2) [] term) need → Ready s2 t2.place need)

-- which bytes are ready decides between Frame and another answer, and nothing else
pub record SameTurn (a b : TurnEnd) (t t2 : Tenant) (s s2 : Space) : Type 0 where
  pub answers : a ≡ b
  pub tenants : t ≡ t2
  pub views : view s t.place ≡ view s2 t2.place

abbrev pub OneTurn : Type 0
OneTurn =
    (q : ℕ) (s s2 s3 : Space) (t t2 t3 : Tenant) (a b : TurnEnd)
    → Turn q s t a s2 t2 → Turn q s t b s3 t3 → a ≢ Frame → b ≢ Frame
    → SameTurn a b t2 t3 s2 s3
