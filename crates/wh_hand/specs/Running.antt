-- A run of all calls, by what happens in it.
use Rattle.std.specs.Prelude.{◌≡◌, ◌≢◌, ◌+◌, ◌-◌, ◌^◌, ◌<◌, ◌≤◌, ◌⊎◌, ℕ, true, List, [], ◌∷◌, length, map, sum_by, Option, Some, None}
use Rattle.std.specs.Bool.{MatchBool}
use Rattle.std.specs.List.{AllByRecursion}
use Rattle.wh_space_model.specs.declared.plain.InstId.{InstId}
use Rattle.wh_host_model.specs.Host.Worlds.{Tenant, World}
use Rattle.wh_host_model.specs.Host.Events.{Event, turn, offer, provide, epoch}
use Rattle.wh_host_model.specs.Host.Happens.{AllHappen, Happens, IsLive}
use Rattle.wh_host_model.specs.Host.TakenSteps.{HasGoneOn}
use Rattle.wh_host_model.specs.Owners.{Entry}
use Rattle.wh_host.specs.Hosting.{HostState, IsHost, IsReached}
use Rattle.wh_host.specs.Paging.{IsGoing}
use Rattle.wh_hand.specs.declared.running.Ran.{Ran}
use Rattle.wh_hand.specs.ChargesTaken.{charges_of_all}

-- It is no request of an owner: a turn of one charge at least and of a quantum at most, an offer, a provision in which no call
-- of the device failed, or a new epoch.
abbrev pub IsOwn : (quantum : ℕ) → Event → Type 0
IsOwn quantum (turn id q) = (1 ≤ q) × (q ≤ quantum)
IsOwn quantum (offer page hash) = Unit {0}
IsOwn quantum (provide id fault) = fault ≡ None
IsOwn quantum epoch = Unit {0}
IsOwn quantum other = ⊥

-- 1 for a turn
abbrev pub turn_count : Event → ℕ
turn_count (turn id q) = 1
turn_count other = 0

-- how many turns there are
abbrev pub turns_among : List Event → ℕ
turns_among events = sum_by turn_count events

-- In a turn the present call of an instance has made progress: it has ended; or it has written more pieces or taken more charges;
-- or it waits for fuel or for a frame, where it wasn't blocked.
pub data GetsOn (t t2 : Tenant) : Type 0 where
  ends : length t.ended < length t2.ended → GetsOn t t2
  goes_further : {e : Entry} {es : List Entry} → t.open_calls ≡ e ∷ es → HasGoneOn t t2 e → GetsOn t t2
  comes_to_stand : t.waiting_for ≡ None → t2.waiting_for ≢ None → GetsOn t t2

-- so in an event, if it is a turn
abbrev pub EventGetsOn : World → Event → World → Type 0
EventGetsOn w (turn id q) w2 = (t t2 : Tenant) × IsLive w id t × IsLive w2 id t2 × GetsOn t t2
EventGetsOn w other w2 = Unit {0}

-- one event after another
abbrev pub AllGetOn : World → List Event → World → Type 0
AllGetOn w [] w2 = w2 ≡ w
AllGetOn w (e ∷ es) w2 = (mid : World) × Happens w e mid × EventGetsOn w e mid × AllGetOn mid es w2

-- where an instance lies, if it is live
abbrev pub place_of_tenant : Option Tenant → Option ℕ
place_of_tenant None = None
place_of_tenant (Some t) = Some t.place

-- Events lead from one host to the other that are no requests, by turns of a quantum at most, in each of which its call makes
-- progress. All calls of live instances together took `charges` charges in them. The modules are the same, and each number has
-- the instance at the place where it was, or none as before.
pub record RunsByEvents (quantum : ℕ) (w : World) (charges : ℕ) (w2 : World) : Type 0 where
  pub events : List Event
  pub happen : AllHappen w events w2
  pub gets_on : AllGetOn w events w2
  pub own : AllByRecursion (IsOwn quantum) events
  pub counted : charges_of_all w2 ≡ charges_of_all w + charges
  pub modules : w2.modules ≡ w.modules
  pub places : map place_of_tenant w2.tenants ≡ map place_of_tenant w.tenants

-- a turn or a provision can make some instance progress
abbrev pub AnyGoesOn : World → Type 0
AnyGoesOn w = (id : InstId) × IsGoing w id

-- how many turns a run has at most
abbrev pub most_turns : ℕ
most_turns = 2 ^ 64 - 1

-- The outcome of a run for `given` charges at most: it leads there by events that are no requests, by turns of a quantum at most,
-- in which just as many charges were taken as it says. It goes on exactly where some instance can; and then all charges were
-- taken, or calls made progress in 2^64 - 1 turns.
pub record IsWholeRun (quantum : ℕ) (w : World) (given : ℕ) (ran : Ran) (w2 : World) : Type 0 where
  pub runs : RunsByEvents quantum w ran.charges w2
  pub reached : IsReached w2
  pub within : ran.charges ≤ given
  pub over : MatchBool ran.goes_on (AnyGoesOn w2) (¬ (AnyGoesOn w2))
  pub uses : ran.goes_on ≡ true → (ran.charges ≡ given) ⊎ (most_turns ≤ turns_among runs.events)

-- for whatever host it stands to which events alone lead
abbrev pub RunsAll : (quantum : ℕ) → HostState → ℕ → Ran → HostState → Type 0
RunsAll quantum h given ran h2 =
    (w : World) → IsHost h w → IsReached w → (w2 : World) × IsWholeRun quantum w given ran w2 × IsHost h2 w2
