-- Which events owners ask for, and what they lead to.
use Rattle.std.specs.Prelude.{◌≡◌}
use Rattle.wh_space_model.specs.declared.plain.InstId.{InstId}
use Rattle.wh_host_model.specs.Host.Worlds.{World}
use Rattle.wh_host_model.specs.Host.Events.{Event, turn, load, admit, invoke, refuel, cancel, retry, release, fork, unload, offer, evict_begin, evict_commit, fetch_begin, fetch_commit, provide, epoch}
use Rattle.wh_host_model.specs.Host.Happens.{Happens}
use Rattle.wh_host.specs.Hosting.{HostState, IsHost}

-- It is a request of an owner. Each event is named, so that a new one is neither a request nor work by itself.
abbrev pub IsRequest : Event → Type 0
IsRequest (load bytes) = Unit {0}
IsRequest (admit k p) = Unit {0}
IsRequest (invoke id name given fuel) = Unit {0}
IsRequest (refuel id n) = Unit {0}
IsRequest (cancel id) = Unit {0}
IsRequest (retry id) = Unit {0}
IsRequest (release id) = Unit {0}
IsRequest (fork id q) = Unit {0}
IsRequest (unload k) = Unit {0}
IsRequest epoch = Unit {0}
IsRequest (turn id q) = ⊥
IsRequest (offer page hash) = ⊥
IsRequest (evict_begin id) = ⊥
IsRequest (evict_commit id call fault) = ⊥
IsRequest (fetch_begin id) = ⊥
IsRequest (fetch_commit id call fault) = ⊥
IsRequest (provide id fault) = ⊥

-- for whatever host the one stands, a request leads to one for which the other does
abbrev pub LeadsByRequest : HostState → HostState → Type 0
LeadsByRequest h h2 =
    (w : World) → IsHost h w → (e : Event) × (w2 : World) × IsRequest e × Happens w e w2 × IsHost h2 w2

-- It is a request about the calls of this instance: one more call, or more fuel for the present one, its end or another try.
abbrev pub IsCallRequest : InstId → Event → Type 0
IsCallRequest id (invoke other name given fuel) = other ≡ id
IsCallRequest id (refuel other n) = other ≡ id
IsCallRequest id (cancel other) = other ≡ id
IsCallRequest id (retry other) = other ≡ id
IsCallRequest id (load bytes) = ⊥
IsCallRequest id (admit k p) = ⊥
IsCallRequest id (release other) = ⊥
IsCallRequest id (fork other q) = ⊥
IsCallRequest id (unload k) = ⊥
IsCallRequest id epoch = ⊥
IsCallRequest id (turn other q) = ⊥
IsCallRequest id (offer page hash) = ⊥
IsCallRequest id (evict_begin other) = ⊥
IsCallRequest id (evict_commit other call fault) = ⊥
IsCallRequest id (fetch_begin other) = ⊥
IsCallRequest id (fetch_commit other call fault) = ⊥
IsCallRequest id (provide other fault) = ⊥

-- so a request about its calls leads
abbrev pub LeadsByCallRequest : HostState → InstId → HostState → Type 0
LeadsByCallRequest h id h2 =
    (w : World) → IsHost h w → (e : Event) × (w2 : World) × IsCallRequest id e × Happens w e w2 × IsHost h2 w2
