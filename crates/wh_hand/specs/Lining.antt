-- The line of those that can go on.
use Rattle.std.specs.Prelude.{◌≡◌, ◌≢◌, ◌==◌, ◌||◌, ◌⊎◌, Bool, not, List, [], ◌∷◌, Some}
use Rattle.std.specs.Bool.{MatchBool}
use Rattle.wh_space_model.specs.declared.plain.InstId.{InstId}
use Rattle.wh_model.specs.declared.memory.Need.{Need}
use Rattle.wh_space_model.specs.Parts.{wants}
use Rattle.wh_space_model.specs.Ready.{Ready}
use Rattle.wh_host_model.specs.Host.Happens.{AwaitsFrame, IsLive}
use Rattle.wh_host_model.specs.Host.Worlds.{Tenant, World}
use Rattle.wh_host.specs.Hosting.{HostState, IsHost}
use Rattle.wh_host.specs.Paging.{IsGoing}

-- in whatever host it represents a turn or a provision can make this instance progress; so in each
abbrev pub MayGoOn : HostState → InstId → Type 0
MayGoOn h id = (w : World) × IsHost h w × IsGoing w id

-- it is one of these
abbrev pub StandsIn : List InstId → InstId → Type 0
StandsIn [] id = ⊥
StandsIn (first ∷ ids) id = (first ≡ id) ⊎ StandsIn ids id

-- none is there twice
abbrev pub StandOnce : List InstId → Type 0
StandOnce [] = Unit {0}
StandOnce (id ∷ ids) = (¬ (StandsIn ids id)) × StandOnce ids

-- just those are there that can make progress, each once
pub record Lists (h : HostState) (line : List InstId) : Type 0 where
  pub goes : (id : InstId) → StandsIn line id → MayGoOn h id
  pub all : (id : InstId) → MayGoOn h id → StandsIn line id
  pub once : StandOnce line

-- it is so of all but one, which is there or not
pub record IsToSettle (h : HostState) (line : List InstId) (id : InstId) (stands : Bool) : Type 0 where
  pub goes : (other : InstId) → other ≢ id → StandsIn line other → MayGoOn h other
  pub all : (other : InstId) → other ≢ id → MayGoOn h other → StandsIn line other
  pub once : StandOnce line
  pub here : MatchBool stands (StandsIn line id) (¬ (StandsIn line id))

-- it is another one
abbrev pub differs : InstId → InstId → Bool
differs id other = not (other.place == id.place) || not (other.number == id.number)

-- the same can go on in both
abbrev pub KeepsGoing : HostState → HostState → Type 0
KeepsGoing h h2 = (id : InstId) → (MayGoOn h id → MayGoOn h2 id) × (MayGoOn h2 id → MayGoOn h id)

-- but for one
abbrev pub KeepsOthersGoing : HostState → InstId → HostState → Type 0
KeepsOthersGoing h id h2 =
    (other : InstId) → other ≢ id → (MayGoOn h other → MayGoOn h2 other) × (MayGoOn h2 other → MayGoOn h other)

-- where its present call waits for a frame, the bytes of its next step are ready
abbrev pub IsReadyFor : HostState → InstId → Type 0
IsReadyFor h id =
    (w : World) → IsHost h w → (t : Tenant) → IsLive w id t → AwaitsFrame t → (need : Need)
    → wants w.space id.place ≡ Some need → Ready w.space id.place need
