-- What befalls a host between two requests of its owner.
use Rattle.std.specs.Prelude.{◌≡◌, ◌⊎◌, ℕ, List, [], ◌∷◌, ◌++◌, Option, Some, None}
use Rattle.wh_space_model.specs.declared.plain.InstId.{InstId}
use Rattle.wh_space_model.specs.declared.plain.SwapError.{SwapError}
use Rattle.wh_host_model.specs.declared.plain.TurnEnd.{TurnEnd}
use Rattle.wh_host_model.specs.declared.plain.TurnEnd.TheVariants.{Idle}
use Rattle.wh_host_model.specs.Host.Worlds.{World}
use Rattle.wh_host_model.specs.Host.Events.{Event, turn, load, admit, invoke, refuel, cancel, retry, release, fork, unload, offer, evict_begin, evict_commit, fetch_begin, fetch_commit, provide, epoch}
use Rattle.wh_host_model.specs.Host.Happens.{Happens, IsTurn}
use Rattle.wh_host_model.specs.Host.Misreading.{Step, by_event, by_misreading, Befalls}
use Rattle.wh_host.specs.Paging.{IsGoing}

-- Threads do it, and no owner asks for it: turns of who can go on, offers of pages, and pages that move. Each event is named, so that a
-- new one is neither a request nor work by itself.
abbrev pub IsWork : World → Event → Type 0
IsWork w (load bytes) = ⊥
IsWork w (admit k p) = ⊥
IsWork w (invoke id name given fuel) = ⊥
IsWork w (refuel id n) = ⊥
IsWork w (cancel id) = ⊥
IsWork w (retry id) = ⊥
IsWork w (release id) = ⊥
IsWork w (fork id q) = ⊥
IsWork w (unload k) = ⊥
IsWork w epoch = ⊥
IsWork w (turn id q) = IsGoing w id
IsWork w (offer page hash) = Unit {0}
IsWork w (evict_begin id) = Unit {0}
IsWork w (evict_commit id call fault) = Unit {0}
IsWork w (fetch_begin id) = Unit {0}
IsWork w (fetch_commit id call fault) = Unit {0}
IsWork w (provide id fault) = Unit {0}

-- A turn of an instance that can make progress. One that can't has none: nothing changes, and that is `Idle`.
pub data TurnsIfGoing (w : World) (id : InstId) (q : ℕ) : TurnEnd → World → Type 0 where
  has_turn : {answer : TurnEnd} {w2 : World} → IsGoing w id → IsTurn w id q answer w2 → TurnsIfGoing w id q answer w2
  has_none : ¬ (IsGoing w id) → TurnsIfGoing w id q Idle w

abbrev pub IsWorkOrMisread : World → Step → Type 0
IsWorkOrMisread w (by_event e) = IsWork w e
IsWorkOrMisread w by_misreading = Unit {0}

-- one after the other, each of which is work when it happens
abbrev pub AllWork : World → List Event → World → Type 0
AllWork w [] w2 = w2 ≡ w
AllWork w (e ∷ es) w2 = (mid : World) × IsWork w e × Happens w e mid × AllWork mid es w2

abbrev pub AllWorkAnyhow : World → List Step → World → Type 0
AllWorkAnyhow w [] w2 = w2 ≡ w
AllWorkAnyhow w (x ∷ xs) w2 = (mid : World) × IsWorkOrMisread w x × Befalls w x mid × AllWorkAnyhow mid xs w2

abbrev pub fault_or_none : Option SwapError → List SwapError
fault_or_none None = []
fault_or_none (Some fault) = fault ∷ []

-- the fault of the device's call that failed, if one did
abbrev pub fault_in : Event → List SwapError
fault_in (evict_commit id call fault) = fault_or_none fault
fault_in (fetch_commit id call fault) = fault_or_none fault
fault_in (provide id fault) = fault_or_none fault
fault_in other = []

-- those of all events, the last one first
abbrev pub faults_in : List Event → List SwapError
faults_in [] = []
faults_in (e ∷ es) = faults_in es ++ fault_in e

-- the one list is the other, but that elements may be left out
abbrev pub IsPartOf : {X : Type 0} → List X → List X → Type 0
IsPartOf [] ys = Unit {0}
IsPartOf (x ∷ xs) [] = ⊥
IsPartOf (x ∷ xs) (y ∷ ys) = ((x ≡ y) × IsPartOf xs ys) ⊎ IsPartOf (x ∷ xs) ys

-- Work alone leads from one host to the other, while the device's calls failed so. Each fault that is kept with a call is one of
-- these; one of a call for which nobody waits any more is kept by none.
pub record WorksTo (w : World) (faults : List SwapError) (w2 : World) : Type 0 where
  pub events : List Event
  pub faults_are : IsPartOf (faults_in events) faults
  pub work : AllWork w events w2

-- work does, and reads of the device that gave other bytes, if there were any
pub record WorksAnyhowTo (w w2 : World) : Type 0 where
  pub steps : List Step
  pub work : AllWorkAnyhow w steps w2
