-- How the memory on which all instances lie may change under the instance at one place, and under the others. Frames,
-- slots and tickets are any that are sound.
use Rattle.std.specs.Prelude.{◌≡◌, ◌≢◌, ◌↔◌, ◌⊎◌, ℕ, ◌≤◌, replicate, List, Option, Some, None}
use Rattle.wh_model.specs.declared.memory.Need.{Need}
use Rattle.wh_space_model.specs.Parts.{Space, Claimed, view, claim, promise_at, wants}
use Rattle.wh_space_model.specs.Sound.{IsSound}
use Rattle.wh_space_model.specs.Ready.{Ready}
use Rattle.wh_space_model.specs.Places.{IsFreePlace}
use Rattle.wh_space_model.specs.Sight.{HasNoPins}

-- Who has a place keeps number, minimum and maximum as long as it has the place, also one that was released.
abbrev pub KeepsPromise : ℕ → Space → Space → Type 0
KeepsPromise i s s2 = (promise_at s2 i ≡ promise_at s i) ⊎ (promise_at s2 i ≡ None)

-- The instance at a place sees what it saw, stands where it stood, and has what it was promised. One that was released
-- keeps its promise.
pub record LeftAlone (i : ℕ) (s s2 : Space) : Type 0 where
  pub view : view s2 i ≡ view s i
  pub wants : wants s2 i ≡ wants s i
  pub claim : claim s2 i ≡ claim s i
  pub promise : KeepsPromise i s s2

abbrev pub OthersLeftAlone : ℕ → Space → Space → Type 0
OthersLeftAlone i s s2 = (j : ℕ) → j ≢ i → LeftAlone j s s2

-- nobody else's place becomes free either, also of one that was released
abbrev pub OthersKeepPlaces : ℕ → Space → Space → Type 0
OthersKeepPlaces i s s2 = (j : ℕ) → j ≢ i → promise_at s2 j ≡ promise_at s j

abbrev pub AllLeftAlone : Space → Space → Type 0
AllLeftAlone s s2 = ((j : ℕ) → LeftAlone j s s2) × IsSound s2

-- What a step of the instance at a place may leave: all but what it sees and where it stands is as it was. Whoever was
-- released keeps its place.
pub record StepsAlone (i : ℕ) (s s2 : Space) : Type 0 where
  pub others : OthersLeftAlone i s s2
  pub places : OthersKeepPlaces i s s2
  pub claim : claim s2 i ≡ claim s i
  pub sound : IsSound s2

-- A turn or a request leaves it, and it waits for these bytes, or for none: it sees what it saw, and what was ready
-- is ready.
pub record WaitsAlone (i : ℕ) (stands : Option Need) (s s2 : Space) : Type 0 where
  pub steps : StepsAlone i s s2
  pub view : view s2 i ≡ view s i
  pub wants : wants s2 i ≡ stands
  pub ready : (need : Need) → Ready s2 i need ↔ Ready s i need

-- where a step was taken, pins and earmarks have ended
abbrev pub PinsEndAfter : ℕ → Space → ℕ → Type 0
PinsEndAfter steps s i = 1 ≤ steps → HasNoPins s i

-- an instance comes to a free place, and sees these bytes, with this claim
pub record ArrivesSeeing (i : ℕ) (c : Claimed) (bytes : List ℕ) (s s2 : Space) : Type 0 where
  pub free : IsFreePlace s i
  pub others : OthersLeftAlone i s s2
  pub places : OthersKeepPlaces i s s2
  pub view : view s2 i ≡ bytes
  pub wants : wants s2 i ≡ None
  pub claim : claim s2 i ≡ Some c
  pub unpinned : HasNoPins s2 i
  pub sound : IsSound s2

-- it sees zeros, as many as its size
abbrev pub Arrives : ℕ → Claimed → ℕ → Space → Space → Type 0
Arrives i c size s s2 = ArrivesSeeing i c (replicate size 0) s s2

-- The instance at a place goes. Nothing of it stays but its promise, as long as it has the place.
pub record Departs (i : ℕ) (s s2 : Space) : Type 0 where
  pub others : OthersLeftAlone i s s2
  pub places : OthersKeepPlaces i s s2
  pub claim : claim s2 i ≡ None
  pub wants : wants s2 i ≡ None
  pub promise : KeepsPromise i s s2
  pub unpinned : HasNoPins s2 i
  pub sound : IsSound s2
