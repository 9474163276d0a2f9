-- The instances in the order of their numbers.
use Rattle.std.specs.Prelude.{ℕ, ◌≡◌, ◌≢◌, ◌<◌, ◌≤◌, List, [], Option, Some, None, length, get_or, slice_get}
use Rattle.std.specs.List.{All, AllPairs, Contains}
use Rattle.std.specs.List.Sorted.{IsNonDecreasingBy}
use Rattle.wh_space_model.specs.declared.plain.InstId.{InstId}
use Rattle.wh_space_model.specs.declared.states.Page.{Page}

-- whoever came last to each place, once, with its number; numbers ascend
pub record IsLineOf (numbers : List ℕ) (line : List InstId) : Type 0 where
  pub ascending : IsNonDecreasingBy (λ (id : InstId). id.number) line
  pub once : AllPairs (λ (a b : InstId). a.place ≢ b.place) line
  pub each : (i n : ℕ) → slice_get numbers i ≡ Some n → Contains line (record { place = i; number = n })
  pub there : All (λ (id : InstId). slice_get numbers id.place ≡ Some id.number) line

-- a number is above another one, if there is one
abbrev pub IsAbove : Option ℕ → ℕ → Type 0
IsAbove None n = Unit {0}
IsAbove (Some m) n = m < n

-- the instance at place i has pages, and a number above this one
abbrev pub ComesLater : List (List Page) → List ℕ → Option ℕ → ℕ → Type 0
ComesLater pages numbers after i = (1 ≤ length (get_or pages i [])) × IsAbove after (get_or numbers i 0)

-- of those it is the one with the lowest number
pub record IsNextIn (pages : List (List Page)) (numbers : List ℕ) (after : Option ℕ) (id : InstId) : Type 0 where
  pub number : get_or numbers id.place 0 ≡ id.number
  pub later : ComesLater pages numbers after id.place
  pub lowest : (j : ℕ) → ComesLater pages numbers after j → id.number ≤ get_or numbers j 0
