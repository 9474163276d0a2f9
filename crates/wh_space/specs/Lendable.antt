-- Which pages may be lent to a copy.
use Rattle.std.specs.Prelude.{ℕ, ◌≡◌, ◌+◌, ◌≤◌, Some}
use Rattle.wh_space_model.specs.declared.states.Page.{Page}
use Rattle.wh_space_model.specs.Claims.{stays}
use Rattle.wh_space_model.specs.Parts.{Space}
use Rattle.wh_space_model.specs.States.{page_at, untouched}

-- it is untouched, or on a frame that it isn't leaving
abbrev pub IsHere : Page → Type 0
IsHere page = 1 ≤ untouched page + stays page

abbrev pub MayLend : Space → ℕ → ℕ → Type 0
MayLend s i p = (page : Page) × (page_at s.tables i p ≡ Some page) × IsHere page
