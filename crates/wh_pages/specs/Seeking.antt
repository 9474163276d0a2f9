-- Pages that are looked for in a page table.
use Rattle.std.specs.Prelude.{ℕ, ◌≡◌, ◌≢◌, ◌≤◌, ◌<◌, Bool, true, Option, Some, None, slice_get}
use Rattle.wh_space_model.specs.declared.states.Page.{Page}
use Rattle.wh_space_model.specs.States.{resident}
use Rattle.wh_pages.specs.Table.{PageTableState}

-- the page at this place is resident; if idle ones alone are looked for, it wasn't touched in this epoch
pub record IsSought (t : PageTableState) (idle : Bool) (p : ℕ) : Type 0 where
  pub page : Page
  pub there : slice_get t.pages p ≡ Some page
  pub stands : resident page ≡ 1
  pub untouched : idle ≡ true → slice_get t.touched p ≢ Some true

-- the first number from this one on that has the property, or none
abbrev pub IsFirstFrom : (ℕ → Type 0) → ℕ → Option ℕ → Type 0
IsFirstFrom P from None = (q : ℕ) → from ≤ q → ¬ P q
IsFirstFrom P from (Some p) = (P p × (from ≤ p)) × ((q : ℕ) → from ≤ q → q < p → ¬ P q)
