-- Pages whose bytes are in a slot.
use Rattle.std.specs.Prelude.{◌≡◌, ◌⊎◌, ℕ, Some}
use Rattle.wh_space_model.specs.Parts.{Space}
use Rattle.wh_space_model.specs.States.{page_at}
use Rattle.wh_space_model.specs.declared.states.Page.TheVariants.{Coming, Swapped}

-- the page is in this slot, or comes from it
abbrev pub LiesInSlot : Space → ℕ → ℕ → ℕ → Type 0
LiesInSlot s i p k = (page_at s.tables i p ≡ Some (Swapped k)) ⊎ (page_at s.tables i p ≡ Some (Coming k))
