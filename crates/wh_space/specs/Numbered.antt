-- Instances in the order of their numbers.
use Rattle.std.specs.Prelude.{ℕ, ◌≡◌, ◌≤◌, Option, [], length, get_or}
use Rattle.wh_space_model.specs.declared.plain.InstId.{InstId}
use Rattle.wh_space_model.specs.Charges.{occupant_number}
use Rattle.wh_space_model.specs.Parts.{Space}
use Rattle.wh_tables.specs.Line.{IsAbove}

-- the instance at place i has pages, and a number above this one, if there is one
abbrev pub ComesAfter : Space → Option ℕ → ℕ → Type 0
ComesAfter s after i = (1 ≤ length (get_or s.tables i [])) × IsAbove after (occupant_number s i)

-- of those it is the one with the lowest number
pub record IsNextInstance (s : Space) (after : Option ℕ) (id : InstId) : Type 0 where
  pub number : occupant_number s id.place ≡ id.number
  pub later : ComesAfter s after id.place
  pub lowest : (j : ℕ) → ComesAfter s after j → id.number ≤ occupant_number s j
