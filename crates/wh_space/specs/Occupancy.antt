-- Who has which place, and what all of them were promised together.
use Rattle.std.specs.Prelude.{ℕ, ◌≡◌, ◌≤◌, ◌+◌, ◌-◌, List, Option, Some, None, map, slice_get, vec_len, vec_capacity}
use Rattle.wh_space_model.specs.Frames.{tally}
use Rattle.wh_space_model.specs.Parts.{Occupant, of_occupant}
use Rattle.wh_space.specs.declared.occupant_entry.OccupantEntry.{OccupantEntry}
use Rattle.wh_space.specs.declared.occupant_entries.OccupantEntries.TheInside.{Inside}

-- who has a place
abbrev pub occupant_of : Option OccupantEntry → Option Occupant
occupant_of None = None
occupant_of (Some t) =
    Some (record {
      number = t.number;
      live = t.live;
      shares = t.shares;
      min = t.min;
      max = t.max;
      stands = t.stands;
      leaves = t.leaves;
    })

-- who has each place, and for how many more places there is room
pub record HeldPlaces : Type 0 where
  pub items : List (Option OccupantEntry)
  pub spare : ℕ

abbrev pub held_places : Inside → HeldPlaces
held_places a = record { items = a.rows.items; spare = vec_capacity a.rows - vec_len a.rows }

-- The sums are those of all who have a place, and none of their numbers is above the greatest.
pub record AreSummed (xs : List (Option OccupantEntry)) (least most greatest : ℕ) : Type 0 where
  pub minima : least ≡ tally (of_occupant (λ t. t.min)) (map occupant_of xs)
  pub spreads : most ≡ tally (of_occupant (λ t. (t.max - t.min) + 1)) (map occupant_of xs)
  pub numbers : (i : ℕ) (t : OccupantEntry) → slice_get xs i ≡ Some (Some t) → t.number ≤ greatest

abbrev pub IsSummed : Inside → Type 0
IsSummed a = AreSummed a.rows.items a.minima a.spreads a.greatest

-- what of whoever has a place stays, and counts in the sums
pub record Terms : Type 0 where
  pub number : ℕ
  pub min : ℕ
  pub max : ℕ

abbrev pub terms_of : Option OccupantEntry → Option Terms
terms_of None = None
terms_of (Some t) = Some (record { number = t.number; min = t.min; max = t.max })
