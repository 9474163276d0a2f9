-- What the parts of the memory represent.
use Rattle.std.specs.Prelude.{ℕ, ◌≡◌, ◌^◌, ◌≤◌, Some, length, map, get_or, slice_get}
use Rattle.wh_space_model.specs.Frames.{tally}
use Rattle.wh_space_model.specs.Errands.{ticket_of}
use Rattle.wh_space_model.specs.Parts.{Space}
use Rattle.wh_space_model.specs.Sound.{IsSound}
use Rattle.wh_space.specs.declared.occupant_entry.OccupantEntry.{OccupantEntry}
use Rattle.wh_space.specs.declared.memory.Memory.TheInside.{Inside}
pub use Rattle.wh_space.specs.Occupancy.{occupant_of}
use Rattle.wh_space.specs.Pinning.{pins_of}

abbrev pub space_of : Inside → Space
space_of a = record {
  occupants = map occupant_of a.occupant_entries.items;
  tables = a.tables.pages;
  touched = a.tables.marks;
  pool = a.pool;
  marks = a.content;
  slots = a.slots;
  pins = pins_of a.pins;
  tax = a.tax;
}

-- what of an instance stays as long as it has a place
pub record Named : Type 0 where
  pub max : ℕ
  pub number : ℕ

abbrev pub named : OccupantEntry → Named
named t = record { max = t.max; number = t.number }

-- The memory is sound, each instance's table has room for its maximum and knows its number, and its tickets are counted.
-- The tables know of all frames. Places are numbers of 32 bits.
pub record IsWell (a : Inside) : Type 0 where
  pub sound : IsSound (space_of a)
  pub limits : (i : ℕ) (t : OccupantEntry) → slice_get a.occupant_entries.items i ≡ Some (Some t)
      → slice_get a.tables.limits i ≡ Some t.max
  pub numbers : (i : ℕ) (t : OccupantEntry) → slice_get a.occupant_entries.items i ≡ Some (Some t)
      → get_or a.tables.numbers i 0 ≡ t.number
  pub frames : a.tables.frames ≡ length a.pool.frames
  pub counted : (i : ℕ) (t : OccupantEntry) → slice_get a.occupant_entries.items i ≡ Some (Some t)
      → t.tickets ≡ tally (ticket_of i) a.slots.uses
  pub places : length a.occupant_entries.items ≤ 2 ^ 32
