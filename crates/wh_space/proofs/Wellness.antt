-- What keeps the memory well.
use Rattle.std.proofs.Common.{◌≡◌, ◌∙◌, ℕ, Some, length, sym, ap, slice_get, get_or}
use Rattle.wh_space_model.specs.{tally, ticket_of, Slots, IsSound}
use Rattle.wh_space.specs.declared.occupant_entry.OccupantEntry.{OccupantEntry}
use Rattle.wh_space.specs.declared.memory.Memory.TheInside.{Inside}
use Rattle.wh_space.specs.UnchangedTables.{Fixed, fixed_in}
use Rattle.wh_space.specs.Parts.{IsWell, space_of}

-- the same occupants, tables with the same limits, numbers and frames, as many frames, and as many tickets of each
pub well_with : (a b : Inside) → IsWell a → b.occupant_entries ≡ a.occupant_entries → fixed_in b.tables ≡ fixed_in a.tables → length b.pool.frames ≡ length a.pool.frames
    → ((i : ℕ) → tally (ticket_of i) b.slots.uses ≡ tally (ticket_of i) a.slots.uses) → IsSound (space_of b) → IsWell b
well_with a b was same fixed frames tickets sound =
    let here : (i : ℕ) (t : OccupantEntry) → slice_get b.occupant_entries.items i ≡ Some (Some t) → slice_get a.occupant_entries.items i ≡ Some (Some t) = λ i t is. sym (ap (λ (z : _). slice_get z.items i) same) ∙ is in
    record {
      sound = sound;
      limits = λ i t is. ap (λ (z : Fixed). slice_get z.limits i) fixed ∙ was.limits i t (here i t is);
      numbers = λ i t is. ap (λ (z : Fixed). get_or z.numbers i 0) fixed ∙ was.numbers i t (here i t is);
      frames = ap (λ (z : Fixed). z.frames) fixed ∙ was.frames ∙ sym frames;
      counted = λ i t is. was.counted i t (here i t is) ∙ sym (tickets i);
      places = rw same was.places;
    }

-- and the same slots
pub well : (a b : Inside) → IsWell a → b.occupant_entries ≡ a.occupant_entries → fixed_in b.tables ≡ fixed_in a.tables → length b.pool.frames ≡ length a.pool.frames → b.slots ≡ a.slots → IsSound (space_of b) → IsWell b
well a b was same fixed frames slots sound = well_with a b was same fixed frames (λ i. ap (λ (z : Slots). tally (ticket_of i) z.uses) slots) sound
