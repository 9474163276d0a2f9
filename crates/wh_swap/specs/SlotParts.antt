-- What the parts of the slots' bookkeeping represent.
use Rattle.std.specs.Prelude.{ℕ, ◌≡◌, ◌^◌, ◌<◌, ◌≤◌, List, length, map}
use Rattle.boxcar.specs.declared.tag.Tag.{Tag}
use Rattle.std.specs.Vec.{vec_capacity}
use Rattle.wh_space_model.specs.Frames.{tally, one_if}
use Rattle.wh_space_model.specs.Parts.{Slots}
use Rattle.wh_swap.specs.declared.slots.Slots.TheInside.{Inside}

-- what each slot holds is in values without bytes
abbrev pub all_held : List Tag → List (List ℕ)
all_held tags = map (λ tag. tag.numbers) tags

abbrev pub slots_of : Inside → Slots
slots_of a = record { uses = a.uses.items; vacant = a.vacant.items; held = all_held a.held.items }

-- each number below n stands at most once, and no other
pub record AreOnce (n : ℕ) (numbers : List ℕ) : Type 0 where
  pub once : (f : ℕ) → tally (one_if f) numbers ≤ 1
  pub below : (f : ℕ) → n ≤ f → tally (one_if f) numbers ≡ 0

-- there is room for the number of each slot, and those of the vacant ones stand once; of each it is known what it holds
pub record HasRoomForAll (a : Inside) : Type 0 where
  pub room : length a.uses.items ≤ vec_capacity a.vacant
  pub few : length a.uses.items < 2 ^ 32
  pub vacant : AreOnce (length a.uses.items) a.vacant.items
  pub held : length a.held.items ≡ length a.uses.items
