-- What a swap device in memory holds.
use Rattle.std.specs.Prelude.{ℕ, ◌≤◌, ◌-◌, ◌++◌, List, [], length, map, replicate, Option, Some, None}
use Rattle.std.specs.Vec.{vec_capacity}
use Rattle.wh_swap.specs.declared.memory.MemSwap.TheInside.{Inside}

-- what contracts see of it: what each slot's last write wrote, and how many writes there were
pub record Contents : Type 0 where
  pub held : List (List ℕ)
  pub writes : ℕ

-- the bytes of a slot, where something was written to it
abbrev pub slot_bytes : Option (List ℕ) → List ℕ
slot_bytes None = []
slot_bytes (Some bytes) = bytes

-- of `count` slots the first ones were needed so far, and nothing was written to the others
abbrev pub slots_held : ℕ → List (Option (List ℕ)) → List (List ℕ)
slots_held count slots = map slot_bytes slots ++ replicate (count - length slots) []

abbrev pub contents_of : Inside → Contents
contents_of a = record { held = slots_held a.count a.slots.items; writes = length a.writes.numbers }

-- none of them is needed that isn't there, and there is room for all
pub record HasRoomForSlots (a : Inside) : Type 0 where
  pub within : length a.slots.items ≤ a.count
  pub room : a.count ≤ vec_capacity a.slots

-- what each slot holds
abbrev pub memory_held : Contents → List (List ℕ)
memory_held device = device.held

-- how many writes there were
abbrev pub memory_writes : Contents → ℕ
memory_writes device = device.writes
