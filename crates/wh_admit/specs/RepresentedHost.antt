-- For which host, and for which of its modules, what an admission is given stands.
use Rattle.std.specs.Prelude.{◌≡◌, ℕ, ◌+◌, length, Option, Some, None}
use Rattle.wh_model.specs.Format.Syntax.{Module}
use Rattle.wh_space_model.specs.Parts.{minima, spreads}
use Rattle.wh_host_model.specs.Host.Worlds.{Loaded, World, loaded_of}
use Rattle.wh_host_model.specs.Host.Admission.{live_count}
use Rattle.wh_admit.specs.declared.room.Room.{Room}

-- the module has this number, or there is none, and no module has it
abbrev pub IsModuleAt : World → ℕ → Option Module → Type 0
IsModuleAt w k None = loaded_of w k ≡ None
IsModuleAt w k (Some m) = (l : Loaded) × (loaded_of w k ≡ Some l) × (m ≡ l.m)

-- the room is what the host has left: frames beside all minima, slots beside all spreads, and how many are live
pub record IsRoomLeft (w : World) (room : Room) : Type 0 where
  pub frames : room.frames + minima w.space ≡ length w.space.pool.frames
  pub slots : room.slots + spreads w.space ≡ length w.space.slots.uses
  pub live : room.live ≡ live_count w.tenants

-- both represent the host and the module of this number
pub record RepresentsHost (w : World) (k : ℕ) (m : Option Module) (room : Room) : Type 0 where
  pub is_module : IsModuleAt w k m
  pub room_left : IsRoomLeft w room

-- whatever is given represents some host and some number
abbrev pub RepresentsSome : Type 0
RepresentsSome = (m : Option Module) (room : Room) → (w : World) × (k : ℕ) × RepresentsHost w k m room
