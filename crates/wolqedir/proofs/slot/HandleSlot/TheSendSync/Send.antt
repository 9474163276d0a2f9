-- A slot may cross threads: what it owns is the box of a host, or nothing.
use base.Shift.{Keyless}
use denote.Builtin.{RawPtr}
use denote.Memory.{lone}
use denote.Param.Send.{AllSend, IsSend, owning_send, sendable, struct_send}
use denote.RawPtr.{Ptr}
use denote.Struct.Owning.{fields, shape, to}
use denote.Struct.Struct.{exits_of}
use mir.Raw.{raw}
use Rattle.std.specs.Prelude.{Option, Some, None}
use Rattle.std.specs.Global.{Global}
use Rattle.std.proofs.Crossing as std
use Rattle.std_alloc.proofs.SendSync.{lies, quiet}
use Rattle.wh_hand.specs.contracts.hand.Hand as Hand
use Rattle.wolqedir.specs.Held.{slot_owns}
use Rattle.wolqedir.specs.contracts.slot.HandleSlot.{the_row, the_type}
use Rattle.wolqedir.proofs.Crossing.{hand_send}

pointer_send : IsSend RawPtr
pointer_send = search sendable

owned : (alloc : Global) (at : Ptr) (held : Option Hand.the_row.Denot) → Keyless (slot_owns alloc at held)
owned alloc at None = tt
owned alloc at (Some x) = (lies Hand.the_row hand_send at x, std.frees.frees alloc (raw (lone Hand.the_row.mir)) at)

all : AllSend (fields the_type)
all = (pointer_send, (search sendable depth 20, tt))

pub send : IsSend the_row
send = owning_send the_type all (λ d. owned d.alloc d.at d.held)
    (λ k. quiet (to the_type) (exits_of k (fields the_type)) ((struct_send (shape the_type) all).leaving k))
