-- A full slot and the parts of a box own what a box of a host owns.
use mir.Syntax.{impl, tnil, dnil}
use mathlib.Core.List.{[]}
use denote.Signature.{Slot, plain}
use Rattle.std_alloc.proofs.BoxSteps.Form.{Bx}
use Rattle.std_heap.specs.contracts.Global as Heap
use Rattle.std_heap.specs.contracts.GlobalAllocator.TheImpl.{ghosts, dict}
use Rattle.std_heap.proofs.Global.TheLaws as heap
use Rattle.wh_hand.specs.contracts.hand.Hand as Hand
use Rattle.wh_hand.proofs.hand.Hand.TheLaws as hand
use Rattle.wolqedir.specs.contracts.sealing.SealedParts as Parts
use Rattle.wolqedir.specs.contracts.slot.HandleSlot as Place

abbrev pub E : Bx
E = record { row = Hand.the_row; laws = hand.the_row_laws; al = record { row = Heap.the_row; laws = heap.the_row_laws; g = ghosts; d = dict; drops = impl [] tnil dnil } }

abbrev pub FromParts : Slot 0
FromParts = plain (λ _. Parts.the_row Hand.the_row Heap.the_row ghosts)

abbrev pub FromSlot : Slot 0
FromSlot = plain (λ _. Place.the_row)
