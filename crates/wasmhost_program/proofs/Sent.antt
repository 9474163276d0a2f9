-- A device over a stream may cross threads where the stream may.
use denote.RattleType.{RattleType}
use denote.Param.Send.{IsSend, sendable}
use Rattle.std.proofs.Crossing.{crosses}
use Rattle.boxcar.proofs.Sent.{tag_send}
use Rattle.wh_swap.specs.contracts.pages.StreamPages as StreamPages
use Rattle.wh_swap.specs.contracts.stream.PageSwap as PageSwap

pub swap_send : (F : RattleType) → IsSend F → IsSend (PageSwap.the_row (StreamPages.the_row F))
swap_send F sent = search (sendable, crosses, tag_send) depth 20
