use denote.Exit.{no}
use denote.Param.Send.{IsSend, arg_send, param_send, sendable}
use Rattle.std.proofs.Crossing.{crosses}
use Rattle.boxcar.proofs.Sent.{tag_send}
use Rattle.wh_swap.specs.contracts.stream.PageSwap as PageSwap
use Rattle.test_script.specs.contracts.swapping.Worn as Worn
use Rattle.test_script.proofs.swapping.run_worn.Goals as goal

-- a device over such pages may cross threads
worn_send : IsSend (PageSwap.the_row Worn.the_row)
worn_send = search (sendable, crosses, tag_send) depth 20

pub run_script-result-requires-send-D : goal.run_script-result-requires-send-D
run_script-result-requires-send-D g c κs within = param_send 3 _ (arg_send _ no _ worn_send)
