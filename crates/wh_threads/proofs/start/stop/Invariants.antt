use Rattle.crossbeam_channel.specs.Claims.{view, IsSeatAt}
use Rattle.crossbeam_channel.specs.Ends.{sends_on}
use Rattle.wh_threads.specs.Handover.{DispatchesLast}
use Rattle.wh_threads.proofs.start.stop.Given as goal

abbrev pub invariant-loop : goal.invariant-loop
invariant-loop g l = IsSeatAt (sends_on l.sender) l.slip × DispatchesLast (view l.fn.slip) (view l.slip)
