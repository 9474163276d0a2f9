use Rattle.std.proofs.Common.{◌≡◌, ◌-◌, ◌≤◌, [], length, take}
use Rattle.wh_model.specs.Execution.{bytes_at}
use Rattle.wh_space_model.specs.{view}
use Rattle.wh_swap.specs.DeviceCalls.{ServesOn}
use Rattle.wh_reclaim.proofs.reading.read_bytes.Given as goal

-- no call has failed yet, and where the device has read right, the first bytes are those of the memory
abbrev pub invariant-loop-done : goal.invariant-loop-done
invariant-loop-done g l = record {
  few : l.done ≤ length l.into;
  long : length l.into ≡ length l.fn.into;
  held : g.D.SwapDev.held l.device ≡ g.D.SwapDev.held l.fn.device;
  writes : g.D.SwapDev.writes l.device ≡ g.D.SwapDev.writes l.fn.device;
  serves : ServesOn g.D.SwapDev.keeps g.D.SwapDev.honest g.D.SwapDev.faults l.fn.device [] l.device;
  read : g.D.SwapDev.honest l.device → take l.done l.into ≡ bytes_at (view l.memory l.place) l.at l.done;
}

abbrev pub decreases-loop-done : goal.decreases-loop-done
decreases-loop-done g l = length l.into - l.done
