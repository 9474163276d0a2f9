use Rattle.std.proofs.Common.{◌≡◌, ◌+◌, ◌*◌}
use Rattle.wh_machine.specs.CallStates.{setting_of, call_state}
use Rattle.wh_instance.specs.Computed.{ComputesWithin}
use Rattle.wh_instance.specs.Bursts.{AreUsed}
use Rattle.wh_instance.proofs.burst.compute_burst.Given as goal

abbrev pub invariant-loop-behind : goal.invariant-loop-behind
invariant-loop-behind g l = record {
  turns : l.ended.turns ≡ l.behind + 1;
  leave : l.ended.leave.reads ≡ l.behind;
  computes : ComputesWithin (setting_of l.linked g.M.LinearMem.bytes g.M.LinearMem.ready g.M.LinearMem.keeps (g.M.LinearMem.limit l.fn.memory)) (call_state l.fn.machine l.fn.store l.fn.memory) (l.ended.turns * l.burst.quantum) l.left l.ended.came l.ended.charges (call_state l.machine l.store l.memory);
  used : AreUsed l.burst.quantum l.ended.turns l.ended.charges;
  keeps : g.M.LinearMem.keeps l.fn.memory l.memory;
}
