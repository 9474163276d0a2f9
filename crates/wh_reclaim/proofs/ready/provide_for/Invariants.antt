use Rattle.std.proofs.Common.{◌≡◌, ◌+◌, ◌≤◌, ℕ, List, []}
use Rattle.wh_space_model.specs.{count, one_if, resident, tally, pinned_by, Move, Serves, ServesTruly, far, leaves}
use Rattle.wh_swap.specs.DeviceCalls.{ServesOn}
use Rattle.wh_reclaim.specs.Providing.{arrives}
use Rattle.wh_reclaim.proofs.ready.provide_for.Given as goal

-- these moves led here, and no call of the device has failed
abbrev pub invariant-loop-memory : goal.invariant-loop-memory
invariant-loop-memory g l = record {
  moves : List Move;
  serves : Serves l.fn.memory l.place l.need moves l.memory;
  truly : g.D.SwapDev.honest l.device → ServesTruly l.fn.memory l.place l.need moves l.memory;
  many : tally leaves moves ≡ l.left;
  arrived : tally arrives moves ≡ l.came;
  nearer : l.came + far l.memory l.place l.need ≤ count resident l.fn.memory.tables + 4;
  once : (q : ℕ) → tally (one_if q) (pinned_by l.memory.pins l.place) ≤ 1;
  agrees : l.memory.slots.held ≡ g.D.SwapDev.held l.device;
  writes : g.D.SwapDev.writes l.device ≡ g.D.SwapDev.writes l.fn.device + l.left;
  calls : ServesOn g.D.SwapDev.keeps g.D.SwapDev.honest g.D.SwapDev.faults l.fn.device [] l.device;
}

abbrev pub decreases-loop-memory : goal.decreases-loop-memory
decreases-loop-memory g l = far l.memory l.place l.need
