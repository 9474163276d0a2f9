use Rattle.std.proofs.Common.{◌≡◌}
use Rattle.bench_machine.proofs.calls.write_segment.Given as goal

abbrev pub invariant-loop-piece : goal.invariant-loop-piece
invariant-loop-piece g l = g.M.LinearMem.limit l.memory ≡ g.M.LinearMem.limit l.fn.memory
