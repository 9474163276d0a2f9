use Rattle.std.proofs.Common.{◌≡◌}
use Rattle.bench_machine.proofs.calls.write_segments.Given as goal

abbrev pub invariant-loop-segment : goal.invariant-loop-segment
invariant-loop-segment g l = g.M.LinearMem.limit l.memory ≡ g.M.LinearMem.limit l.fn.memory
