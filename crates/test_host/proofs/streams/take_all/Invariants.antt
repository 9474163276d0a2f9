use Rattle.std.proofs.Common.{◌≡◌, length}
use Rattle.wh_swap.specs.Written.{page_held}
use Rattle.test_host.proofs.streams.take_all.Given as goal

abbrev pub invariant-loop-place : goal.invariant-loop-place
invariant-loop-place l = length (page_held l.device) ≡ 2
