use Rattle.std.proofs.Common.{◌≡◌, ◌*◌, take, replicate}
use Rattle.wh_kernels.proofs.is_zero.Given as goal

-- the blocks so far are zeros
abbrev pub invariant-loop-part : goal.invariant-loop-part
invariant-loop-part l = take (64 * l.part) l.page ≡ replicate (64 * l.part) 0
