use Rattle.std.proofs.Common.{◌≡◌, ◌*◌, take}
use Rattle.wh_kernels.proofs.pages_equal.Given as goal

-- the blocks so far are equal
abbrev pub invariant-loop-part : goal.invariant-loop-part
invariant-loop-part l = take (64 * l.part) l.first ≡ take (64 * l.part) l.second
