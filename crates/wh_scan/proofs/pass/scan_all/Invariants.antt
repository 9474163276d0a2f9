use Rattle.std.proofs.Common.{◌+◌, ◌-◌, ◌^◌, ℕ, Option, Some, None}
use Rattle.wh_scan.proofs.ByNumber.{IsPassUpTo}
use Rattle.wh_scan.proofs.Few.{AreCounted}
use Rattle.wh_scan.proofs.pass.scan_all.Given as goal

-- the pages of the instances with numbers up to this one were offered, and counted
abbrev pub invariant-loop-next : goal.invariant-loop-next
invariant-loop-next g l =
    IsPassUpTo (g.H.PageHash.hashes l.hasher) l.fn.memory l.after l.offered l.merged l.memory
    × AreCounted l.fn.memory l.after l.offered

-- how many numbers there may be above it
abbrev pub numbers_left : Option ℕ → ℕ
numbers_left None = 2 ^ 64
numbers_left (Some n) = 2 ^ 64 - (n + 1)

abbrev pub decreases-loop-next : goal.decreases-loop-next
decreases-loop-next g l = numbers_left l.after
