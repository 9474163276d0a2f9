use Rattle.std.proofs.Common.{ℕ, ◌*◌, ◌≤◌, ◌<◌}
use Rattle.wh_pages.specs.Seeking.{IsSought}
use Rattle.wh_pages.proofs.table.PageTable.next_resident.Given as goal

-- none in the leaves so far is looked for
abbrev pub invariant-loop-leaf : goal.invariant-loop-leaf
invariant-loop-leaf l = (q : ℕ) → l.from ≤ q → q < 256 * l.leaf → ¬ IsSought l.self l.idle q
