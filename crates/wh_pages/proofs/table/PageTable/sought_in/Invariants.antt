use Rattle.std.proofs.Common.{ℕ, ◌≤◌, ◌<◌}
use Rattle.wh_pages.specs.Seeking.{IsSought}
use Rattle.wh_pages.proofs.table.PageTable.sought_in.Given as goal

-- none so far is looked for
abbrev pub invariant-loop-at : goal.invariant-loop-at
invariant-loop-at l = (q : ℕ) → l.first ≤ q → q < l.at → ¬ IsSought l.self l.idle q
