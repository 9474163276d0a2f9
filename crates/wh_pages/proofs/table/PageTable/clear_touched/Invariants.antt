use Rattle.std.proofs.Common.{◌≡◌}
use Rattle.wh_pages.proofs.Epochs.{cleared}
use Rattle.wh_pages.proofs.table.PageTable.clear_touched.Given as goal

-- the marks so far are gone
abbrev pub invariant-loop-at : goal.invariant-loop-at
invariant-loop-at l = l.self ≡ cleared l.fn.self l.at
