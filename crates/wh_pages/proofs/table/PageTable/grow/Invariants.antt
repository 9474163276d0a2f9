use Rattle.std.proofs.Common.{◌≡◌}
use Rattle.wh_pages.proofs.Epochs.{grown}
use Rattle.wh_pages.proofs.table.PageTable.grow.Given as goal

-- n pages have come
abbrev pub invariant-loop : goal.invariant-loop
invariant-loop l = l.self ≡ grown l.fn.self l.counter
