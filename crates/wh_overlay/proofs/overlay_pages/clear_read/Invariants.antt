use Rattle.std.proofs.Common.{◌≡◌, [], length}
use Rattle.wh_overlay.specs.LaidPages.{IsMarked}
use Rattle.wh_overlay.proofs.Marks.{ReadsLeft}
use Rattle.wh_overlay.proofs.overlay_pages.clear_read.Given as goal

abbrev pub invariant-loop-number : goal.invariant-loop-number
invariant-loop-number l =
    IsMarked [] l.marks.items × (length l.marks.items ≡ length l.fn.marks.items) × ReadsLeft l.fn.reads l.marks.items l.number-index × (l.reads ≡ l.fn.reads)
