use Rattle.std.proofs.Common.{◌≡◌, ℕ, get_or, length}
use Rattle.wh_overlay.proofs.Marks.{AreLeft}
use Rattle.wh_overlay.proofs.overlay_pages.clear_written.Given as goal

abbrev pub invariant-loop-page : goal.invariant-loop-page
invariant-loop-page l =
    AreLeft l.fn.pages l.marks.items l.page-index × (length l.marks.items ≡ length l.fn.marks.items) × (l.pages ≡ l.fn.pages)
    × ((p : ℕ) → get_or l.marks.items p 0 ≡ 1 → get_or l.fn.marks.items p 0 ≡ 1)
