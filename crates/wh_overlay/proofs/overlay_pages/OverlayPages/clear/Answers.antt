use Rattle.std.proofs.Common.{◌≡◌, ◌∙◌, ℕ, ◌+◌, ◌-◌, List, [], refl, rules}
use Rattle.wh_overlay.specs.declared.overlay_pages.WrittenPage.{WrittenPage}
use Rattle.wh_overlay.specs.LaidPages.{OverlayPagesState}
use Rattle.wh_overlay.proofs.overlay_pages.OverlayPages.clear.Goals as goal

same_state : (pages pages2 : List WrittenPage) (reads reads2 : List ℕ) (room room2 most most2 lent : ℕ) → pages ≡ pages2 → reads ≡ reads2 → room ≡ room2 → most ≡ most2
    → ◌≡◌ {A = OverlayPagesState} (record { pages = pages; reads = reads; grown = 0; room = room; most = most; lent = lent; taken = 0 }) (record { pages = pages2; reads = reads2; grown = 0; room = room2; most = most2; lent = lent; taken = 0 })
same_state pages pages2 reads reads2 room room2 most most2 lent a b c d = rw (a, b, c, d) refl

pub returns : goal.returns
returns c = search rules
