-- What is written back for one instance changes nothing that another one's pages rest on.
use Rattle.std.proofs.Common.{◌≡◌, ℕ, List, [], get_or, slice_get, ap}
use Rattle.wh_space_model.specs.{tally, Space, at}
use Rattle.wh_space_model.specs.declared.states.Page.{Page}
use Rattle.wh_overlay.specs.declared.overlay_pages.WrittenPage.{WrittenPage}
use Rattle.wh_overlay.specs.Over.{frames_lacking, lacks_frame}

pub lacking_beside : (s s2 : Space) (j : ℕ) (pages : List WrittenPage) → get_or s2.tables j [] ≡ get_or s.tables j [] → frames_lacking s2 j pages ≡ frames_lacking s j pages
lacking_beside s s2 j pages same = ap (λ (t : List Page). tally (λ (x : WrittenPage). at lacks_frame (slice_get t x.number)) pages) same
