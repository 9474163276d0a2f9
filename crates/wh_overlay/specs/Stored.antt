-- What contracts see of what is written in an overlay can be stored: as its parts.
use Rattle.std.specs.Prelude.{ℕ, List, refl}
use Rattle.std.specs.Coded.{Coded, code_by, coded_list, coded_ℕ, coded×}
use Rattle.wh_overlay.specs.declared.overlay_pages.WrittenPage.{WrittenPage}
use Rattle.wh_overlay.specs.contracts.overlay_pages.WrittenPage as page_type
use Rattle.wh_overlay.specs.LaidPages.{OverlayPagesState}

abbrev pub stored_upper : Coded OverlayPagesState
stored_upper =
    code_by (List WrittenPage × (List ℕ × (ℕ × (ℕ × (ℕ × (ℕ × ℕ))))))
    (coded× (coded_list page_type.the_row.coded)
    (coded× (coded_list coded_ℕ) (coded× coded_ℕ (coded× coded_ℕ (coded× coded_ℕ (coded× coded_ℕ coded_ℕ))))))
    (λ u. (u.pages, (u.reads, (u.grown, (u.room, (u.most, (u.lent, u.taken)))))))
    (λ p. record {
      pages = p.0;
      reads = p.1.0;
      grown = p.1.1.0;
      room = p.1.1.1.0;
      most = p.1.1.1.1.0;
      lent = p.1.1.1.1.1.0;
      taken = p.1.1.1.1.1.1;
    })
    (λ _. refl)
