use Rattle.std.proofs.Common.{◌≡◌, ◌∙◌, ◌+◌, ap, sym, arith, get_or}
use Rattle.wh_overlay.proofs.overlay_pages.OverlayPages.invariant.Goals as goal

pub returns-clause-once : goal.returns-clause-once
returns-clause-once c =
    let is = c.self.invariant.0 in
    rw (← c.self.view_is) (λ j k x y here there same.
    let two = is.each k y there in
    let both : j + 2 ≡ k + 2 = sym (is.each j x here) ∙ ap (λ n. get_or c.self.inside.marks.items n 0) same ∙ two in
    omega (arith, both))
