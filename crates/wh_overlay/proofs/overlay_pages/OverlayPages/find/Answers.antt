use Rattle.std.proofs.Common.{◌≡◌, arith, ◌+◌, ◌-◌}
use Rattle.wh_overlay.proofs.overlay_pages.OverlayPages.find.Goals as goal

pub returns-clause-some : goal.returns-clause-some
returns-clause-some c =
    let mark = c.mark_of-mark.result in
    let more : mark ≡ (mark - 2) + 2 = omega (arith, c.if-mark-lt-WRITTEN.false) in
    rw (← c.self.view_is) (c.self.invariant.0.only c.args.number (mark - 2) (rw (← c.mark_of-mark.ensures) more))
