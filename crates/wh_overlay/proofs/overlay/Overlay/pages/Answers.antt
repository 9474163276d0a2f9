use Rattle.std.proofs.Common.{arith}
use Rattle.wh_overlay.proofs.Seen.{seen_length}
use Rattle.wh_overlay.proofs.overlay.Overlay.pages.Goals as goal

pub returns : goal.returns
returns c =
    let o = c.self.inside in
    let seen = seen_length o.lower.now o.place o.upper c.invariant-2.ensures.sound c.self.invariant.at_hand c.invariant.ensures.whole in
    rw (← c.self.view_is) (omega (arith, seen, c.size.ensures.bytes))
