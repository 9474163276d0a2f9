use Rattle.std.proofs.Common.{arith, rules}
use Rattle.wh_overlay.proofs.Seen.{seen_length}
use Rattle.wh_overlay.proofs.overlay.Overlay.bytes.Goals as goal

pub returns-clause-long : goal.returns-clause-long
returns-clause-long c =
    let o = c.self.inside in
    let seen = seen_length o.lower.now o.place o.upper c.invariant-2.ensures.sound c.self.invariant.at_hand c.invariant.ensures.whole in
    rw (← c.self.view_is) (omega (arith, seen, c.size.ensures.bytes))

pub returns-clause-few : goal.returns-clause-few
returns-clause-few c = search rules
