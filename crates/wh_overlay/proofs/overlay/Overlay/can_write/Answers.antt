use Rattle.std.proofs.Common.{arith}
use Rattle.wh_overlay.proofs.Seen.{written_within}
use Rattle.wh_overlay.proofs.overlay.Overlay.can_write.Goals as goal

pub returns-then-number-from : goal.returns-then-number-from
returns-then-number-from c =
    let o = c.self.inside in
    let wide = c.from.ensures in
    let past = c.if-number-from.true in
    rw (← c.self.view_is) (λ can. (let less = written_within o.lower.now o.place o.upper c.args.number c.self.invariant.at_hand can in absurd (omega (arith, less, c.pages_at.ensures, wide, past))))
