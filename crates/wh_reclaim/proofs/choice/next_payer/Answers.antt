use Rattle.std.proofs.Common.{refl}
use Rattle.wh_reclaim.proofs.Paying.{takes_none, may_pay, nobody_there, not_above, pays_now, skips, still_pays}
use Rattle.wh_reclaim.proofs.choice.next_payer.Goals as goal

pub returns-in_default : goal.returns-in_default
returns-in_default c = skips c.args.memory.now c.args.place c.args.payer c.requires (nobody_there c.args.memory.now c.args.place c.in_default.ensures.none)

pub returns-then-not-is_above : goal.returns-then-not-is_above
returns-then-not-is_above c =
    let x = c.in-Some.ensures.some in
    skips c.args.memory.now c.args.place c.args.payer c.requires (not_above c.args.memory.now c.args.place x.0 c.in-Some.claim x.1 x.3 c.if-not-is_above.ensures)

pub returns-then-not-pays_before_any : goal.returns-then-not-pays_before_any
returns-then-not-pays_before_any c =
    let x = c.in-Some.ensures.some in
    still_pays c.args.memory.now c.args.place _ c.args.payer refl (record { occupant = x.0; there = x.1; number = x.2; claim = x.3 })
    c.requires (rw c.tax.ensures at c.if-not-pays_before_any.ensures)

pub returns-then-not-has_page_to_take : goal.returns-then-not-has_page_to_take
returns-then-not-has_page_to_take c = skips c.args.memory.now c.args.place c.args.payer c.requires (takes_none c.args.memory.now c.args.place c.if-not-has_page_to_take.ensures)

pub returns : goal.returns
returns c =
    let x = c.in-Some.ensures.some in
    pays_now c.args.memory.now c.args.place _ c.args.payer refl (record { occupant = x.0; there = x.1; number = x.2; claim = x.3 })
    (may_pay c.args.memory.now c.args.place x.0 c.in-Some.claim x.1 x.3 c.if-not-is_above.ensures c.if-not-has_page_to_take.ensures)
    c.requires (rw c.tax.ensures at c.if-not-pays_before_any.ensures)
