use Rattle.std.proofs.Common.{◌≢◌, ◌∙◌, List, ℕ, [], get_or, sym, ap}
use Rattle.wh_reclaim.proofs.Sending.{slot_there, slot_whole}
use Rattle.wh_reclaim.proofs.ready.fetch_now.Goals as goal

pub read-requires : goal.read-requires
read-requires g c = record { there = (let less = slot_there c.args.memory.now c.args.place c.args.page c.args.slot c.invariant.ensures.sound c.requires.page in rw (← c.requires.agrees) less) }

pub returns-in-Ok-clause-given : goal.returns-in-Ok-clause-given
returns-in-Ok-clause-given g c = λ honest.
    (let whole = slot_whole c.args.memory.now c.args.place c.args.page c.args.slot c.invariant.ensures.sound c.requires.page in
    let some : get_or (g.D.SwapDev.held c.args.device.now) c.args.slot [] ≢ [] = rw (← c.requires.agrees) whole in
    ap (λ (z : List (List ℕ)). get_or z c.args.slot []) c.requires.agrees ∙ sym (c.in-Ok.ensures.bytes honest some))
