use Rattle.std.proofs.Common.{length, arith}
use Rattle.wh_space_model.proofs.Tally.{length-le_from_once}
use Rattle.wh_swap.proofs.slots.Slots.vacant.Goals as goal

pub overflow_cast-result : goal.overflow_cast-result
overflow_cast-result c =
    let a = c.self.inside in
    let once = c.self.invariant.vacant in
    record { fits = omega (arith, length-le_from_once (length a.uses.items) a.vacant.items once.once once.below, c.self.invariant.few, c.len.ensures, a.vacant.ok.0) }
