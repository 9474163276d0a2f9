use Rattle.std.proofs.Common.{◌≡◌, ◌<◌, ◌+◌, ◌-◌, ℕ, List, None, Option, length, replicate, slice_set, ap, ◌∙◌, arith}
use Rattle.std.proofs.lemmas.List.{length-append, length-replicate}
use Rattle.wh_swap.specs.MemorySwaps.{slots_held}
use Rattle.wh_swap.proofs.Reserved.{all_slots, more_there, one_written}
use Rattle.wh_swap.proofs.memory.MemSwapSwapDev.write.Goals as goal

pub returns-clause-written : goal.returns-clause-written
returns-clause-written c =
    let a = c.self.inside in
    let k = c.args.slot in
    let were = a.slots.items in
    let are = c.reach.new.slots.items in
    let more : ℕ = k + 1 - length were in
    let there : k < a.count = omega (arith, rw (← c.self.view_is) at c.requires.there, all_slots a.count were c.self.invariant.within) in
    let long : length are ≡ length were + more = ap length c.reach.ensures.items ∙ length-append were (replicate more None) ∙ ap (λ n. length were + n) (length-replicate {A = Option (List ℕ)} more None) in
    let same = ap (slots_held a.count) c.reach.ensures.items ∙ more_there a.count more were (omega (arith, there, c.self.invariant.within)) in
    rw (← c.self.view_is) (one_written a.count are k c.args.from.now (omega (arith, long)) ∙ ap (λ held. slice_set held k c.args.from.now) same)
