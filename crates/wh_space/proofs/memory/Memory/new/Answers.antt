use Rattle.std.proofs.Common.{◌≡◌, ◌≤◌, ℕ, [], None, Some, length, replicate, refl, sym, ap, ◌∙◌, subst, arith}
use Rattle.std.proofs.lemmas.List.{length-replicate}
use Rattle.wh_space_model.specs.{Pool, tally, one_if, zero_page, empty_space, numbers_below, IsSound}
use Rattle.wh_space_model.specs.declared.states.Slot.TheVariants.{Vacant}
use Rattle.wh_space_model.proofs.Chained.{empty_in_order}
use Rattle.wh_space.specs.declared.memory.Memory.TheInside.{Inside}
use Rattle.wh_space.specs.Parts.{space_of}
use Rattle.wh_space.proofs.memory.Memory.new.Goals as goal

pub invariant_of-result : goal.invariant_of-result
invariant_of-result c =
    let a : Inside = record { occupant_entries = c.new-5.result; tables = c.in-Ok-new-2.tables; pool = c.in_ok-pool.pool; content = c.in-Ok.content; slots = c.in-Ok-new.slots; pins = None; tax = c.args.tax } in
    let pool : Pool = c.in_ok-pool.pool in
    let many : length pool.frames ≡ c.args.frames = ap length c.in_ok-pool.ensures.frames ∙ length-replicate c.args.frames zero_page in
    let never : (f : ℕ) → c.args.frames ≤ f → tally (one_if f) pool.free ≡ 0 = λ f past. c.free.ensures.distinct.there f (omega arith) in
    let empty = empty_in_order c.args.frames c.args.slots c.args.tax pool.free c.in_ok-pool.ensures.each never in
    let slots_are : c.in-Ok-new.slots ≡ record { uses = replicate c.args.slots Vacant; vacant = numbers_below c.args.slots; held = replicate c.args.slots [] } =
    rw (← c.in-Ok-new.ensures.uses, ← c.in-Ok-new.ensures.vacant, ← c.in-Ok-new.ensures.held) refl in
    let is : space_of a ≡ record (empty_space c.args.frames c.args.slots c.args.tax) { pool = record { frames = replicate c.args.frames zero_page; free = pool.free } } =
    rw (c.new-5.ensures.items, c.in-Ok-new-2.ensures, c.in-Ok.ensures, slots_are, ← c.in_ok-pool.ensures.frames) refl in
    record {
      sound = subst IsSound (sym is) empty;
      limits = λ i t here. absurd (let bad : None ≡ Some (Some t) = rw c.new-5.ensures.items at here in cc);
      numbers = λ i t here. absurd (let bad : None ≡ Some (Some t) = rw c.new-5.ensures.items at here in cc);
      frames = rw (c.in-Ok-new-2.ensures, many) refl;
      counted = λ i t here. absurd (let bad : None ≡ Some (Some t) = rw c.new-5.ensures.items at here in cc);
      places = rw c.new-5.ensures.items (omega arith);
    }
