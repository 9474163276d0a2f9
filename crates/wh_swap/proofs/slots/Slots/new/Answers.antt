use Rattle.std.proofs.Common.{◌≡◌, ℕ, List, [], length, sym, ap, ◌∙◌, arith}
use Rattle.std.proofs.lemmas.List.{length-map, length-replicate}
use Rattle.boxcar.specs.declared.tag.Tag.{Tag}
use Rattle.wh_swap.proofs.Once.{once_below}
use Rattle.wh_swap.proofs.slots.Slots.new.Goals as goal

pub invariant_of-result : goal.invariant_of-result
invariant_of-result c =
    let uses = c.in_ok-vec.field-0 in
    let many : length uses.items ≡ c.args.slots = omega (arith, c.in_ok-vec.ensures.len, uses.ok.0) in
    record {
      room = omega (arith, many, c.in_ok-numbers.ensures.room);
      few = omega (arith, many);
      vacant = rw (many, c.in_ok-numbers.ensures.items) (once_below c.args.slots);
      held = omega (arith, many, sym (length-map c.in_ok-nothing.field-0.items (λ (t : Tag). t.numbers)) ∙ (ap length c.in_ok-nothing.ensures ∙ length-replicate {A = List ℕ} c.args.slots []));
    }
