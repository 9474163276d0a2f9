use Rattle.std.proofs.Common.{◌≡◌, ◌∙◌, ◌+◌, ◌-◌, ◌*◌, ◌/◌, ◌%◌, ◌++◌, ap, arith, length, sym, take}
use Rattle.std.proofs.lemmas.Grind.{common_steps}
use Rattle.std.proofs.lemmas.Slice.{take-put_mid}
use Rattle.std.proofs.Math.ListN.{drop}
use Rattle.wh_model.specs.Execution.{bytes_at}
use Rattle.wh_space_model.specs.{view}
use Rattle.wh_space_model.proofs.Reading.{read_parts}
use Rattle.wh_reclaim.proofs.reading.read_bytes.Goals as goal

pub overflow_add-from : goal.overflow_add-from
overflow_add-from g c = omega (arith, c.requires.within, c.requires.few, c.loop-done.invariant.few, c.loop-done.invariant.long)

pub overflow_cast-number : goal.overflow_cast-number
overflow_cast-number g c = omega (arith, c.requires.within, c.requires.few, c.loop-done.invariant.few, c.loop-done.invariant.long, c.loop-done-test.true)

pub loop-done-preserved : goal.loop-done-preserved
loop-done-preserved g c =
    let i = c.loop-done.invariant in
    let size = c.min.result in
    let kept = c.read_there.auto.into in
    let part : length c.read_there.new.into ≡ size = kept ∙ grind (arith, common_steps, i.few, c.min.ensures) in
    let from : 4096 * ((c.args.at + c.loop-done.done) / 4096) + (c.args.at + c.loop-done.done) % 4096 ≡ c.args.at + c.loop-done.done = omega arith in
    record {
      few = grind (arith, common_steps, i.few, part, c.min.ensures);
      long = grind (arith, common_steps, i.few, part, c.min.ensures) ∙ i.long;
      held = c.read_there.ensures.held ∙ i.held;
      writes = c.read_there.ensures.writes ∙ i.writes;
      serves = record {
        was_honest = λ h. i.serves.was_honest (c.in-Ok.ensures.serves.was_honest h);
        goes_on = λ k. c.in-Ok.ensures.serves.goes_on (i.serves.goes_on k);
        stays_honest = λ k h. c.in-Ok.ensures.serves.stays_honest (i.serves.goes_on k) (i.serves.stays_honest k h);
        added = c.in-Ok.ensures.serves.added ∙ i.serves.added;
      };
      read = λ h.
          take-put_mid c.loop-done.done (c.loop-done.done + size - c.loop-done.done) c.loop-done.into c.read_there.new.into (c.loop-done.done + size) (omega (arith, part)) i.few
          ∙ ap (λ first. first ++ c.read_there.new.into) (i.read (c.in-Ok.ensures.serves.was_honest h))
          ∙ ap (λ second. bytes_at (view c.args.memory.now c.args.place) c.args.at c.loop-done.done ++ second)
          (c.in-Ok.ensures.read h
          ∙ ap (λ k. bytes_at (view c.args.memory.now c.args.place) k (length (take (c.loop-done.done + size - c.loop-done.done) (drop c.loop-done.done c.loop-done.into)))) from
          ∙ ap (bytes_at (view c.args.memory.now c.args.place) (c.args.at + c.loop-done.done)) (sym kept ∙ part))
          ∙ sym (read_parts (view c.args.memory.now c.args.place) c.args.at c.loop-done.done size);
    }
