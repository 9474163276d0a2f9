use Rattle.std.proofs.Common.{inr, Some, ap, sym, refl, ◌∙◌, length}
use Rattle.wolqedir.specs.Rooms.{laid_in}
use Rattle.wolqedir.proofs.telling.wq_taken.Goals as goal

pub returns : goal.returns
returns c = (
  λ other. absurd (other refl),
  inr (
    c.deref.result.now,
    _,
    c.in-Some.ensures.some ∙ ap Some (sym c.deref.ensures),
    c.put.ensures.held,
    c.put.ensures.sound,
    record {
      answered = refl;
      same = sym c.deref.ensures;
      laid = c.lay.ensures.room ∙ ap (λ items. laid_in items c.args.room.now) c.output.ensures;
      counted = c.lay.ensures.len ∙ ap length c.output.ensures;
    },
  ),
)
