use Rattle.std.proofs.Common.{◌≡◌, inr, Some, ap, sym, refl, ◌∙◌}
use Rattle.wh_hand.specs.HandStates.{HandState}
use Rattle.wolqedir.specs.Shapes.{raw_counts_of}
use Rattle.wolqedir.proofs.telling.wq_counts_of.Goals as goal

pub returns : goal.returns
returns c = (
  λ other. absurd (other refl),
  inr (
    c.deref.result.now,
    _,
    c.in-Some.ensures.some ∙ ap Some (sym c.deref.ensures),
    c.put.ensures.held,
    c.put.ensures.sound,
    record {
      answered = refl;
      same = sym c.deref.ensures;
      told = c.raw_counts.ensures ∙ ap raw_counts_of c.counts.ensures;
    },
  ),
)
