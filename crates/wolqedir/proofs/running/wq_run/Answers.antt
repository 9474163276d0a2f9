use Rattle.std.proofs.Common.{inr, Some, ap, sym, refl, ◌∙◌}
use Rattle.wolqedir.proofs.running.wq_run.Goals as goal

-- the host that was taken out and lent is the one that was held
pub returns : goal.returns
returns c = (
  λ other. absurd (other refl),
  inr (
    c.deref_mut.result.now,
    _,
    c.in-Some.ensures.some ∙ ap Some (sym c.deref_mut.ensures.value),
    c.put.ensures.held,
    c.put.ensures.sound,
    record {
      answered = refl;
      ran = _;
      runs = c.run.ensures.runs;
      whole = c.run.ensures.whole;
      output = c.run.ensures.output;
      counts = c.run.ensures.counts;
      told = c.progress_of.ensures;
    },
  ),
)
