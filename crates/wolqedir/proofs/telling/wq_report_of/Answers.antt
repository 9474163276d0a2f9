use Rattle.std.proofs.Common.{inr, Some, ap, sym, refl, ◌∙◌}
use Rattle.wh_host.specs.Reporting.{view_usage}
use Rattle.wolqedir.proofs.telling.wq_report_of.Goals as goal

pub returns : goal.returns
returns c = (
  λ other. absurd (other refl),
  inr (
    c.deref.result.now,
    _,
    c.in-Some.ensures.some ∙ ap Some (sym c.deref.ensures),
    c.put.ensures.held,
    c.put.ensures.sound,
    record {
      answered = refl;
      same = sym c.deref.ensures;
      usage = view_usage c.usage.result;
      reports = c.usage.ensures;
      told = c.raw_report.ensures;
    },
  ),
)
