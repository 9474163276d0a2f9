use Rattle.std.proofs.Common.{inr, Some, None, ap, sym, refl, ◌∙◌}
use Rattle.wolqedir.proofs.Helding.{same_held}
use Rattle.wolqedir.proofs.running.wq_scan.Goals as goal

-- the host that was taken out and lent is the one that was held
pub returns-in-Some-offered : goal.returns-in-Some-offered
returns-in-Some-offered c = (
  λ other. absurd (other refl),
  inr (
    c.deref_mut.result.now,
    _,
    c.in-Some.ensures.some ∙ ap Some (sym c.deref_mut.ensures.value),
    c.put.ensures.held,
    c.put.ensures.sound,
    record {
      offered = Some c.in-Some-offered.field-0;
      answered = refl;
      moves = c.in-Some-offered.ensures.moves;
      backing = c.in-Some-offered.ensures.backing;
      done = c.in-Some-offered.ensures.done;
      none = c.in-Some-offered.ensures.none;
      offers = c.in-Some-offered.ensures.offers;
      scans = c.in-Some-offered.ensures.scans;
      full = c.in-Some-offered.ensures.full;
      counts = c.in-Some-offered.ensures.counts;
      counted = c.in-Some-offered.ensures.counted;
      output = c.scan-offered.ensures.output;
    },
  ),
)

pub returns-in-None : goal.returns-in-None
returns-in-None c = (
  λ _. (same_held (c.in-Some.ensures.some ∙ ap Some (sym c.deref_mut.ensures.value)) c.put.ensures.held c.in-None.ensures.none, tt),
  inr (
    c.deref_mut.result.now,
    _,
    c.in-Some.ensures.some ∙ ap Some (sym c.deref_mut.ensures.value),
    c.put.ensures.held,
    c.put.ensures.sound,
    record {
      offered = None;
      answered = refl;
      moves = c.in-None.ensures.moves;
      backing = c.in-None.ensures.backing;
      done = c.in-None.ensures.done;
      none = c.in-None.ensures.none;
      offers = c.in-None.ensures.offers;
      scans = c.in-None.ensures.scans;
      full = c.in-None.ensures.full;
      counts = c.in-None.ensures.counts;
      counted = c.in-None.ensures.counted;
      output = c.scan-offered.ensures.output;
    },
  ),
)
