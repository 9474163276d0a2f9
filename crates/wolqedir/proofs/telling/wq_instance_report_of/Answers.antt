use Rattle.std.proofs.Common.{inr, Some, Ok, Err, ap, sym, refl, ◌∙◌, subst}
use Rattle.wolqedir.specs.ExportContracts.{ExportTellsInstance}
use Rattle.wolqedir.proofs.Helding.{same_held}
use Rattle.wolqedir.proofs.telling.wq_instance_report_of.Goals as goal

pub returns-in-Ok : goal.returns-in-Ok
returns-in-Ok c = (
  λ other. absurd (other refl),
  inr (
    c.deref.result.now,
    _,
    c.in-Some.ensures.some ∙ ap Some (sym c.deref.ensures),
    c.put.ensures.held,
    c.put.ensures.sound,
    subst (λ id. ExportTellsInstance id c.args.row.now c.raw_row.result 0 c.deref.result.now c.in-Some.hand.value) c.named.ensures (record {
      answer = Ok c.in-Ok.told;
      answered = refl;
      same = sym c.deref.ensures;
      ok = c.in-Ok.ensures.ok;
      err = tt;
      told = c.raw_row.ensures;
    }),
  ),
)

pub returns-in-Err : goal.returns-in-Err
returns-in-Err c = (
  λ _. (same_held (c.in-Some.ensures.some ∙ ap Some (sym c.deref.ensures)) c.put.ensures.held (sym c.deref.ensures), refl),
  inr (
    c.deref.result.now,
    _,
    c.in-Some.ensures.some ∙ ap Some (sym c.deref.ensures),
    c.put.ensures.held,
    c.put.ensures.sound,
    subst (λ id. ExportTellsInstance id c.args.row.now c.args.row.now c.of_host.result c.deref.result.now c.in-Some.hand.value) c.named.ensures (record {
      answer = Err c.in-Err.error;
      answered = c.of_host.ensures;
      same = sym c.deref.ensures;
      ok = tt;
      err = c.in-Err.ensures.err;
      told = refl;
    }),
  ),
)
