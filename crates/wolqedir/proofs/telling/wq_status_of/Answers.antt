use Rattle.std.proofs.Common.{inr, Some, None, ap, sym, refl, ◌∙◌, subst}
use Rattle.wolqedir.specs.ExportContracts.{ExportTellsStatus}
use Rattle.wolqedir.proofs.Helding.{same_held}
use Rattle.wolqedir.proofs.telling.wq_status_of.Goals as goal

pub returns-in-Some-told : goal.returns-in-Some-told
returns-in-Some-told c = (
  λ other. absurd (other refl),
  inr (
    c.deref.result.now,
    _,
    c.in-Some.ensures.some ∙ ap Some (sym c.deref.ensures),
    c.put.ensures.held,
    c.put.ensures.sound,
    subst (λ id. ExportTellsStatus id c.args.call c.args.status.now 0 c.shown.result c.deref.result.now c.in-Some.hand.value) c.named.ensures (record {
      same = sym c.deref.ensures;
      told = Some (c.in-Some-told.far, c.in-Some-told.charges);
      tells = c.in-Some-told.ensures.tells;
      charges = c.in-Some-told.ensures.charges;
      shows = (refl, c.shown.ensures);
    }),
  ),
)

pub returns-in-None : goal.returns-in-None
returns-in-None c = (
  λ _. (same_held (c.in-Some.ensures.some ∙ ap Some (sym c.deref.ensures)) c.put.ensures.held (sym c.deref.ensures), refl),
  inr (
    c.deref.result.now,
    _,
    c.in-Some.ensures.some ∙ ap Some (sym c.deref.ensures),
    c.put.ensures.held,
    c.put.ensures.sound,
    subst (λ id. ExportTellsStatus id c.args.call c.args.status.now 6 c.args.status.now c.deref.result.now c.in-Some.hand.value) c.named.ensures (record {
      same = sym c.deref.ensures;
      told = None;
      tells = c.in-None.ensures.tells;
      charges = c.in-None.ensures.charges;
      shows = (refl, refl);
    }),
  ),
)
