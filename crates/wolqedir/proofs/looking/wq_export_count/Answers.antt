use Rattle.std.proofs.Common.{inr, Some, ap, sym, ◌∙◌}
use Rattle.wolqedir.proofs.Helding.{same_held}
use Rattle.wolqedir.proofs.looking.wq_export_count.Goals as goal

pub returns : goal.returns
returns c = (
  λ other. (same_held (c.in-Some.ensures.some ∙ ap Some (sym c.deref.ensures)) c.put.ensures.held (sym c.deref.ensures), c.tell_export_count-code.ensures.left other),
  inr (
    c.deref.result.now,
    _,
    c.in-Some.ensures.some ∙ ap Some (sym c.deref.ensures),
    c.put.ensures.held,
    c.put.ensures.sound,
    (sym c.deref.ensures, c.tell_export_count-code.ensures.told),
  ),
)
