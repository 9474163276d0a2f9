use Rattle.std.proofs.Common.{inr, Some, ap, sym, ◌∙◌, subst}
use Rattle.wolqedir.specs.LiveContracts.{TellsEnded}
use Rattle.wolqedir.proofs.Helding.{same_held}
use Rattle.wolqedir.proofs.looking.wq_ended.Goals as goal

pub returns : goal.returns
returns c = (
  λ other. (same_held (c.in-Some.ensures.some ∙ ap Some (sym c.deref.ensures)) c.put.ensures.held (sym c.deref.ensures), c.tell_ended-code.ensures.left other),
  inr (
    c.deref.result.now,
    _,
    c.in-Some.ensures.some ∙ ap Some (sym c.deref.ensures),
    c.put.ensures.held,
    c.put.ensures.sound,
    (sym c.deref.ensures, subst (λ id. TellsEnded id c.args.from c.args.room.now c.tell_ended-code.new.room c.args.count.now c.tell_ended-code.new.count c.tell_ended-code.result c.deref.result.now.host) c.named.ensures c.tell_ended-code.ensures.told),
  ),
)
