use Rattle.std.proofs.Common.{inr, Some, ap, sym, ◌∙◌, subst}
use Rattle.wolqedir.specs.LiveContracts.{TellsOutput}
use Rattle.wolqedir.proofs.Helding.{same_held}
use Rattle.wolqedir.proofs.looking.wq_output_of.Goals as goal

pub returns : goal.returns
returns c = (
  λ other. (same_held (c.in-Some.ensures.some ∙ ap Some (sym c.deref.ensures)) c.put.ensures.held (sym c.deref.ensures), c.tell_output-code.ensures.left other),
  inr (
    c.deref.result.now,
    _,
    c.in-Some.ensures.some ∙ ap Some (sym c.deref.ensures),
    c.put.ensures.held,
    c.put.ensures.sound,
    (sym c.deref.ensures, subst (λ id. TellsOutput id c.args.from c.args.room.now c.tell_output-code.new.room c.args.len.now c.tell_output-code.new.len c.tell_output-code.result c.deref.result.now.host) c.named.ensures c.tell_output-code.ensures.told),
  ),
)
