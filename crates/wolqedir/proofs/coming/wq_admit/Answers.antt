use Rattle.std.proofs.Common.{inr, Some, ap, sym, ◌∙◌, subst}
use Rattle.wolqedir.specs.ExportContracts.{ExportAdmits}
use Rattle.wolqedir.specs.Codes.{admit_error_code}
use Rattle.wolqedir.proofs.Helding.{left_at, same_held, untold}
use Rattle.wolqedir.proofs.coming.wq_admit.Goals as goal

-- the host that was taken out and lent is the one that was held
pub returns : goal.returns
returns c = inr (
  λ other. (same_held (c.in-Some.ensures.some ∙ ap Some (sym c.deref_mut.ensures.value)) c.put.ensures.held (left_at admit_error_code c.admit-answer.result c.tell_instance.ensures.code c.admit-answer.ensures.err other), left_at admit_error_code c.admit-answer.result c.tell_instance.ensures.code (untold _ _ _ c.admit-answer.result c.tell_instance.ensures.told) other),
  inr (
    c.deref_mut.result.now,
    _,
    c.in-Some.ensures.some ∙ ap Some (sym c.deref_mut.ensures.value),
    c.put.ensures.held,
    c.put.ensures.sound,
    subst (λ p. ExportAdmits c.args.of p c.args.instance.now c.tell_instance.new.instance c.tell_instance.result c.deref_mut.result.now c.admit-answer.new.self) c.in-Ok.ensures (record {
      answer = c.admit-answer.result;
      answered = c.tell_instance.ensures.code;
      admits = c.admit-answer.ensures.admits;
      err = c.admit-answer.ensures.err;
      backing = c.admit-answer.ensures.backing;
      memory = c.admit-answer.ensures.memory;
      output = c.admit-answer.ensures.output;
      counts = c.admit-answer.ensures.counts;
      told = c.tell_instance.ensures.told;
    }),
  ),
)
