use Rattle.std.proofs.Common.{inr, Some, ap, sym, ◌∙◌, subst}
use Rattle.wh_host.specs.CallRequests.{AnswersInvoke}
use Rattle.wolqedir.specs.ExportContracts.{ExportInvokes}
use Rattle.wolqedir.specs.Codes.{host_error_code}
use Rattle.wolqedir.proofs.Helding.{left_at, same_held, untold}
use Rattle.wolqedir.proofs.asking.wq_invoke.Goals as goal

-- the host that was taken out and lent is the one that was held, and the name and the arguments are those that were given
pub returns : goal.returns
returns c = inr (
  c.in-Ok.ensures.cases.1,
  inr (
    λ other. (same_held (c.in-Some.ensures.some ∙ ap Some (sym c.deref_mut.ensures.value)) c.put.ensures.held (left_at host_error_code c.ask-answer.result c.tell_place.ensures.code c.ask-answer.ensures.err other), left_at host_error_code c.ask-answer.result c.tell_place.ensures.code (untold _ _ _ c.ask-answer.result c.tell_place.ensures.told) other),
    inr (
      c.deref_mut.result.now,
      _,
      c.in-Some.ensures.some ∙ ap Some (sym c.deref_mut.ensures.value),
      c.put.ensures.held,
      c.put.ensures.sound,
      subst (λ id. ExportInvokes id c.args.name.now c.args.args.now c.args.fuel c.args.call.now c.tell_place.new.call c.tell_place.result c.deref_mut.result.now c.ask-answer.new.self) c.named.ensures (record {
        answer = c.ask-answer.result;
        answered = c.tell_place.ensures.code;
        asks = subst (λ name. AnswersInvoke c.deref_mut.result.now.host c.named.result name c.args.args.now c.args.fuel c.ask-answer.result c.ask-answer.new.self.host) c.in-Ok.ensures.cases.0
            (subst (λ args. AnswersInvoke c.deref_mut.result.now.host c.named.result c.in-Ok.name.now args c.args.fuel c.ask-answer.result c.ask-answer.new.self.host) (c.deref.ensures.value ∙ c.in-Ok-widened.ensures) c.ask-answer.ensures.asks);
        err = c.ask-answer.ensures.err;
        backing = c.ask-answer.ensures.backing;
        output = c.ask-answer.ensures.output;
        counts = c.ask-answer.ensures.counts;
        told = c.tell_place.ensures.told;
      }),
    ),
  ),
)
