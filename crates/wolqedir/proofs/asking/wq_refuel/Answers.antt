use Rattle.std.proofs.Common.{inr, Some, ap, sym, ◌∙◌, subst}
use Rattle.wh_host_model.specs.Host.{IsRefuel}
use Rattle.wolqedir.specs.ExportContracts.{ExportAsks}
use Rattle.wolqedir.specs.Codes.{host_error_code}
use Rattle.wolqedir.proofs.Helding.{left_at, nothing, same_held}
use Rattle.wolqedir.proofs.asking.wq_refuel.Goals as goal

-- the host that was taken out and lent is the one that was held
pub returns : goal.returns
returns c = (
  λ other. (same_held (c.in-Some.ensures.some ∙ ap Some (sym c.deref_mut.ensures.value)) c.put.ensures.held (left_at host_error_code c.ask-answer.result c.code_of.ensures c.ask-answer.ensures.err other), left_at host_error_code c.ask-answer.result c.code_of.ensures (nothing c.ask-answer.result) other),
  inr (
    c.deref_mut.result.now,
    _,
    c.in-Some.ensures.some ∙ ap Some (sym c.deref_mut.ensures.value),
    c.put.ensures.held,
    c.put.ensures.sound,
    subst (λ id. ExportAsks (λ w answer w2. IsRefuel w id c.args.fuel answer w2) (λ h h2. h.counts) c.code_of.result c.deref_mut.result.now c.ask-answer.new.self) c.named-id.ensures (record {
      answer = c.ask-answer.result;
      answered = c.code_of.ensures;
      asks = c.ask-answer.ensures.asks.0;
      err = c.ask-answer.ensures.err;
      backing = c.ask-answer.ensures.backing;
      output = c.ask-answer.ensures.output;
      counts = c.ask-answer.ensures.counts;
    }),
  ),
)
