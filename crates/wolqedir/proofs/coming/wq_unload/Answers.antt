use Rattle.std.proofs.Common.{inr, Some, ap, sym, ◌∙◌}
use Rattle.wolqedir.specs.Codes.{unload_error_code}
use Rattle.wolqedir.proofs.Helding.{left_at, nothing, same_held}
use Rattle.wolqedir.proofs.coming.wq_unload.Goals as goal

-- the host that was taken out and lent is the one that was held
pub returns : goal.returns
returns c = (
  λ other. (same_held (c.in-Some.ensures.some ∙ ap Some (sym c.deref_mut.ensures.value)) c.put.ensures.held (left_at unload_error_code c.unload-answer.result c.unload_code.ensures c.unload-answer.ensures.err other), left_at unload_error_code c.unload-answer.result c.unload_code.ensures (nothing c.unload-answer.result) other),
  inr (
    c.deref_mut.result.now,
    _,
    c.in-Some.ensures.some ∙ ap Some (sym c.deref_mut.ensures.value),
    c.put.ensures.held,
    c.put.ensures.sound,
    record {
      answer = c.unload-answer.result;
      answered = c.unload_code.ensures;
      unloads = c.unload-answer.ensures.unloads;
      err = c.unload-answer.ensures.err;
      backing = c.unload-answer.ensures.backing;
      memory = c.unload-answer.ensures.memory;
      output = c.unload-answer.ensures.output;
      counts = c.unload-answer.ensures.counts;
    },
  ),
)
