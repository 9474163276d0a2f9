use Rattle.std.proofs.Common.{inr, Some, ap, sym, ◌∙◌}
use Rattle.wolqedir.specs.Codes.{module_error_code}
use Rattle.wolqedir.proofs.Helding.{left_at, same_held, untold}
use Rattle.wolqedir.proofs.coming.wq_load.Goals as goal

-- the host that was taken out and lent is the one that was held
pub returns : goal.returns
returns c = (
  λ other. (same_held (c.in-Some.ensures.some ∙ ap Some (sym c.deref_mut.ensures.value)) c.put.ensures.held (left_at module_error_code c.load-answer.result c.tell_module.ensures.code c.load-answer.ensures.err other), left_at module_error_code c.load-answer.result c.tell_module.ensures.code (untold _ _ _ c.load-answer.result c.tell_module.ensures.told) other),
  inr (
    c.deref_mut.result.now,
    _,
    c.in-Some.ensures.some ∙ ap Some (sym c.deref_mut.ensures.value),
    c.put.ensures.held,
    c.put.ensures.sound,
    record {
      answer = c.load-answer.result;
      answered = c.tell_module.ensures.code;
      loads = c.load-answer.ensures.loads;
      err = c.load-answer.ensures.err;
      backing = c.load-answer.ensures.backing;
      output = c.load-answer.ensures.output;
      counts = c.load-answer.ensures.counts;
      told = c.tell_module.ensures.told;
    },
  ),
)
