use Rattle.std.proofs.Common.{inr, Some, ap, sym, ◌∙◌, subst}
use Rattle.wolqedir.specs.ExportContracts.{ExportForks}
use Rattle.wolqedir.specs.Codes.{fork_error_code}
use Rattle.wolqedir.specs.Shapes.{quota_by}
use Rattle.wolqedir.proofs.Helding.{left_at, same_held, untold}
use Rattle.wolqedir.proofs.coming.wq_fork.Goals as goal

-- the host that was taken out and lent is the one that was held
pub returns : goal.returns
returns c = (
  λ other. (same_held (c.in-Some.ensures.some ∙ ap Some (sym c.deref_mut.ensures.value)) c.put.ensures.held (left_at fork_error_code c.fork-answer.result c.tell_copy.ensures.code c.fork-answer.ensures.err other), left_at fork_error_code c.fork-answer.result c.tell_copy.ensures.code (untold _ _ _ c.fork-answer.result c.tell_copy.ensures.told) other),
  inr (
    c.deref_mut.result.now,
    _,
    c.in-Some.ensures.some ∙ ap Some (sym c.deref_mut.ensures.value),
    c.put.ensures.held,
    c.put.ensures.sound,
    subst (λ id. ExportForks id (quota_by c.args.quota.now) c.args.instance.now c.tell_copy.new.instance c.tell_copy.result c.deref_mut.result.now c.fork-answer.new.self) c.named.ensures
        (subst (λ q. ExportForks c.named.result q c.args.instance.now c.tell_copy.new.instance c.tell_copy.result c.deref_mut.result.now c.fork-answer.new.self) c.quota_of.ensures (record {
          answer = c.fork-answer.result;
          answered = c.tell_copy.ensures.code;
          forks = c.fork-answer.ensures.forks;
          err = c.fork-answer.ensures.err;
          backing = c.fork-answer.ensures.backing;
          memory = c.fork-answer.ensures.memory;
          output = c.fork-answer.ensures.output;
          counts = c.fork-answer.ensures.counts;
          told = c.tell_copy.ensures.told;
        })),
  ),
)
