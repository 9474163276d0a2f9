use Rattle.std.proofs.Common.{inr, Some, ap, sym, ◌∙◌, subst, length}
use Rattle.wolqedir.specs.ExportContracts.{ExportReleases, TellsCaller}
use Rattle.wolqedir.specs.Codes.{host_error_code}
use Rattle.wolqedir.proofs.Helding.{left_at, same_held, untold}
use Rattle.wolqedir.proofs.asking.wq_release.Goals as goal

-- the host that was taken out and lent is the one that was held
pub returns : goal.returns
returns c = (
  λ other. (same_held (c.in-Some.ensures.some ∙ ap Some (sym c.deref_mut.ensures.value)) c.put.ensures.held (left_at host_error_code c.release-answer.result c.tell_length.ensures.code c.release-answer.ensures.err other), left_at host_error_code c.release-answer.result c.tell_length.ensures.code (untold _ _ _ c.release-answer.result c.tell_length.ensures.told) other),
  inr (
    c.deref_mut.result.now,
    _,
    c.in-Some.ensures.some ∙ ap Some (sym c.deref_mut.ensures.value),
    c.put.ensures.held,
    c.put.ensures.sound,
    subst (λ id. ExportReleases id c.args.len.now c.tell_length.new.len c.tell_length.result c.deref_mut.result.now c.release-answer.new.self) c.named.ensures (record {
      answer = c.release-answer.result;
      answered = c.tell_length.ensures.code;
      goes = c.release-answer.ensures.goes;
      err = c.release-answer.ensures.err;
      backing = c.release-answer.ensures.backing;
      memory = c.release-answer.ensures.memory;
      counts = c.release-answer.ensures.counts;
      told = subst (λ output. TellsCaller (λ _. length output) c.release-answer.result c.args.len.now c.tell_length.new.len) (c.output-count.ensures ∙ ap (λ a. a.output) c.deref.ensures) c.tell_length.ensures.told;
    }),
  ),
)
