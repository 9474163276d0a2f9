use Rattle.std.proofs.Common.{inr, Some, ap, sym, ◌∙◌, subst}
use Rattle.wolqedir.specs.Codes.{bytes_error_code}
use Rattle.wolqedir.specs.LiveContracts.{ExportReads}
use Rattle.wolqedir.proofs.Helding.{left_at, same_held}
use Rattle.wolqedir.proofs.looking.wq_read.Goals as goal

-- the host that was taken out and lent is the one that was held
pub returns : goal.returns
returns c = (
  λ other. (same_held (c.in-Some.ensures.some ∙ ap Some (sym c.deref_mut.ensures.value)) c.put.ensures.held c.read-answer.ensures.same, left_at bytes_error_code c.read-answer.result c.bytes_code.ensures c.read-answer.ensures.left other),
  inr (
    c.deref_mut.result.now,
    _,
    c.in-Some.ensures.some ∙ ap Some (sym c.deref_mut.ensures.value),
    c.put.ensures.held,
    c.put.ensures.sound,
    subst (λ id. ExportReads id c.args.address c.args.room.now c.read-answer.new.into c.bytes_code.result c.deref_mut.result.now c.read-answer.new.self) c.named.ensures (record {
      same = c.read-answer.ensures.same;
      answer = c.read-answer.result;
      answered = c.bytes_code.ensures;
      reads = c.read-answer.ensures.reads;
      full = c.read-answer.auto.into;
      err = c.read-answer.ensures.err;
      left = c.read-answer.ensures.left;
    }),
  ),
)
