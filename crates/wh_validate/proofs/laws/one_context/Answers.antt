use Rattle.wh_validate.proofs.CompleteLemmas.{one_context}
use Rattle.wh_validate.proofs.laws.one_context.Goals as goal

pub returns : goal.returns
returns c = one_context
