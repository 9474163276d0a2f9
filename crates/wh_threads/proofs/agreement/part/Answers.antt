use Rattle.wh_threads.proofs.Agreeing.{parts}
use Rattle.wh_threads.proofs.agreement.part.Goals as goal

pub another-requires-clause-rule : goal.another-requires-clause-rule
another-requires-clause-rule g c = parts _ _ _ c.requires.parts
