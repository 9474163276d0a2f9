use Rattle.wh_threads.proofs.Agreeing.{begins}
use Rattle.wh_threads.proofs.agreement.BlankAgreement.new.Goals as goal

pub ruled-requires-clause-rule : goal.ruled-requires-clause-rule
ruled-requires-clause-rule g c = begins
