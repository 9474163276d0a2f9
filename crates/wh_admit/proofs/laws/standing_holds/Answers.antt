use Rattle.wh_admit.proofs.StandingLemmas.{stands_for_some}
use Rattle.wh_admit.proofs.laws.standing_holds.Goals as goal

pub returns : goal.returns
returns c = stands_for_some
