use Rattle.wh_reclaim.proofs.Paying.{before_this}
use Rattle.wh_reclaim.proofs.choice.pays_before_any.Goals as goal

pub returns-in-Some : goal.returns-in-Some
returns-in-Some c = before_this c.args.tax c.args.first c.args.payer c.in-Some.best c.pays_before.result c.in-Some.is c.pays_before.ensures
