use Rattle.wh_workers.proofs.Turns.{handed_with_last}
use Rattle.wh_workers.proofs.crew.dispatch_all.Goals as goal

pub returns-clause-out : goal.returns-clause-out
returns-clause-out g c = handed_with_last _ _ _ _ _ c.feed-fed.ensures.out c.stop.ensures.last
