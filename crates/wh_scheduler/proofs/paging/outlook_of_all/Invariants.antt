use Rattle.std.proofs.Common.{◌≡◌}
use Rattle.wh_scheduler.specs.declared.here.Outlook.TheVariants.{Rests as OutlookRests}
use Rattle.wh_scheduler.specs.InHand.{Rests}
use Rattle.wh_scheduler.proofs.OwnTurns.{EachBelow}
use Rattle.wh_scheduler.proofs.paging.outlook_of_all.Given as goal

abbrev pub invariant-loop-at : goal.invariant-loop-at
invariant-loop-at l = l.all ≡ OutlookRests → EachBelow Rests l.host l.ids l.at
