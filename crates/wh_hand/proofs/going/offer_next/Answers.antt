use Rattle.wh_hand.proofs.Counted.{counts_itself}
use Rattle.wh_hand.proofs.Steps.{moved_itself}
use Rattle.wh_hand.proofs.going.offer_next.Goals as goal

pub returns-then-not-count-clause-moves : goal.returns-then-not-count-clause-moves
returns-then-not-count-clause-moves c = moved_itself c.args.host.now

pub returns-then-not-count-clause-counts : goal.returns-then-not-count-clause-counts
returns-then-not-count-clause-counts c = counts_itself c.args.host.now.counts

pub returns-in_default-clause-moves : goal.returns-in_default-clause-moves
returns-in_default-clause-moves c = moved_itself c.args.host.now

pub returns-in_default-clause-counts : goal.returns-in_default-clause-counts
returns-in_default-clause-counts c = counts_itself c.args.host.now.counts

pub returns-in_default-get-clause-moves : goal.returns-in_default-get-clause-moves
returns-in_default-get-clause-moves c = moved_itself c.args.host.now

pub returns-in_default-get-clause-counts : goal.returns-in_default-get-clause-counts
returns-in_default-get-clause-counts c = counts_itself c.args.host.now.counts
