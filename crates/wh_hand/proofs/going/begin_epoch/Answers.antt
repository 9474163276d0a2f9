use Rattle.wh_host_model.specs.Host.{epoch}
use Rattle.wh_hand.proofs.Counted.{counts_itself, counts_same}
use Rattle.wh_hand.proofs.Steps.{moved_by, moved_itself}
use Rattle.wh_hand.proofs.going.begin_epoch.Goals as goal

pub returns-then-not-begins_epoch-clause-moves : goal.returns-then-not-begins_epoch-clause-moves
returns-then-not-begins_epoch-clause-moves c = moved_itself c.args.host.now

pub returns-then-not-begins_epoch-clause-counts : goal.returns-then-not-begins_epoch-clause-counts
returns-then-not-begins_epoch-clause-counts c = counts_itself c.args.host.now.counts

pub returns-clause-moves : goal.returns-clause-moves
returns-clause-moves c =
    moved_by c.args.host.now c.epoch.new.self epoch tt (λ w w2 only. only) (λ w w2. tt) c.invariant.ensures c.epoch.ensures.moves c.epoch.ensures.backing

pub returns-clause-counts : goal.returns-clause-counts
returns-clause-counts c = counts_same c.args.host.now.counts c.epoch.new.self.counts c.epoch.ensures.counts
