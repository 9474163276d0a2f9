use Rattle.wh_host_model.specs.Host.{PageId, offer}
use Rattle.wh_hand.proofs.Counted.{counts_itself, counts_offered}
use Rattle.wh_hand.proofs.Steps.{moved_by, moved_itself}
use Rattle.wh_hand.proofs.going.offer_one.Goals as goal

pub returns-in_default-clause-moves : goal.returns-in_default-clause-moves
returns-in_default-clause-moves c = moved_itself c.args.host.now

pub returns-in_default-clause-counts : goal.returns-in_default-clause-counts
returns-in_default-clause-counts c = counts_itself c.args.host.now.counts

pub returns-in_default-sample-clause-moves : goal.returns-in_default-sample-clause-moves
returns-in_default-sample-clause-moves c = moved_itself c.args.host.now

pub returns-in_default-sample-clause-counts : goal.returns-in_default-sample-clause-counts
returns-in_default-sample-clause-counts c = counts_itself c.args.host.now.counts

pub returns-clause-moves : goal.returns-clause-moves
returns-clause-moves c =
    let page : PageId = record { id = c.args.id; page = c.in-Some.page } in
    moved_by c.args.host.now c.offer.new.self (offer page c.hash-hash.result) tt (λ w w2 only. only) (λ w w2. tt) c.invariant.ensures c.offer.ensures.moves c.offer.ensures.backing

pub returns-clause-counts : goal.returns-clause-counts
returns-clause-counts c = counts_offered c.args.host.now c.offer.new.self _ c.offer.result c.offer.ensures.counts c.offer.ensures.none
