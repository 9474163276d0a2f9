use Rattle.std.proofs.Common.{◌∙◌, sym}
use Rattle.wh_scheduler.proofs.InHand.{not_each}
use Rattle.wh_scheduler.proofs.OwnTurns.{none_there, some_there}
use Rattle.wh_scheduler.proofs.draining.offer_next.Goals as goal

pub returns-clause-works : goal.returns-clause-works
returns-clause-works g c = λ is. some_there _ c.offer_here.result (sym c.is_some.ensures ∙ is) c.offer_here.ensures.works

pub returns-clause-none : goal.returns-clause-none
returns-clause-none g c = λ is.
    (let n = none_there _ c.offer_here.result (sym c.is_some.ensures ∙ is) c.offer_here.ensures.none in
    (not_each _ c.args.host.now.host c.args.ids.now c.next_of-id.ensures.0 c.next_of-id.result c.next_of-id.ensures.1 n.0, n.1, n.2, n.3))
