use Rattle.std.proofs.Common.{◌∙◌, inr}
use Rattle.wh_scheduler.proofs.run_queue.RunQueue.next_waiter.Goals.{then-not-still_waits, else-not-still_waits}
use Rattle.wh_scheduler.proofs.run_queue.RunQueue.next_waiter.Goals as goal

pub returns-in_err-id-clause-ready : goal.returns-in_err-id-clause-ready
returns-in_err-id-clause-ready c =
    elim c.if-not-still_waits.branch [
      | then-not-still_waits w ↦ inr ((λ i. (w.self-is i).ready) ∙ w.begin_with_next.ensures.same.1, c.waits_for_turn.ensures.none c.if-waits_for_turn.false)
      | else-not-still_waits w ↦ inr ((λ i. (w.self-is i).ready), c.waits_for_turn.ensures.none c.if-waits_for_turn.false)
    ]

pub returns-clause-ready : goal.returns-clause-ready
returns-clause-ready c =
    elim c.if-not-still_waits.branch [
      | then-not-still_waits w ↦ inr ((λ i. (w.self-is i).ready) ∙ w.begin_with_next.ensures.same.1, c.waits_for_turn.ensures.none c.if-waits_for_turn.false)
      | else-not-still_waits w ↦ inr ((λ i. (w.self-is i).ready), c.waits_for_turn.ensures.none c.if-waits_for_turn.false)
    ]
