use Rattle.std.proofs.Common.{List, Some}
use Rattle.wh_space_model.specs.declared.states.Page.{Page}
use Rattle.wh_tables.specs.declared.page_id.PageId.{PageId}
use Rattle.wh_tables.specs.PageLinks.{IsEarlierStop, IsStop}
use Rattle.wh_tables.specs.Order.{ComesBefore, IsInOrder, StandsOn}
use Rattle.wh_tables.proofs.Keys.{key_of}
use Rattle.wh_tables.proofs.order.PageOrder.behind.Given as goal

-- no page after the stop comes before the one that is put
abbrev pub invariant-loop-at : goal.invariant-loop-at
invariant-loop-at l = record {
  on : (pages : List (List Page)) → IsInOrder l.fn.self pages → IsStop (StandsOn pages l.fn.frame) l.at;
  none : (pages : List (List Page)) → IsInOrder l.fn.self pages → (z : PageId) → StandsOn pages l.fn.frame z
      → IsEarlierStop (ComesBefore l.fn.self.numbers) l.at (Some z) → ¬ ComesBefore l.fn.self.numbers z l.fn.id;
}

abbrev pub decreases-loop-at : goal.decreases-loop-at
decreases-loop-at l = key_of l.fn.self.numbers l.at
