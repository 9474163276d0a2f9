use Rattle.std.proofs.Common.{rules}
use Rattle.wh_space.proofs.LeavingPages.{next_page}
use Rattle.wh_space.proofs.leaving.let_pages_go.Goals as goal

pub let_page_go-requires : goal.let_page_go-requires
let_page_go-requires c = search (rules, next_page)

pub leave_slot-requires : goal.leave_slot-requires
leave_slot-requires c = search (rules, next_page)

pub loop-number-preserved : goal.loop-number-preserved
loop-number-preserved c = search (rules, next_page)
