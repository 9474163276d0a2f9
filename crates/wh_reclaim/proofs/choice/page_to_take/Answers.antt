use Rattle.std.proofs.Common.{inl}
use Rattle.wh_reclaim.proofs.Paying.{all_pay, nobody_pays, payer_gives}
use Rattle.wh_reclaim.proofs.choice.page_to_take.Goals as goal

pub page_unpaid-requires-clause-nobody : goal.page_unpaid-requires-clause-nobody
page_unpaid-requires-clause-nobody c = nobody_pays c.args.memory.now c.in_default.ensures

pub unreachable-requires : goal.unreachable-requires
unreachable-requires c = payer_gives c.args.memory.now c.in-Some.payer.place c.in-Some.ensures.may_pay c.in_default-taken_page.ensures

pub returns : goal.returns
returns c = inl (all_pay c.args.memory.now c.in-Some.payer c.in-Some.ensures, c.in-Some-taken_page.ensures)
