use Rattle.std.proofs.Common.{Option, Some, sym, subst}
use Rattle.wh_tables.specs.declared.page_id.PageId.{PageId}
use Rattle.wh_tables.specs.Order.{Chains, HasLinks}
use Rattle.wh_tables.proofs.Rows.{prior_of_rows}
use Rattle.wh_tables.proofs.order.PageOrder.set_prior.Goals as goal

pub returns-in-Some : goal.returns-in-Some
returns-in-Some c =
    let asked = subst (λ (o : Option PageId). HasLinks c.args.self.now c.args.frame o) c.in-Some.is c.requires in
    let within = subst (λ (z : Chains). HasLinks z c.args.frame (Some c.in-Some.id)) (sym c.self.view_is) asked in
    rw (← c.self.view_is) (rw c.in-Some.is (prior_of_rows c.self.inside.numbers.items c.self.inside.links.items c.self.inside.ends.items c.args.frame c.in-Some.id c.index_mut-row.result.now c.index_mut-in-Some.result.now c.args.to c.index_mut-row.ensures.value c.index_mut-in-Some.ensures.value within))
