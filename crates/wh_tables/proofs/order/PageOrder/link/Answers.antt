use Rattle.std.proofs.Common.{Some, sym, subst}
use Rattle.wh_tables.specs.Order.{Chains, HasLinks}
use Rattle.wh_tables.proofs.Rows.{found_link}
use Rattle.wh_tables.proofs.order.PageOrder.link.Goals as goal

pub returns : goal.returns
returns c =
    let within = subst (λ (z : Chains). HasLinks z 0 (Some c.args.id)) (sym c.self.view_is) c.requires in
    rw (← c.self.view_is) (found_link c.self.inside.links.items c.args.id.place c.args.id.page c.index-row.result.now c.index.result.now c.index-row.ensures c.index.ensures within)
