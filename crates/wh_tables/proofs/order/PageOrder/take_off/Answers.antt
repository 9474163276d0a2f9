use Rattle.std.proofs.Common.{Some, rules}
use Rattle.wh_tables.proofs.Chaining.{has_links, links_after, next_stop, prior_stop, taken_off}
use Rattle.wh_tables.proofs.order.PageOrder.take_off.Goals as goal

pub set_next-requires : goal.set_next-requires
set_next-requires c =
    let pages = c.requires.0 in
    let chains = c.requires.1 in
    let on = c.requires.2 in
    rw c.prior-prior.ensures.page (has_links c.args.self.now pages c.args.frame _ chains (chains.room c.args.frame c.args.id on).frame (prior_stop c.args.self.now pages c.args.frame (Some c.args.id) chains on))

pub set_prior-requires : goal.set_prior-requires
set_prior-requires c =
    let pages = c.requires.0 in
    let chains = c.requires.1 in
    let on = c.requires.2 in
    rw c.next-next.ensures (links_after c.args.self.now c.set_next.new.self pages c.args.frame _ c.set_next.ensures.large chains (chains.room c.args.frame c.args.id on).frame (next_stop c.args.self.now pages c.args.frame (Some c.args.id) chains on))

pub returns-clause-in_order : goal.returns-clause-in_order
returns-clause-in_order c pages chains on = search (rules, taken_off)
