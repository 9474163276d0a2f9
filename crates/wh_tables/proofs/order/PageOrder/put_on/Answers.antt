use Rattle.wh_tables.proofs.Chaining.{as_large, behind_is, has_links, links_after, next_stop, put_there}
use Rattle.wh_tables.proofs.order.PageOrder.put_on.Goals as goal

pub set_prior-requires-2 : goal.set_prior-requires-2
set_prior-requires-2 c =
    let pages = c.requires.in_order.0 in
    let chains = c.requires.in_order.1 in
    let large = as_large c.args.self.now c.set_prior.new.self c.set_next-2.new.self (as_large c.args.self.now c.set_next.new.self c.set_prior.new.self c.set_next.ensures.large c.set_prior.ensures.large) c.set_next-2.ensures.large in
    rw c.next-next.ensures (links_after c.args.self.now c.set_next-2.new.self pages c.args.frame _ large chains c.requires.within.frame (next_stop c.args.self.now pages c.args.frame c.behind-prior.result chains (c.behind-prior.ensures pages chains).on))

pub returns-clause-in_order : goal.returns-clause-in_order
returns-clause-in_order c pages was page chains there off new =
    put_there c.args.self.now c.set_next.new.self c.set_prior.new.self c.set_next-2.new.self c.set_prior-2.new.self pages c.args.frame c.args.id c.behind-prior.result was page chains c.requires.within there off new
    (behind_is c.args.self.now pages c.args.frame c.args.id c.behind-prior.result (c.behind-prior.ensures pages chains))
    (rw (← c.next-next.ensures) c.set_next.ensures) c.set_prior.ensures c.set_next-2.ensures (rw (← c.next-next.ensures) c.set_prior-2.ensures)

pub next-next-requires : goal.next-next-requires
next-next-requires c =
    let pages = c.requires.in_order.0 in
    let chains = c.requires.in_order.1 in
    has_links c.args.self.now pages c.args.frame c.behind-prior.result chains c.requires.within.frame (c.behind-prior.ensures pages chains).on

pub set_next-requires-2 : goal.set_next-requires-2
set_next-requires-2 c =
    let pages = c.requires.in_order.0 in
    let chains = c.requires.in_order.1 in
    let large = as_large c.args.self.now c.set_next.new.self c.set_prior.new.self c.set_next.ensures.large c.set_prior.ensures.large in
    links_after c.args.self.now c.set_prior.new.self pages c.args.frame c.behind-prior.result large chains c.requires.within.frame (c.behind-prior.ensures pages chains).on
