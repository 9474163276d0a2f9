use Rattle.std.proofs.Common.{sym, subst, rules}
use Rattle.wh_tables.specs.Order.{StandsOn}
use Rattle.wh_tables.specs.Tables.{TablesState, pages_by_place}
use Rattle.wh_tables.proofs.Answering.{prior_none, prior_some}
use Rattle.wh_tables.proofs.tables.Tables.prior_on.Goals as goal

pub returns-clause-some : goal.returns-clause-some
returns-clause-some c =
    let on = subst (λ (s : TablesState). StandsOn s.pages c.args.frame c.args.id) (sym c.self.view_is) c.requires in
    rw (← c.self.view_is) (prior_some c.self.inside.index.chains (pages_by_place c.self.inside.tables.items) c.args.frame c.args.id c.prior.result c.self.invariant.index.order on c.prior.ensures.page)

pub returns-clause-none : goal.returns-clause-none
returns-clause-none c = search (rules, prior_none)
