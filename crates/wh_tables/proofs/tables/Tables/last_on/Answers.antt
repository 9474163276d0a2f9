use Rattle.wh_tables.specs.Tables.{pages_by_place}
use Rattle.wh_tables.proofs.Answering.{last_none, last_some}
use Rattle.wh_tables.proofs.tables.Tables.last_on.Goals as goal

pub returns-clause-some : goal.returns-clause-some
returns-clause-some c = rw (← c.self.view_is) (last_some c.self.inside.index.chains (pages_by_place c.self.inside.tables.items) c.args.frame c.prior.result c.self.invariant.index.order c.prior.ensures.page)

pub returns-clause-none : goal.returns-clause-none
returns-clause-none c = rw (← c.self.view_is) (last_none c.self.inside.index.chains (pages_by_place c.self.inside.tables.items) c.args.frame c.prior.result c.self.invariant.index.order c.prior.ensures.page)
