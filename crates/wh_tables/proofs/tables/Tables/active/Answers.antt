use Rattle.std.proofs.Common.{length, ap, ◌∙◌, arith}
use Rattle.wh_tables.specs.Index.{number_in}
use Rattle.wh_tables.specs.Tables.{marked_of}
use Rattle.wh_tables.proofs.Charging.{active_few}
use Rattle.wh_tables.proofs.tables.Tables.active.Goals as goal

pub returns-clause-within : goal.returns-clause-within
returns-clause-within c =
    let is = ap (λ n. n.active) c.counts.ensures ∙ c.self.invariant.index.counted.active c.args.place in
    let few = active_few (number_in c.self.inside.index.chains.numbers) (marked_of c.self.inside.tables.items) (length c.self.inside.index.chains.ends) c.args.place in
    rw (← c.self.view_is) (omega arith)
