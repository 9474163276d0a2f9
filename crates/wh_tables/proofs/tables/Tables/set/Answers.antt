use Rattle.std.proofs.Common.{refl, rules}
use Rattle.wh_space_model.specs.declared.states.Page.TheVariants.{Untouched}
use Rattle.wh_space_model.proofs.Putting.{put_this}
use Rattle.wh_tables.proofs.Keeping.{put_put}
use Rattle.wh_tables.proofs.tables.Tables.set.Goals as goal

pub land-requires-clause-off : goal.land-requires-clause-off
land-requires-clause-off c = search (rules, put_this)

pub returns-else-eq : goal.returns-else-eq
returns-else-eq c = rw (c.land.ensures, c.lift.ensures, put_put c.args.self.now.pages c.args.place c.args.number Untouched c.args.page) refl
