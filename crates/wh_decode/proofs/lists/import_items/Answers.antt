use Rattle.wh_syntax.specs.View.{view_import}
use Rattle.wh_decode.specs.ReadingModule.{import_at}
use Rattle.wh_decode.proofs.Sequences.{vec_give}
use Rattle.wh_decode.proofs.lists.import_items.Goals as goal

pub returns-clause-exact : goal.returns-clause-exact
returns-clause-exact c = vec_give view_import _ import_at (λ b at r g. g) c.args.count c.args.bytes.now c.args.at c.items.result c.items.ensures.exact
