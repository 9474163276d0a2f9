use Rattle.wh_decode.proofs.Sequences.{indices_give}
use Rattle.wh_decode.proofs.parts.index_list.Goals as goal

pub returns-clause-exact : goal.returns-clause-exact
returns-clause-exact c = indices_give c.args.count c.args.bytes.now c.args.at c.items.result c.items.ensures.exact
