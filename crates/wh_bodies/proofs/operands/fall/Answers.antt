use Rattle.std.proofs.Common.{reverse, ◌∙◌, rules}
use Rattle.wh_bodies.proofs.Lists.{reverse-take}
use Rattle.wh_bodies.proofs.operands.fall.Goals as goal

pub returns : goal.returns
returns c = search (rules, reverse, reverse-take)
