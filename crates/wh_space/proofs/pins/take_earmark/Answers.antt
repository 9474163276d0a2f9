use Rattle.std.proofs.Common.{rules}
use Rattle.wh_space.proofs.Earmarked.{earmark_goes}
use Rattle.wh_space.proofs.pins.take_earmark.Goals as goal

pub returns-in-Two-clause-some : goal.returns-in-Two-clause-some
returns-in-Two-clause-some c = search (rules, earmark_goes)
