use Rattle.std.proofs.Common.{rules}
use Rattle.std.proofs.lemmas.Int.{to_z-of_z}
use Rattle.wh_instance.proofs.Given.{same_count, one_more, one_less}
use Rattle.wh_instance.proofs.numbers.are_given.Goals as goal

pub returns-then-params-given : goal.returns-then-params-given
returns-then-params-given c vs h = search (rules, same_count)

pub returns-then-not-fits : goal.returns-then-not-fits
returns-then-not-fits c vs h = search (rules, one_less, to_z-of_z)

pub loop-at-preserved : goal.loop-at-preserved
loop-at-preserved c = search (rules, to_z-of_z, one_more, one_less)
