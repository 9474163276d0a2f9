use Rattle.std.proofs.Common.{refl}
use Rattle.wh_commands.proofs.reading.report.Goals as goal

pub returns-clause-ok : goal.returns-clause-ok
returns-clause-ok c = (refl, c.in_ok-end.ensures.ok)
