use Rattle.std.proofs.Common.{refl}
use Rattle.wh_commands.proofs.reading.retry.Goals as goal

pub returns-clause-ok : goal.returns-clause-ok
returns-clause-ok c =
    let inst = c.in_ok-inst.ensures.ok in (refl, (inst.0, inst.1))
