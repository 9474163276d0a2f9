use Rattle.std.proofs.Common.{refl}
use Rattle.wh_commands.proofs.Asking.{two}
use Rattle.wh_commands.proofs.reading.refuel.Goals as goal

pub returns-clause-ok : goal.returns-clause-ok
returns-clause-ok c =
    let name = c.in_ok-inst.ensures.ok in
    let fuel = c.in_ok-fuel.ensures.ok in
    (refl, (fuel.0, two _ _ _ _ _ name.0 fuel.1 c.in_ok-end.ensures.ok, name.1, fuel.2))
