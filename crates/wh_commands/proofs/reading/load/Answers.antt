use Rattle.std.proofs.Common.{refl}
use Rattle.wh_commands.proofs.Asking.{two}
use Rattle.wh_commands.proofs.reading.load.Goals as goal

pub returns-clause-ok : goal.returns-clause-ok
returns-clause-ok c =
    let name = c.in_ok-name.ensures.ok in
    let path = c.in_ok-path.ensures.ok in
    (refl, (two _ _ _ _ _ name.0 path.0 c.in_ok-end.ensures.ok, name.1, path.1))
