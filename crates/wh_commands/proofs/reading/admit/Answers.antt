use Rattle.std.proofs.Common.{refl}
use Rattle.wh_commands.proofs.Asking.{one_more}
use Rattle.wh_commands.proofs.reading.admit.Goals as goal

pub returns-clause-ok : goal.returns-clause-ok
returns-clause-ok c =
    let inst = c.in_ok-inst.ensures.ok in
    let of = c.in_ok-module.ensures.ok in
    let are = c.in_ok-given.ensures.ok in
    (refl, (_, one_more _ _ _ _ inst.0 of.0, inst.1, of.1, are))
