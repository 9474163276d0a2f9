use Rattle.std.proofs.Common.{refl}
use Rattle.wh_commands.proofs.Asking.{one_more}
use Rattle.wh_commands.proofs.reading.invoke.Goals as goal

pub returns-clause-ok : goal.returns-clause-ok
returns-clause-ok c =
    let inst = c.in_ok-inst.ensures.ok in
    let export = c.in_ok-export.ensures.ok in
    let fuel = c.in_ok-fuel.ensures.ok in
    let are = c.in_ok-args.ensures.ok in
    (refl, (fuel.0, _, one_more _ _ _ _ inst.0 (one_more _ _ _ _ export.0 fuel.1), inst.1, export.1, fuel.2, are))
