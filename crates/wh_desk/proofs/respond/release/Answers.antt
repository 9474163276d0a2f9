use Rattle.std.proofs.Common.{rules, ap, List}
use Rattle.std.proofs.lemmas.Fn.{filter_same}
use Rattle.wh_desk.specs.declared.ownership.OwnedInstance.{OwnedInstance}
use Rattle.wh_desk.specs.Permits.{OwnershipState}
use Rattle.wh_desk.proofs.respond.release.Goals as goal

pub returns-clause-owned : goal.returns-clause-owned
returns-clause-owned c c' =
    ap (λ (xs : List OwnedInstance). (let o : OwnershipState = record { modules = c'.args.ownership.now.modules.items; instances = xs } in o))
    (filter_same _ _ _ (λ x b f' k. search rules) _ _ c'.retain.ensures.filtered)
