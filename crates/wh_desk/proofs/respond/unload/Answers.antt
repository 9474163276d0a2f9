use Rattle.std.proofs.Common.{rules, ap, List}
use Rattle.std.proofs.lemmas.Fn.{filter_same}
use Rattle.wh_desk.specs.declared.ownership.OwnedModule.{OwnedModule}
use Rattle.wh_desk.specs.Permits.{OwnershipState}
use Rattle.wh_desk.proofs.respond.unload.Goals as goal

pub returns-clause-owned : goal.returns-clause-owned
returns-clause-owned c c' =
    ap (λ (xs : List OwnedModule). (let o : OwnershipState = record { modules = xs; instances = c'.args.ownership.now.instances.items } in o))
    (filter_same _ _ _ (λ x b f' k. search rules) _ _ c'.retain.ensures.filtered)
