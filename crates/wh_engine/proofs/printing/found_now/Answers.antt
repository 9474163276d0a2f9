use Rattle.std.proofs.Common.{ap, sym, ◌∙◌}
use Rattle.std.proofs.lemmas.Option.{same_Some}
use Rattle.wh_engine.specs.declared.parts.NamedInstance.{NamedInstance}
use Rattle.wh_engine.proofs.Asked.{guest_there}
use Rattle.wh_engine.proofs.printing.found_now.Goals as goal

pub returns-in-Some : goal.returns-in-Some
returns-in-Some c g call looked first was =
    let x = c.index-instances-at.result in
    let found = c.in-Some.ensures.found in
    let there = guest_there c.args.instances.now c.in-Some.at x c.in-Some.ensures.within c.index-instances-at.is in
    let same = same_Some found.0 x (sym found.1 ∙ there) in
    c.status_now.ensures g call (looked.shows c.in-Some.at x there (ap (λ (y : NamedInstance). y.id.number) (sym same) ∙ found.2)) first was
