use Rattle.std.proofs.Common.{refl, map}
use Rattle.wh_model.specs.declared.faults.ImportFault.TheVariants.{ImportType}
use Rattle.wh_syntax.specs.View.{view_type, view_import}
use Rattle.wh_imports.proofs.ItemLemmas.{typed_has}
use Rattle.wh_imports.proofs.items.item_of.Goals as goal

pub returns-then-not-is_typed-clause-err : goal.returns-then-not-is_typed-clause-err
returns-then-not-is_typed-clause-err c =
    let found = c.in-Some.ensures.some in
    (ImportType, ((found.0, c.in-Some.item, found.1), λ has. let lie = c.if-not-is_typed.ensures.1 (typed_has (map view_type c.args.types.now) (view_import c.args.import.now) c.in-Some.item found.1 has) in absurd (cc lie)), refl)
