use Rattle.std.proofs.Common.{◌++◌, List, map, slice_get, sym, ◌∙◌, arith}
use Rattle.std.proofs.lemmas.List.{at_drop_all}
use Rattle.wh_model.specs.Validity.Valid.{imported_funcs}
use Rattle.wh_syntax.specs.declared.module.Import.{Import}
use Rattle.wh_syntax.specs.View.{view_import}
use Rattle.wh_host.proofs.exporting.type_index.Goals as goal

pub returns : goal.returns
returns c =
    let left = c.loop-import.left in
    let none_left = at_drop_all (λ (is : List Import). slice_get (imported_funcs (map view_import is) ++ c.args.funcs.now) left) c.args.imports.now c.loop-import.import-index (omega (arith, c.loop-import-test.false)) in
    c.own_at.ensures ∙ sym none_left ∙ c.loop-import.invariant
