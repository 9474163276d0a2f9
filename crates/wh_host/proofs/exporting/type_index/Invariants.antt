use Rattle.std.proofs.Common.{◌≡◌, ◌++◌, drop, map, slice_get}
use Rattle.wh_model.specs.Validity.Valid.{imported_funcs}
use Rattle.wh_syntax.specs.View.{view_import}
use Rattle.wh_host.proofs.exporting.type_index.Given as goal

abbrev pub invariant-loop-import : goal.invariant-loop-import
invariant-loop-import l = slice_get (imported_funcs (map view_import (drop l.import-index l.imports)) ++ l.funcs) l.left ≡ slice_get (imported_funcs (map view_import l.imports) ++ l.funcs) l.func
