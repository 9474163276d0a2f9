use Rattle.std.proofs.Common.{◌≡◌, ℕ, ◌<◌, get_or, length, map, drop, ◌++◌}
use Rattle.wh_model.specs.Validity.{imported_funcs, imported_globals}
use Rattle.wh_syntax.specs.View.{view_import, view_global_type}
use Rattle.wh_syntax.specs.declared.module.Import.{Import}
use Rattle.wh_validate.specs.Naming.{NamesType}
use Rattle.wh_validate.proofs.indices.imported.Given as goal

-- what was brought, and what is to come, are all
abbrev pub invariant-loop-import : goal.invariant-loop-import
invariant-loop-import l = record {
  funcs : l.funcs.items ++ imported_funcs (map view_import (drop l.import-index l.imports)) ≡ imported_funcs (map view_import l.imports);
  globals : map view_global_type l.globals.items ++ imported_globals (map view_import (drop l.import-index l.imports)) ≡ imported_globals (map view_import l.imports);
  each : (k : ℕ) (d : Import) → k < l.import-index → NamesType (length l.types) (get_or l.imports k d);
}
