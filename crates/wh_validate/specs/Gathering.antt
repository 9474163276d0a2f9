-- What is known of a module before its bodies are looked at.
use Rattle.std.specs.Prelude.{◌≡◌, ◌<◌, ◌≤◌, ◌++◌, List, map, length}
use Rattle.std.specs.List.{All}
use Rattle.wh_model.specs.Validity.Valid.{ValidType, WithinBound, most_pages, imported_funcs, imported_globals, DifferentNames, ValidStart}
use Rattle.wh_model.specs.Format.Syntax.{GlobalType}
use Rattle.wh_model.specs.Validity.Typing.{Context}
use Rattle.wh_validate.specs.Sizing.{IsTable}
use Rattle.wh_syntax.specs.declared.module.Module.{Module}
use Rattle.wh_syntax.specs.View.{view_import, view_type, view_table, view_limits, view_global_type, view_export}
use Rattle.wh_validate.specs.Parts.{IsGlobal, IsExport, IsValidElement, IsSegment}
use Rattle.wh_validate.specs.declared.whole.Gathered.{Gathered}
use Rattle.wh_validate.specs.Naming.{NamesType}

-- types and sizes are right, and imports and functions name types that are there
pub record HasValidOutline (m : Module) : Type 0 where
  pub types : All (λ t. ValidType (view_type t)) m.types.items
  pub imports : All (NamesType (length m.types.items)) m.imports.items
  pub own : All (λ x. x < length m.types.items) m.funcs.items
  pub one_table : length m.tables.items ≤ 1
  pub tables : All (λ t. IsTable (view_table t)) m.tables.items
  pub one_memory : length m.memories.items ≤ 1
  pub memories : All (λ l. WithinBound most_pages (view_limits l)) m.memories.items

-- what indices name: imported functions and globals, and then the module's own
pub record IsGathered (m : Module) (g : Gathered) : Type 0 where
  pub funcs : g.indices.funcs.items ≡ imported_funcs (map view_import m.imports.items) ++ m.funcs.items
  pub count : g.imported_funcs ≡ length (imported_funcs (map view_import m.imports.items))
  pub globals : (imported : List _)
      × (map view_global_type imported ≡ imported_globals (map view_import m.imports.items))
      × (length imported ≡ g.imported_globals)
      × (g.indices.globals.items ≡ imported ++ map (λ x. x.global_type) m.globals.items)

-- constants, exports, the start function and segments, in a context; a global's own expression sees these globals
pub record IsAround (m : Module) (c : Context) (seen : List GlobalType) : Type 0 where
  pub globals : All (IsGlobal seen) m.globals.items
  pub exports : All (IsExport c) m.exports.items
  pub names : DifferentNames (map view_export m.exports.items)
  pub start : ValidStart c m.start
  pub elements : All (IsValidElement c) m.elements.items
  pub segments : All (IsSegment c) m.segments.items
