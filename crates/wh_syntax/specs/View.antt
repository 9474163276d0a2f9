-- Which abstract syntax (section 2 of the standard) decoded modules represent.
use Rattle.std.specs.Prelude.{map}
use Rattle.std.specs.String.{string_bytes}
use Rattle.wh_model.specs.Format.Syntax as model
use Rattle.wh_model.specs.Format.Syntax.{of_func, of_global}
use Rattle.wh_syntax.specs.declared.module.FuncType.{FuncType}
use Rattle.wh_syntax.specs.declared.module.Limits.{Limits}
use Rattle.wh_syntax.specs.declared.module.TableType.{TableType}
use Rattle.wh_syntax.specs.declared.module.GlobalType.{GlobalType}
use Rattle.wh_syntax.specs.declared.module.ImportDesc.{ImportDesc}
use Rattle.wh_syntax.specs.declared.module.ImportDesc.TheVariants.{Func, Global as GlobalOf}
use Rattle.wh_syntax.specs.declared.module.Import.{Import}
use Rattle.wh_syntax.specs.declared.module.Global.{Global}
use Rattle.wh_syntax.specs.declared.module.Export.{Export}
use Rattle.wh_syntax.specs.declared.module.Element.{Element}
use Rattle.wh_syntax.specs.declared.module.Data.{Data}
use Rattle.wh_syntax.specs.declared.module.Body.{Body}
use Rattle.wh_syntax.specs.declared.module.Module.{Module}

abbrev pub view_type : FuncType → model.FuncType
view_type t = record { params = t.params.items; results = t.results.items }

abbrev pub view_limits : Limits → model.Limits
view_limits l = record { min = l.min; max = l.max }

abbrev pub view_table : TableType → model.Limits
view_table t = view_limits t.limits

abbrev pub view_global_type : GlobalType → model.GlobalType
view_global_type t = record { value = t.value; mutability = t.mutability }

abbrev pub view_desc : ImportDesc → model.ImportDesc
view_desc (Func x) = of_func x
view_desc (GlobalOf t) = of_global t

-- names are their bytes
abbrev pub view_import : Import → model.Import
view_import i = record { from = string_bytes i.from; name = string_bytes i.name; desc = view_desc i.desc }

abbrev pub view_global : Global → model.Global
view_global g = record { type = view_global_type g.global_type; init = g.init }

abbrev pub view_export : Export → model.Export
view_export e = record { name = string_bytes e.name; kind = e.kind; index = e.index }

abbrev pub view_element : Element → model.Element
view_element e = record { table = e.table; offset = e.offset; init = e.init.items }

abbrev pub view_data : Data → model.Data
view_data d = record { memory = d.memory; offset = d.offset; init = d.init.items }

abbrev pub view_body : Body → model.Body
view_body f = record { locals = f.locals.items; code = f.code }

abbrev pub view_module : Module → model.Module
view_module m = record {
  types = map view_type m.types.items;
  imports = map view_import m.imports.items;
  funcs = m.funcs.items;
  tables = map view_table m.tables.items;
  memories = map view_limits m.memories.items;
  globals = map view_global m.globals.items;
  exports = map view_export m.exports.items;
  start = m.start;
  elements = map view_element m.elements.items;
  bodies = map view_body m.bodies.items;
  segments = map view_data m.segments.items;
}
