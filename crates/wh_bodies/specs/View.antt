-- What the definitions see of the code's values.
use Rattle.std.specs.Prelude.{ℕ, List, [], map, reverse, ◌++◌, slice_get, unwrap_or, None}
use Rattle.wh_model.specs.Format.Syntax.{FuncType}
use Rattle.wh_model.specs.Validity.Typing as model
use Rattle.wh_model.specs.Validity.Heights.{no_type}
use Rattle.wh_syntax.specs.View.{view_type, view_limits, view_table, view_global_type}
use Rattle.wh_bodies.specs.declared.context.Context.{Context}
use Rattle.wh_bodies.specs.declared.context.Around.{Around}
use Rattle.wh_bodies.specs.declared.steps.Checker.{Checker}
use Rattle.wh_bodies.specs.declared.table.SideTable.{SideTable}
use Rattle.wh_bodies.specs.SideTables.{Table}
use Rattle.wh_bodies.specs.Known.{known}
use Rattle.wh_bodies.specs.CheckSteps.{State}

-- the type at each index
abbrev pub type_at : List FuncType → ℕ → FuncType
type_at types x = unwrap_or (slice_get types x) no_type

-- the context of a module's functions (3.1.1)
abbrev pub view_context : Context → model.Context
view_context c = record {
  types = map view_type c.types.now;
  funcs = map (type_at (map view_type c.types.now)) c.funcs.now;
  tables = map view_table c.tables.now;
  memories = map view_limits c.memories.now;
  globals = map view_global_type c.globals.now;
  locals = [];
  labels = [];
  result = None;
}

-- inside one function, with its label left out
abbrev pub view_around : Around → model.Context
view_around a = record (view_context a.context) { locals = a.params.now ++ a.locals.now; result = a.result }

abbrev pub state_of : Checker → State
state_of c =
    record {
      known = known c.operands;
      labels = reverse c.labels.items;
      marks = reverse c.marks.items;
      entries = c.entries.items;
      pool = c.pool.items;
    }

abbrev pub view_side : SideTable → Table
view_side t = record { entries = t.entries.items; pool = t.pool.items }
