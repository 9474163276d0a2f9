-- What is exported is there where its index is below the count; and names that differ.
use Rattle.std.proofs.Common.{◌≡◌, ◌<◌, length, map, sym, subst}
use Rattle.wh_model.specs.declared.ExternKind.{ExternKind}
use Rattle.wh_model.specs.declared.ExternKind.TheVariants.{Func, Table, Memory, Global}
use Rattle.wh_model.specs.Validity.{Exported}
use Rattle.wh_syntax.specs.View.{view_global_type, view_table, view_limits, view_type}
use Rattle.wh_syntax.specs.declared.module.Export.{Export}
use Rattle.wh_bodies.specs.declared.context.Context.{Context as Given}
use Rattle.wh_bodies.specs.View.{view_context, type_at}
use Rattle.wh_validate.specs.Parts.{IsExport}
use Rattle.wh_validate.proofs.Lists.{item_at, item_below}
use Rattle.wh_validate.proofs.Deciding.{Same}

by_kind : {P : Type 0} (c : Given) (e : Export) (kind : ExternKind) → e.kind ≡ kind → Same P (Exported (view_context c) kind e.index) → Same P (IsExport (view_context c) e)
unfolding IsExport
by_kind c e kind same p = (
  λ x. subst (λ k. Exported (view_context c) k e.index) (sym same) (p.0 x),
  λ x. p.1 (subst (λ k. Exported (view_context c) k e.index) same x),
)

pub func_export : (c : Given) (e : Export) → e.kind ≡ Func → Same (e.index < length c.funcs.now) (IsExport (view_context c) e)
func_export c e same =
    let types = type_at (map view_type c.types.now) in
    by_kind c e Func same (λ lt. item_at types c.funcs.now e.index lt, λ p. item_below types c.funcs.now e.index p.0 p.1)

pub table_export : (c : Given) (e : Export) → e.kind ≡ Table → Same (e.index < length c.tables.now) (IsExport (view_context c) e)
table_export c e same = by_kind c e Table same (λ lt. item_at view_table c.tables.now e.index lt, λ p. item_below view_table c.tables.now e.index p.0 p.1)

pub memory_export : (c : Given) (e : Export) → e.kind ≡ Memory → Same (e.index < length c.memories.now) (IsExport (view_context c) e)
memory_export c e same = by_kind c e Memory same (λ lt. item_at view_limits c.memories.now e.index lt, λ p. item_below view_limits c.memories.now e.index p.0 p.1)

pub global_export : (c : Given) (e : Export) → e.kind ≡ Global → Same (e.index < length c.globals.now) (IsExport (view_context c) e)
global_export c e same = by_kind c e Global same (λ lt. item_at view_global_type c.globals.now e.index lt, λ p. item_below view_global_type c.globals.now e.index p.0 p.1)
