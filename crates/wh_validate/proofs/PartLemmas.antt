-- Segments are valid where their indices are below the counts and their offsets are constant.
use Rattle.std.proofs.Common.{ℕ, ◌<◌, List, length, map, take, sym, subst, All}
use Rattle.std.specs.List.{AllByRecursion}
use Rattle.wh_model.specs.declared.ValType.TheVariants.{I32}
use Rattle.wh_model.specs.Format.{Code}
use Rattle.wh_model.specs.Validity.{ConstantOf, HasFunc}
use Rattle.wh_syntax.specs.View.{view_global_type, view_table, view_limits, view_type}
use Rattle.wh_syntax.specs.declared.module.Element.{Element}
use Rattle.wh_syntax.specs.declared.module.Data.{Data}
use Rattle.wh_bodies.specs.declared.context.Context.{Context as Given}
use Rattle.wh_bodies.specs.View.{view_context, type_at}
use Rattle.wh_validate.specs.Parts.{IsValidElement, IsSegment}
use Rattle.wh_validate.proofs.Lists.{item_at, item_below, take_whole, each_recursion, recursion_each}
use Rattle.wh_validate.proofs.Deciding.{Same}

-- an offset sees all globals
abbrev Offset : Given → Code → Type 0
Offset c e = ConstantOf (map view_global_type (take (length c.globals.now) c.globals.now)) e I32

offset_same : (c : Given) (e : Code) → Same (Offset c e) (ConstantOf (view_context c).globals e I32)
offset_same c e =
    let h = take_whole c.globals.now in (
      λ p. subst (λ w. ConstantOf (map view_global_type w) e I32) h p,
      λ p. subst (λ w. ConstantOf (map view_global_type w) e I32) (sym h) p,
    )

funcs_same : (c : Given) (xs : List ℕ) → Same (All (λ x. x < length c.funcs.now) xs) (AllByRecursion (HasFunc (view_context c)) xs)
funcs_same c xs =
    let types = type_at (map view_type c.types.now) in (
      each_recursion (λ x. x < length c.funcs.now) (HasFunc (view_context c)) (λ x lt. item_at types c.funcs.now x lt) xs,
      recursion_each (λ x. x < length c.funcs.now) (HasFunc (view_context c)) (λ x h. item_below types c.funcs.now x h.0 h.1) xs,
    )

pub element_same : (c : Given) (e : Element) → Same ((e.table < length c.tables.now) × (Offset c e.offset × All (λ x. x < length c.funcs.now) e.init.items)) (IsValidElement (view_context c) e)
unfolding IsValidElement
element_same c e = (
  λ p. (item_at view_table c.tables.now e.table p.0, (offset_same c e.offset).0 p.1.0, (funcs_same c e.init.items).0 p.1.1),
  λ p. (item_below view_table c.tables.now e.table p.0.0 p.0.1, ((offset_same c e.offset).1 p.1, (funcs_same c e.init.items).1 p.2)),
)

pub segment_same : (c : Given) (d : Data) → Same ((d.memory < length c.memories.now) × Offset c d.offset) (IsSegment (view_context c) d)
unfolding IsSegment
segment_same c d = (
  λ p. (item_at view_limits c.memories.now d.memory p.0, (offset_same c d.offset).0 p.1),
  λ p. (item_below view_limits c.memories.now d.memory p.0.0 p.0.1, (offset_same c d.offset).1 p.1),
)
