use Rattle.std.proofs.Common.{map, take}
use Rattle.std.specs.List.{AllByRecursion}
use Rattle.wh_model.specs.Linking.{HasItem}
use Rattle.wh_syntax.specs.View.{view_type, view_import}
use Rattle.wh_imports.specs.Resolving.{AreResolved}
use Rattle.wh_imports.proofs.linked.resolve.Given as goal

abbrev pub invariant-loop-at : goal.invariant-loop-at
invariant-loop-at l = record {
  has : AllByRecursion (HasItem (map view_type l.decoded.types.items)) (take l.at (map view_import l.decoded.imports.items));
  resolved : AreResolved (map view_type l.decoded.types.items) (take l.at (map view_import l.decoded.imports.items)) l.resolved.funcs.items l.resolved.globals.items;
}
