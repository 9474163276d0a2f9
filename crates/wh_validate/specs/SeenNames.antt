-- The names that were seen.
use Rattle.std.specs.Prelude.{◌≡◌, ℕ, List, Bool, is_some, map}
use Rattle.std.specs.List.{list_any}
use Rattle.std.specs.Str.{bytes_eq}
use Rattle.std.specs.String.{string_bytes}
use Rattle.wh_model.specs.Validity.Valid.{DifferentNames}
use Rattle.wh_syntax.specs.View.{view_export}
use Rattle.wh_syntax.specs.declared.module.Export.{Export}
use Rattle.std.specs.Cmp.Lexicographic.{slice_cmp}
use Rattle.std.specs.Ordering.{nat_cmp}
use Rattle.std.specs.BTreeMap.{BTreeMap, get_by}
use denote.Ref.{Bor}

-- whether the name is one of them
unfoldable pub has_name : {X : Type 0} → BTreeMap (Bor (List ℕ)) X → List ℕ → Bool
has_name names name = is_some (get_by (λ k. slice_cmp nat_cmp name k.now) names)

-- exactly the names of these exports were seen
pub record HasSeen {X : Type 0} (names : BTreeMap (Bor (List ℕ)) X) (exports : List Export) : Type 0 where
  pub each : (q : List ℕ) → has_name names q ≡ list_any (λ e. bytes_eq (string_bytes e.name) q) exports
  pub different : DifferentNames (map view_export exports)
