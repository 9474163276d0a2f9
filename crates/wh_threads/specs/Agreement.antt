-- Two holders know one value.
use Rattle.std.specs.Prelude.{◌≡◌, ℕ, ◌<◌, List, [], Option, sum_by}
use mathlib.Core.Option.{some}
use lib.ListN.{get_elem?}
use Rattle.atomic_table.specs.Seated.{TableId}
use Rattle.wh_threads.specs.declared.known.PassKnowledge.{PassKnowledge}

abbrev pub knowing : {V : Type 0} → ℕ → Option V → Option V → PassKnowledge V
knowing parts mine other = record { parts = parts; mine = mine; other = other }

-- the name of no agreement
abbrev pub no_table : TableId
no_table = record {
  words = 0;
  slots = 0;
  views_name = 0;
  atom = 0;
  block = 0;
  offset = 0;
  slot_names = [];
}

-- who has a part knows this value
abbrev pub AllKnow : {V : Type 0} → List (PassKnowledge V) → Option V → Type 0
AllKnow {V} views value =
    (seat : ℕ) (v : PassKnowledge V) → get_elem? views seat ≡ some v → 0 < v.parts → (v.mine ≡ value) × (v.other ≡ value)

-- The rule: there are two parts, and one value that all know who have one.
abbrev pub Agreed : {V : Type 0} → List ℕ → List (PassKnowledge V) → Type 0
Agreed {V} items views = (sum_by (λ v. v.parts) views ≡ 2) × (value : Option V) × AllKnow views value
