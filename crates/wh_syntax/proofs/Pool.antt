-- A pool that grows shows the same instructions.
use Rattle.std.proofs.Common.{◌≡◌, ℕ, ◌+◌, ◌<◌, List, [], ◌∷◌, ◌++◌, length, take, drop, map, refl, ap, ◌∙◌, arith, length-append, length-drop}
use Rattle.std.specs.Prelude.{slice_index}
use Rattle.std.specs.List.{AllByRecursion}
use Rattle.std.proofs.lemmas.List.{take-append-le, drop-append-le}
use Rattle.std.proofs.Math.ListN.{get_or-append}
use Rattle.wh_model.specs.Format.Syntax as model
use Rattle.wh_model.specs.Format.{single, br_table}
use Rattle.wh_syntax.specs.declared.instr.Instr.{Instr}
use Rattle.wh_syntax.specs.declared.instr.Instr.TheVariants.{BrTable}
use Rattle.wh_syntax.specs.Shown.{instr_of, InPool}

table_more : (labels more : List ℕ) (first count : ℕ) → first + count < length labels
    → br_table (take count (drop first (labels ++ more))) (slice_index (labels ++ more) (first + count)) ≡ br_table (take count (drop first labels)) (slice_index labels (first + count))
table_more labels more first count lt =
    let behind : drop first (labels ++ more) ≡ drop first labels ++ more = drop-append-le first labels more (omega arith) in
    let these : take count (drop first (labels ++ more)) ≡ take count (drop first labels) = ap (take count) behind ∙ take-append-le count (drop first labels) more (omega (arith, length-drop first labels)) in
    ap (λ (x : List ℕ). br_table x (slice_index (labels ++ more) (first + count))) these ∙ ap (br_table (take count (drop first labels))) (get_or-append labels more 0 (first + count) lt)

instr_more : (labels more : List ℕ) (i : Instr) → InPool labels i → instr_of (labels ++ more) i ≡ instr_of labels i
instr_more labels more (BrTable first count) p = ap single (table_more labels more first count p)
instr_more labels more _ p = refl

in_more : (labels more : List ℕ) (i : Instr) → InPool labels i → InPool (labels ++ more) i
in_more labels more (BrTable first count) p = omega (arith, p, length-append labels more)
in_more labels more _ p = tt

cons_is : (i j : model.Instr) (is js : List model.Instr) → i ≡ j → is ≡ js → i ∷ is ≡ j ∷ js
cons_is i j is js e f = cc

pub shown_more : (labels more : List ℕ) (is : List Instr) → AllByRecursion (InPool labels) is → map (instr_of (labels ++ more)) is ≡ map (instr_of labels) is
shown_more labels more [] p = refl
shown_more labels more (i ∷ is) p = cons_is _ _ _ _ (instr_more labels more i p.0) (shown_more labels more is p.1)

pub pool_more : (labels more : List ℕ) (is : List Instr) → AllByRecursion (InPool labels) is → AllByRecursion (InPool (labels ++ more)) is
pool_more labels more [] p = tt
pool_more labels more (i ∷ is) p = (in_more labels more i p.0, pool_more labels more is p.1)

pub pool_push : (labels : List ℕ) (is : List Instr) (i : Instr) → AllByRecursion (InPool labels) is → InPool labels i → AllByRecursion (InPool labels) (is ++ i ∷ [])
pool_push labels [] i p q = (q, tt)
pool_push labels (j ∷ is) i p q = (p.0, pool_push labels is i p.1 q)
