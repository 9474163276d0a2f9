-- Each call of an agreement keeps its rule.
use Rattle.std.proofs.Common.{◌≡◌, ◌≢◌, ℕ, zero, suc, ◌+◌, ◌<◌, ◌≤◌, Option, None, List, [], ◌∷◌, ◌++◌, set, refl, sym, ap, ◌∙◌, subst, ⊎_elim, arith}
use mathlib.Core.Option.{some, some-ne-none, some-injective}
use lib.ListN.{get_elem?}
use Rattle.std.specs.List.{sum_by}
use Rattle.std.proofs.lemmas.List.Sums.{sum_by-cons}
use Rattle.crossbeam_queue.specs.Fifo.{Forks, Merges, Learns}
use Rattle.crossbeam_queue.proofs.Lists.{at_set, at_snoc}
use Rattle.wh_threads.specs.Agreement.{knowing, AllKnow, Agreed}
use Rattle.wh_threads.specs.declared.known.PassKnowledge.{PassKnowledge}
use Rattle.wh_threads.proofs.Views.{sum_by-view, sum_by-new, sum_by-one}

abbrev parts_of : {V : Type 0} → PassKnowledge V → ℕ
parts_of v = v.parts

-- two passes together have no more parts than all
parts_of_two : {V : Type 0} (views : List (PassKnowledge V)) (i j : ℕ) (v w : PassKnowledge V) → i ≢ j → get_elem? views i ≡ some v
    → get_elem? views j ≡ some w → v.parts + w.parts ≤ sum_by parts_of views
parts_of_two [] i j v w apart at at2 = absurd (some-ne-none v (sym at))
parts_of_two (x ∷ xs) zero zero v w apart at at2 = absurd (apart refl)
parts_of_two (x ∷ xs) zero (suc j) v w apart at at2 =
    let same : x.parts ≡ v.parts = ap parts_of (some-injective x v at) in
    omega (arith, same, sum_by-cons parts_of x xs, sum_by-one parts_of xs j w at2)
parts_of_two (x ∷ xs) (suc i) zero v w apart at at2 =
    let same : x.parts ≡ w.parts = ap parts_of (some-injective x w at2) in
    omega (arith, same, sum_by-cons parts_of x xs, sum_by-one parts_of xs i v at)
parts_of_two (x ∷ xs) (suc i) (suc j) v w apart at at2 =
    omega (arith, sum_by-cons parts_of x xs, parts_of_two xs i j v w (λ e. apart (ap suc e)) at at2)

-- one view changes: it knows the value if it has a part, and so do the others
know_set : {V : Type 0} (views : List (PassKnowledge V)) (pass : ℕ) (w : PassKnowledge V) (value : Option V)
    → (0 < w.parts → (w.mine ≡ value) × (w.other ≡ value))
    → ((j : ℕ) (u : PassKnowledge V) → j ≢ pass → get_elem? views j ≡ some u → 0 < u.parts
    → (u.mine ≡ value) × (u.other ≡ value))
    → AllKnow (set views pass w) value
know_set {V = W} views pass w value mine others j u at part =
    ⊎_elim (λ (x : (j ≡ pass) × (w ≡ u)).
    subst (λ (y : PassKnowledge W). (0 < y.parts → (y.mine ≡ value) × (y.other ≡ value))) x.1 mine part)
    (λ (x : (j ≢ pass) × (get_elem? views j ≡ some u)). others j u x.0 x.1 part) (at_set views pass j w u at)

-- one view more
know_new : {V : Type 0} (views : List (PassKnowledge V)) (w : PassKnowledge V) (value : Option V)
    → (0 < w.parts → (w.mine ≡ value) × (w.other ≡ value)) → AllKnow views value → AllKnow (views ++ w ∷ []) value
know_new {V = W} views w value mine all j u at part =
    ⊎_elim (λ is. all j u is part)
    (λ (is : w ≡ u).
    subst (λ (y : PassKnowledge W). (0 < y.parts → (y.mine ≡ value) × (y.other ≡ value))) is mine part)
    (at_snoc views w u j at)

pub begins : {V : Type 0} → Agreed {V = V} [] (knowing 2 None None ∷ [])
begins {V = W} = (refl, None, begun) where
  begun : AllKnow {V = W} (knowing 2 None None ∷ []) None
  begun zero v at part =
      let is = sym (some-injective (knowing 2 None None) v at) in
      (ap (λ (u : PassKnowledge W). u.mine) is, ap (λ (u : PassKnowledge W). u.other) is)
  begun (suc seat) v at part = absurd (some-ne-none v (sym at))

-- a pass without a part is cut off
pub idles : {V : Type 0} (pass : ℕ) (v : PassKnowledge V) → Forks Agreed pass v v (knowing 0 None None)
idles pass v items views was at =
    let rest = set views pass v in (
      omega (arith, was.0, sum_by-view parts_of views pass v v at, sum_by-new parts_of rest (knowing 0 None None)),
      was.1,
      know_new rest (knowing 0 None None) was.1 (λ none. absurd (omega arith))
          (know_set views pass v was.1 (λ part. was.2 pass v at part) (λ j u apart is part. was.2 j u is part)),
    )

pub merges : {V : Type 0} (pass : ℕ) (v : PassKnowledge V) (other : ℕ) (w : PassKnowledge V) → 0 < v.parts → 0 < w.parts
    → Merges Agreed pass v other w (knowing (v.parts + w.parts) v.mine w.mine) (knowing 0 None None)
merges pass v other w part part2 items views was at apart at2 =
    let both = knowing (v.parts + w.parts) v.mine w.mine in
    let rest = set views pass both in
    let there : get_elem? views other ≡ some w =
    ⊎_elim (λ x. absurd (apart x.0)) (λ x. x.1) (at_set views pass other both w at2) in
    let mine = was.2 pass v at part in
    let theirs = was.2 other w there part2 in (
      omega (arith, was.0, sum_by-view parts_of views pass v both at, sum_by-view parts_of rest other w (knowing 0 None None) at2),
      was.1,
      know_set rest other (knowing 0 None None) was.1 (λ none. absurd (omega arith))
          (λ j u away is has. know_set views pass both was.1 (λ all. (mine.0, theirs.0))
          (λ k y far there here. was.2 k y there here) j u is has),
    )

-- who has both parts knows that they know the same
pub learns : {V : Type 0} (pass : ℕ) (v : PassKnowledge V) → v.parts ≡ 2 → Learns Agreed pass v (λ items. v.mine ≡ v.other)
learns pass v all items views was at = let knows = was.2 pass v at (omega arith) in knows.0 ∙ sym knows.1

-- and may put any value in its place
pub parts : {V : Type 0} (pass : ℕ) (v : PassKnowledge V) (value : Option V) → v.parts ≡ 2
    → Forks Agreed pass v (knowing 1 value value) (knowing 1 value value)
parts pass v value all items views was at =
    let half = knowing 1 value value in
    let rest = set views pass half in (
      omega (arith, was.0, sum_by-view parts_of views pass v half at, sum_by-new parts_of rest half),
      value,
      know_new rest half value (λ part. (refl, refl))
          (know_set views pass half value (λ part. (refl, refl))
          (λ j u away is part. absurd (omega (
            arith,
            was.0,
            parts_of_two views pass j v u (λ e. away (sym e)) at is,
          )))),
    )
