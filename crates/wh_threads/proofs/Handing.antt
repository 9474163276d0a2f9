-- Each call of the channel keeps its rule.
use Rattle.std.proofs.Common.{◌≡◌, ◌≢◌, ℕ, zero, suc, ◌+◌, ◌-◌, ◌<◌, List, [], ◌∷◌, ◌++◌, set, refl, sym, ap, ◌∙◌, subst, ⊎_elim, arith}
use mathlib.Core.Option.{some, some-ne-none, some-injective}
use lib.ListN.{get_elem?}
use Rattle.std.specs.List.{sum_by}
use Rattle.std.proofs.lemmas.List.Sums.{sum_by-cons, sum_by-append}
use Rattle.crossbeam_channel.specs.Fifo.{Pushes, Pops, Forks, Merges, Learns}
use Rattle.atomic_table.proofs.Lists.{at_set, at_snoc}
use Rattle.wh_threads.specs.declared.channel.Traffic.{Traffic}
use Rattle.wh_threads.specs.Handover.{traffic, IdleIsEmpty, Balanced}
use Rattle.wh_threads.proofs.Views.{sum_by-view, sum_by-new, sum_by-one}

abbrev parts_of : {M : Type 0} → Traffic M → ℕ
parts_of v = v.parts

-- where no view has a part, and f of such a view is 0, the sum is 0
sum_by-none : {M : Type 0} (f : Traffic M → ℕ) (views : List (Traffic M))
    → ((pass : ℕ) (v : Traffic M) → get_elem? views pass ≡ some v → v.parts ≡ 0 → f v ≡ 0)
    → sum_by parts_of views ≡ 0 → sum_by f views ≡ 0
sum_by-none f [] idle none = refl
sum_by-none f (x ∷ xs) idle none =
    let more = sum_by-cons parts_of x xs in
    omega (
      arith,
      sum_by-cons f x xs,
      idle 0 x refl (omega arith),
      sum_by-none f xs (λ pass v at. idle (suc pass) v at) (omega arith),
    )

-- where one view has all parts, the sum is what it has
sum_by-whole : {M : Type 0} (f : Traffic M → ℕ) (views : List (Traffic M)) (pass : ℕ) (v : Traffic M)
    → ((p : ℕ) (u : Traffic M) → get_elem? views p ≡ some u → u.parts ≡ 0 → f u ≡ 0)
    → get_elem? views pass ≡ some v → sum_by parts_of views ≡ v.parts → sum_by f views ≡ f v
sum_by-whole f [] pass v idle at all = absurd (some-ne-none v (sym at))
sum_by-whole f (x ∷ xs) zero v idle at all =
    let same = some-injective x v at in
    let parts : x.parts ≡ v.parts = ap parts_of same in
    let more = sum_by-cons parts_of x xs in
    let rest = sum_by-none f xs (λ pass u is. idle (suc pass) u is) (omega arith) in
    omega (arith, sum_by-cons f x xs, rest, ap f same)
sum_by-whole f (x ∷ xs) (suc pass) v idle at all =
    let more = sum_by-cons parts_of x xs in
    let has = sum_by-one parts_of xs pass v at in
    let none : x.parts ≡ 0 = omega arith in
    let rest = sum_by-whole f xs pass v (λ p u is. idle (suc p) u is) at (omega arith) in
    omega (arith, sum_by-cons f x xs, rest, idle 0 x refl none)

idle_set : {M : Type 0} (views : List (Traffic M)) (pass : ℕ) (w : Traffic M) → (w.parts ≡ 0 → (w.sent ≡ []) × (w.received ≡ []))
    → IdleIsEmpty views → IdleIsEmpty (set views pass w)
idle_set {M = M} views pass w mine idle j u at none =
    ⊎_elim (λ (x : (j ≡ pass) × (w ≡ u)).
    subst (λ (y : Traffic M). (y.parts ≡ 0 → (y.sent ≡ []) × (y.received ≡ []))) x.1 mine none)
    (λ (x : (j ≢ pass) × (get_elem? views j ≡ some u)). idle j u x.1 none) (at_set views pass j w u at)

idle_new : {M : Type 0} (views : List (Traffic M)) (w : Traffic M) → (w.parts ≡ 0 → (w.sent ≡ []) × (w.received ≡ []))
    → IdleIsEmpty views → IdleIsEmpty (views ++ w ∷ [])
idle_new {M = M} views w mine idle j u at none =
    ⊎_elim (λ x. idle j u x none)
    (λ (is : w ≡ u). subst (λ (y : Traffic M). (y.parts ≡ 0 → (y.sent ≡ []) × (y.received ≡ []))) is mine none)
    (at_snoc views w u j at)

pub begins : {M : Type 0} → Balanced {M = M} [] (traffic 128 [] [] ∷ [])
begins {M = M} = (refl, λ weight. refl, λ pass v at none. begun pass v at none) where
  begun : (pass : ℕ) (v : Traffic M) → get_elem? (traffic 128 [] [] ∷ []) pass ≡ some v → v.parts ≡ 0
      → (v.sent ≡ []) × (v.received ≡ [])
  begun zero v at none =
      let parts : 128 ≡ v.parts = ap parts_of (some-injective (traffic 128 [] []) v at) in absurd (omega arith)
  begun (suc pass) v at none = absurd (some-ne-none v (sym at))

-- one view with a part changes to one with as many, and what it adds is what the channel has more or less
changes : {M : Type 0} (held later : List M) (views : List (Traffic M)) (pass : ℕ) (v w : Traffic M) → get_elem? views pass ≡ some v
    → 0 < v.parts → w.parts ≡ v.parts
    → ((weight : M → ℕ) → sum_by weight w.sent + sum_by weight v.received + sum_by weight held
    ≡ sum_by weight v.sent + sum_by weight w.received + sum_by weight later)
    → Balanced held views → Balanced later (set views pass w)
changes held later views pass v w at part same moved was = (
  omega (arith, was.0, same, sum_by-view parts_of views pass v w at),
  λ weight. omega (
    arith,
    was.1 weight,
    moved weight,
    sum_by-view (λ u. sum_by weight u.sent) views pass v w at,
    sum_by-view (λ u. sum_by weight u.received) views pass v w at,
  ),
  idle_set views pass w (λ none. absurd (omega arith)) was.2,
)

pub sends : {M : Type 0} (n pass : ℕ) (v : Traffic M) (x : M) → 0 < v.parts
    → Pushes Balanced n pass v x (λ w. w ≡ traffic v.parts (v.sent ++ x ∷ []) v.received)
sends n pass v x part held views room was at = (
  traffic v.parts (v.sent ++ x ∷ []) v.received,
  changes held (held ++ x ∷ []) views pass v _ at part refl
      (λ weight. omega (arith, sum_by-new weight v.sent x, sum_by-new weight held x)) was,
  refl,
)

pub receives : {M : Type 0} (pass : ℕ) (v : Traffic M) → 0 < v.parts
    → Pops Balanced pass v (λ x w. w ≡ traffic v.parts v.sent (v.received ++ x ∷ []))
receives pass v part x held views was at = (
  traffic v.parts v.sent (v.received ++ x ∷ []),
  changes (x ∷ held) held views pass v _ at part refl
      (λ weight. omega (arith, sum_by-new weight v.received x, sum_by-cons weight x held)) was,
  refl,
)

pub forks : {M : Type 0} (pass : ℕ) (v : Traffic M) → 1 < v.parts
    → Forks Balanced pass v (traffic (v.parts - 1) v.sent v.received) (traffic 1 [] [])
forks pass v parts held views was at =
    let left = traffic (v.parts - 1) v.sent v.received in
    let one = traffic 1 [] [] in
    let rest = set views pass left in (
      omega (arith, was.0, sum_by-view parts_of views pass v left at, sum_by-new parts_of rest one),
      (λ weight. omega (
        arith,
        was.1 weight,
        sum_by-view (λ u. sum_by weight u.sent) views pass v left at,
        sum_by-view (λ u. sum_by weight u.received) views pass v left at,
        sum_by-new (λ u. sum_by weight u.sent) rest one,
        sum_by-new (λ u. sum_by weight u.received) rest one,
      )),
      idle_new rest one (λ none. absurd (omega arith))
          (idle_set views pass left (λ none. absurd (omega arith)) was.2),
    )

pub merges : {M : Type 0} (pass : ℕ) (v : Traffic M) (other : ℕ) (w : Traffic M) → 0 < v.parts
    → Merges Balanced pass v other w (traffic (v.parts + w.parts) (v.sent ++ w.sent) (v.received ++ w.received))
    (traffic 0 [] [])
merges pass v other w part held views was at two at2 =
    let both = traffic (v.parts + w.parts) (v.sent ++ w.sent) (v.received ++ w.received) in
    let spent = traffic 0 [] [] in
    let rest = set views pass both in (
      omega (arith, was.0, sum_by-view parts_of views pass v both at, sum_by-view parts_of rest other w spent at2),
      (λ weight. omega (
        arith,
        was.1 weight,
        sum_by-view (λ u. sum_by weight u.sent) views pass v both at,
        sum_by-view (λ u. sum_by weight u.received) views pass v both at,
        sum_by-view (λ u. sum_by weight u.sent) rest other w spent at2,
        sum_by-view (λ u. sum_by weight u.received) rest other w spent at2,
        sum_by-append weight v.sent w.sent,
        sum_by-append weight v.received w.received,
      )),
      idle_set rest other spent (λ none. (refl, refl))
          (idle_set views pass both (λ none. absurd (omega arith)) was.2),
    )

-- who has all parts knows what the channel holds
pub learns : {M : Type 0} (pass : ℕ) (v : Traffic M) → v.parts ≡ 128
    → Learns Balanced pass v
    (λ held. (weight : M → ℕ) → sum_by weight v.sent ≡ sum_by weight v.received + sum_by weight held)
learns pass v all held views was at weight =
    let whole : sum_by parts_of views ≡ v.parts = was.0 ∙ sym all in
    omega (
      arith,
      was.1 weight,
      sum_by-whole (λ u. sum_by weight u.sent) views pass v
          (λ p u is none. ap (sum_by weight) (was.2 p u is none).0) at whole,
      sum_by-whole (λ u. sum_by weight u.received) views pass v
          (λ p u is none. ap (sum_by weight) (was.2 p u is none).1) at whole,
    )
