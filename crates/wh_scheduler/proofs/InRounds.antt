-- Rounds: runners that are free, and how many turns a round leaves.
use Rattle.std.proofs.Common.{◌≡◌, ◌≢◌, ◌∙◌, inl, inr, ◌+◌, ◌-◌, ◌<◌, ◌++◌, ℕ, zero, suc, List, [], ◌∷◌, Some, length, slice_get, slice_set, refl, sym, ap, subst, arith}
use Rattle.std.proofs.lemmas.Bool.{cases_eq}
use Rattle.std.proofs.lemmas.List.Sums.{sum_by-cons}
use Rattle.wh_space_model.proofs.Putting.{set_other, set_same}
use Rattle.wh_host.specs.declared.rounds.Runner.{Runner}
use Rattle.wh_host.specs.Rounds.{AllAreFree, IsFree}
use Rattle.wh_threads.specs.Working.{ReceivedTurnsState, turns_due}
use Rattle.wh_cell.specs.RoundCounts.{AreSpent, turns_by, turns_of_round}

pub free_pushed : (xs : List Runner) (y : Runner) → AllAreFree xs → IsFree y → AllAreFree (xs ++ y ∷ [])
free_pushed [] y all free zero z there = let same : y ≡ z = cc there in subst IsFree same free
free_pushed [] y all free (suc k) z there = absurd (cc there)
free_pushed (x ∷ xs) y all free zero z there = all zero z there
free_pushed (x ∷ xs) y all free (suc k) z there = free_pushed xs y (λ j. all (suc j)) free k z there

-- what was to be run is what is left, and what the round had
pub spent_turns : (ys : List Runner) (orders orders2 : List ReceivedTurnsState) → length ys ≡ length orders → length orders2 ≡ length orders → AreSpent ys orders orders2
    → turns_due orders2 + turns_of_round ys ≡ turns_due orders
spent_turns [] [] [] same same2 s = refl
spent_turns [] [] (x ∷ xs) same same2 s = absurd (cc same2)
spent_turns [] (o ∷ os) xs same same2 s = absurd (cc same)
spent_turns (y ∷ ys) [] xs same same2 s = absurd (cc same)
spent_turns (y ∷ ys) (o ∷ os) [] same same2 s = absurd (cc same2)
spent_turns (y ∷ ys) (o ∷ os) (x ∷ xs) same same2 s =
    let first = s.run zero y o refl refl in
    let is : x ≡ (let r : ReceivedTurnsState = record o { count = o.count - turns_by y.answer } in r) = cc first.1 in
    let count = ap (λ (z : ReceivedTurnsState). z.count) is in
    let more = spent_turns ys os xs (omega (arith, same)) (omega (arith, same2)) (record { run = λ k z p. s.run (suc k) z p; rest = λ k least. s.rest (suc k) (omega (arith, least)) }) in
    let after : turns_due (x ∷ xs) ≡ x.count + turns_due xs = sum_by-cons (λ (z : ReceivedTurnsState). z.count) x xs in
    let before : turns_due (o ∷ os) ≡ o.count + turns_due os = sum_by-cons (λ (z : ReceivedTurnsState). z.count) o os in
    let round : turns_of_round (y ∷ ys) ≡ turns_by y.answer + turns_of_round ys = sum_by-cons (λ (z : Runner). turns_by z.answer) y ys in
    omega (arith, count, first.0, more, after, before, round)

-- one of them is put in its place; what holds of it there, and held of all others, holds of each
pub each_next : (P : ℕ → Runner → Type 0) (ys : List Runner) (i k : ℕ) (y z : Runner) → i < length ys → slice_get (slice_set ys i y) k ≡ Some z → P i y
    → (k ≢ i → slice_get ys k ≡ Some z → P k z) → P k z
each_next P ys i k y z less there this others = elim (cases_eq k i) [
  | inl same ↦ (
      let is : y ≡ z = cc (sym (set_same ys i y less) ∙ ap (slice_get (slice_set ys i y)) (sym same) ∙ there) in
      subst (λ w. P k w) is (subst (λ j. P j y) (sym same) this))
  | inr other ↦ others other (sym (set_other ys i k y other) ∙ there)
]
