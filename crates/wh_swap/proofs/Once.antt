-- Numbers that stand at most once.
use Rattle.std.proofs.Common.{◌≡◌, ℕ, zero, suc, ◌+◌, ◌<◌, ◌++◌, List, [], ◌∷◌, length, refl, subst, ◌∙◌, arith, inl, inr}
use Rattle.std.proofs.lemmas.Bool.{cases_eq, cases_lt}
use Rattle.std.proofs.lemmas.List.{append_assoc, length-append}
use Rattle.wh_space_model.specs.{tally, one_if, numbers_below}
use Rattle.wh_space_model.proofs.Tally.{tally-append, one_same, one_other, length-le_from_once}
use Rattle.wh_swap.specs.SlotParts.{AreOnce}

-- one more number that isn't there yet
pub once_given : (n s : ℕ) (xs : List ℕ) → AreOnce n xs → s < n → tally (one_if s) xs ≡ 0 → AreOnce n (xs ++ s ∷ [])
once_given n s xs were below new = record {
  once = λ f. elim (cases_eq f s) [
    | inl same ↦ rw same (omega (arith, tally-append (one_if s) xs (s ∷ []), one_same s s refl))
    | inr other ↦ omega (arith, tally-append (one_if f) xs (s ∷ []), one_other f s other, were.once f)
  ];
  below = λ f out. omega (arith, tally-append (one_if f) xs (s ∷ []), one_other f s (λ e. omega arith), were.below f out);
}

-- the last of them is gone
pub once_taken : (n s : ℕ) (xs ys : List ℕ) → xs ≡ ys ++ s ∷ [] → AreOnce n xs
    → AreOnce n ys × (s < n) × (tally (one_if s) ys ≡ 0)
once_taken n s xs ys is were =
    let all : (f : ℕ) → tally (one_if f) xs ≡ tally (one_if f) ys + (one_if f s + 0) = λ f. rw is (tally-append (one_if f) ys (s ∷ [])) in (
      record {
        once = λ f. omega (arith, all f, were.once f);
        below = λ f out. omega (arith, all f, were.below f out);
      },
      elim (cases_lt s n) [
        | inl less ↦ less
        | inr out ↦ absurd (omega (arith, all s, were.below s out, one_same s s refl))
      ],
      omega (arith, all s, were.once s, one_same s s refl),
    )

-- all numbers below n
pub once_below : (n : ℕ) → AreOnce n (numbers_below n)
once_below zero = record { once = λ f. omega arith; below = λ f out. refl }
once_below (suc n) = let rest = once_below n in record {
  once = λ f. elim (cases_eq f n) [
    | inl same ↦ omega (arith, one_same f n same, rest.below f (omega arith))
    | inr other ↦ omega (arith, one_other f n other, rest.once f)
  ];
  below = λ f out. omega (arith, one_other f n (λ e. omega arith), rest.below f (omega arith));
}

-- there is room for one that isn't there yet
pub once_room : (n s : ℕ) (xs : List ℕ) → AreOnce n xs → s < n → tally (one_if s) xs ≡ 0 → length xs < n
once_room n s xs were below new =
    let more = once_given n s xs were below new in
    omega (arith, length-le_from_once n (xs ++ s ∷ []) more.once more.below, length-append xs (s ∷ []))

-- the next number behind the ones that are there
pub numbers_next : (left next : ℕ) (xs ys all : List ℕ) → left ≡ next + 1 → ys ≡ xs ++ next ∷ []
    → xs ++ numbers_below left ≡ all → ys ++ numbers_below next ≡ all
numbers_next left next xs ys all step is kept =
    let e : left ≡ suc next = omega (arith, step) in
    rw is (append_assoc xs (next ∷ []) (numbers_below next) ∙ subst (λ n. xs ++ numbers_below n ≡ all) e kept)
