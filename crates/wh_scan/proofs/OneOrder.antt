-- There is one order of all pages: two lists of them are the same.
use Rattle.std.proofs.Common.{◌≡◌, ◌<◌, ℕ, inl, inr, List, [], ◌∷◌, Some, slice_get, zero, suc, refl, sym, ap, subst, arith}
use Rattle.wh_space_model.specs.{occupant_number, Space}
use Rattle.wh_scan.specs.Pass.{AreAllPages, ComesFirst}

abbrev Has : List (ℕ × ℕ) → ℕ × ℕ → Type 0
Has xs x = (k : ℕ) × (slice_get xs k ≡ Some x)

abbrev IsOrdered : Space → List (ℕ × ℕ) → Type 0
IsOrdered s xs = (j k : ℕ) (x y : ℕ × ℕ) → j < k → slice_get xs j ≡ Some x → slice_get xs k ≡ Some y → ComesFirst s x y

never_both : (s : Space) (x y : ℕ × ℕ) → ComesFirst s x y → ¬ ComesFirst s y x
never_both s x y (inl less) (inl more) = absurd (omega arith)
never_both s x y (inl less) (inr (place, page)) = absurd (let e = ap (occupant_number s) place in omega arith)
never_both s x y (inr (place, page)) (inl more) = absurd (let e = ap (occupant_number s) place in omega arith)
never_both s x y (inr (place, less)) (inr (same, more)) = absurd (omega arith)

first_same : (s : Space) (x y : ℕ × ℕ) (xs ys : List (ℕ × ℕ)) → IsOrdered s (x ∷ xs) → IsOrdered s (y ∷ ys) → Has (y ∷ ys) x → Has (x ∷ xs) y → x ≡ y
first_same s x y xs ys one other (zero, is) has = sym (cc is)
first_same s x y xs ys one other (suc k, is) (zero, at) = cc at
first_same s x y xs ys one other (suc k, is) (suc j, at) =
    absurd (never_both s x y (one 0 (suc j) x y (omega arith) refl at) (other 0 (suc k) y x (omega arith) refl is))

rest_in : (s : Space) (x : ℕ × ℕ) (xs ys : List (ℕ × ℕ)) → IsOrdered s (x ∷ xs) → ((z : ℕ × ℕ) → Has (x ∷ xs) z → Has (x ∷ ys) z) → (z : ℕ × ℕ) → Has xs z → Has ys z
rest_in s x xs ys ordered into z (k, at) = go (into z (suc k, at)) where
  go : Has (x ∷ ys) z → Has ys z
  go (suc m, there) = (m, there)
  go (zero, there) =
      let same : x ≡ z = cc there in
      let itself : ComesFirst s x x = subst (ComesFirst s x) (sym same) (ordered 0 (suc k) x z (omega arith) refl at) in
      absurd (never_both s x x itself itself)

same_pages : (s : Space) (xs ys : List (ℕ × ℕ)) → IsOrdered s xs → IsOrdered s ys → ((z : ℕ × ℕ) → Has xs z → Has ys z) → ((z : ℕ × ℕ) → Has ys z → Has xs z) → xs ≡ ys
same_pages s [] [] one other to back = refl
same_pages s [] (y ∷ ys) one other to back = absurd (cc (back y (0, refl)).1)
same_pages s (x ∷ xs) [] one other to back = absurd (cc (to x (0, refl)).1)
same_pages s (x ∷ xs) (y ∷ ys) one other to back =
    let same : x ≡ y = first_same s x y xs ys one other (to x (0, refl)) (back y (0, refl)) in
    let to_same : (z : ℕ × ℕ) → Has (x ∷ xs) z → Has (x ∷ ys) z = λ z has. subst (λ (w : ℕ × ℕ). Has (w ∷ ys) z) (sym same) (to z has) in
    let back_same : (z : ℕ × ℕ) → Has (y ∷ ys) z → Has (y ∷ xs) z = λ z has. subst (λ (w : ℕ × ℕ). Has (w ∷ xs) z) same (back z has) in
    let rest : xs ≡ ys =
    same_pages s xs ys (λ j k a b less at there. one (suc j) (suc k) a b (omega arith) at there) (λ j k a b less at there. other (suc j) (suc k) a b (omega arith) at there)
    (rest_in s x xs ys one to_same) (rest_in s y ys xs other back_same) in
    cc

pub one_order : (s : Space) (xs ys : List (ℕ × ℕ)) → AreAllPages s xs → AreAllPages s ys → xs ≡ ys
one_order s xs ys one other =
    same_pages s xs ys one.in_order other.in_order (λ z has. (other.each z.0 z.1).1 ((one.each z.0 z.1).0 has)) (λ z has. (one.each z.0 z.1).1 ((other.each z.0 z.1).0 has))
