-- Two sets of numbers of which each has one partner in the other are as many.
use Rattle.std.proofs.Common.{◌≡◌, ◌≢◌, ℕ, ◌+◌, ◌-◌, ◌<◌, ◌≤◌, inl, inr, min, List, [], ◌∷◌, length, zero, suc, refl, sym, ap, ◌∙◌, arith}
use Rattle.std.proofs.lemmas.Bool.{cases_lt}
use Rattle.wh_space_model.specs.{tally, one_if, below}
use Rattle.wh_space_model.proofs.Tally.{one_same, one_other}
use Rattle.wh_space_model.proofs.Counting.{below_at}
use Rattle.wh_space_model.proofs.Putting.{here_or}
use Rattle.wh_space_model.proofs.Sums.{below_count, below_plus, below_zero}

below_each : (n : ℕ) (v w : ℕ → ℕ) → ((k : ℕ) → k < n → v k ≡ w k) → below n v ≡ below n w
below_each zero v w each = refl
below_each (suc n) v w each = let rest = below_each n v w (λ k less. each k (omega arith)) in let one = each n (omega arith) in omega arith

below_only : (n g : ℕ) (w : ℕ → ℕ) → g < n → ((k : ℕ) → k < n → k ≢ g → w k ≡ 0) → below n w ≡ w g
below_only zero g w less none = absurd (omega arith)
below_only (suc n) g w less none =
    elim (cases_lt g n) [
      | inl before ↦ let rest = below_only n g w before (λ k l other. none k (omega arith) other) in let last = none n (omega arith) (λ e. omega arith) in omega arith
      | inr most ↦
          (let e : n ≡ g = omega arith in
          let zeros = below_each n w (λ k. 0) (λ k l. none k (omega arith) (λ q. omega arith)) in
          let z = below_zero n in
          let last : w n ≡ w g = ap w e in
          omega arith)
    ]

-- a sum of sums may be taken in either order
below_swap : (n m : ℕ) (w : ℕ → ℕ → ℕ) → below n (λ f. below m (λ k. w f k)) ≡ below m (λ k. below n (λ f. w f k))
below_swap zero m w = sym (below_zero m)
below_swap (suc n) m w = let rest = below_swap n m w in let parts = below_plus m (λ k. below n (λ f. w f k)) (λ k. w n k) in omega arith

-- of the numbers below n, those for which u is 1 have each a partner below m, and each number below m has one of them
pub as_many : (n m : ℕ) (u to from : ℕ → ℕ) → ((f : ℕ) → f < n → u f ≤ 1) → ((f : ℕ) → f < n → u f ≡ 1 → (to f < m) × (from (to f) ≡ f)) → ((k : ℕ) → k < m → (from k < n) × (u (from k) ≡ 1) × (to (from k) ≡ k))
    → below n u ≡ m
as_many n m u to from few there back =
    let w : ℕ → ℕ → ℕ = λ f k. min (u f) (one_if k (to f)) in
    let rows : below n u ≡ below n (λ f. below m (λ k. w f k)) = below_each n u (λ f. below m (λ k. w f k)) (λ f less. sym (row w f less)) in
    let columns : below m (λ k. below n (λ f. w f k)) ≡ below m (λ k. 1) = below_each m (λ k. below n (λ f. w f k)) (λ k. 1) (λ k less. column k less) in
    rows ∙ (below_swap n m w ∙ (columns ∙ below_count m)) where
      row : (w : ℕ → ℕ → ℕ) (f : ℕ) → f < n → below m (λ k. min (u f) (one_if k (to f))) ≡ u f
      row w f less =
          elim (here_or 1 (u f)) [
            | inl one ↦
                (let t = there f less one in
                let sum = below_only m (to f) (λ k. min (u f) (one_if k (to f))) t.0 (λ k l other. (let o = one_other k (to f) other in omega arith)) in
                let o = one_same (to f) (to f) refl in
                omega arith)
            | inr other ↦
                (let at_most = few f less in
                let none : u f ≡ 0 = omega (arith, at_most, other) in
                let zeros = below_each m (λ k. min (u f) (one_if k (to f))) (λ k. 0) (λ k l. omega arith) in
                let z = below_zero m in
                omega arith)
          ]

      column : (k : ℕ) → k < m → below n (λ f. min (u f) (one_if k (to f))) ≡ 1
      column k less =
          let b = back k less in
          let sum = below_only n (from k) (λ f. min (u f) (one_if k (to f))) b.0 (λ f l other. elim (here_or 1 (u f)) [
            | inl one ↦ (let t = there f l one in let apart : k ≢ to f = λ e. other (sym t.1 ∙ ap from (sym e)) in let o = one_other k (to f) apart in omega arith)
            | inr none ↦ (let at_most = few f l in omega (arith, at_most, none))
          ]) in
          let o = one_same k (to (from k)) (sym b.2) in
          let one = b.1 in
          omega arith

-- a list of numbers below n
pub list_sum : (n : ℕ) (xs : List ℕ) → ((f : ℕ) → n ≤ f → tally (one_if f) xs ≡ 0) → below n (λ k. tally (one_if k) xs) ≡ length xs
list_sum n [] none = below_zero n
list_sum n (x ∷ xs) none =
    let within : x < n = elim (cases_lt x n) [ inl less ↦ less | inr past ↦ absurd (let z = none x past in let o = one_same x x refl in omega arith) ] in
    let rest = list_sum n xs (λ f past. (let z = none f past in omega arith)) in
    let parts = below_plus n (λ k. one_if k x) (λ k. tally (one_if k) xs) in
    let one = below_at n x (λ k. one_if k x) within (λ k other. one_other k x other) in
    let o = one_same x x refl in
    omega arith

pub rest_sum : (n : ℕ) (t : ℕ → ℕ) → ((f : ℕ) → f < n → t f ≤ 1) → below n (λ f. 1 - t f) + below n t ≡ n
rest_sum n t few =
    let parts = below_plus n (λ f. 1 - t f) t in
    let ones = below_each n (λ f. (1 - t f) + t f) (λ f. 1) (λ f less. (let k = few f less in omega arith)) in
    let all = below_count n in
    omega arith
