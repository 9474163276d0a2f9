-- Reading items one after the other, as a loop over their count does.
use Rattle.std.proofs.Common.{◌≡◌, ℕ, suc, ◌+◌, ◌-◌, ◌<◌, ◌≤◌, List, [], ◌∷◌, ◌++◌, Result, Ok, Err, refl, sym, ap, ◌∙◌, arith}
use Rattle.std.proofs.lemmas.List.{append-nil}
use Rattle.wh_model.specs.declared.faults.DecodeError.{DecodeError}
use Rattle.wh_leb.specs.Reading.{◌>>=◌, Reader, times_at, with_front}
use Rattle.wh_leb.proofs.Combinators.{with_front-with_front}

-- `front` was read before the item k of `count`, and with the rest it is the whole
module _ {A : Type 0} (read : Reader A) (front : List A) (count k : ℕ) (b : List ℕ) (at : ℕ) (total : Result (List A × ℕ) DecodeError) (lt : k < count) (so-far : with_front front (times_at (count - k) read b at) ≡ total) where
  one : times_at (count - k) read b at ≡ (read b at >>= λ x. times_at (count - (k + 1)) read b x.1 >>= λ xs. Ok (x.0 ∷ xs.0, xs.1))
  one = let e : count - k ≡ suc (count - (k + 1)) = omega arith in rw e refl

  pub goes : (x : A) (next : ℕ) → read b at ≡ Ok (x, next) → with_front (front ++ x ∷ []) (times_at (count - (k + 1)) read b next) ≡ total
  goes x next e =
      sym (with_front-with_front front (x ∷ []) (times_at (count - (k + 1)) read b next))
      ∙ ap (λ r. with_front front (r >>= λ x. times_at (count - (k + 1)) read b x.1 >>= λ xs. Ok (x.0 ∷ xs.0, xs.1))) (sym e)
      ∙ ap (with_front front) (sym one) ∙ so-far

  pub fails : (d : DecodeError) → read b at ≡ Err d → total ≡ Err d
  fails d e =
      sym so-far ∙ ap (with_front front) one
      ∙ ap (λ r. with_front front (r >>= λ x. times_at (count - (k + 1)) read b x.1 >>= λ xs. Ok (x.0 ∷ xs.0, xs.1))) e

pub is_done : {A : Type 0} (read : Reader A) (front : List A) (count k : ℕ) (b : List ℕ) (at : ℕ) (total : Result (List A × ℕ) DecodeError) → count ≤ k → with_front front (times_at (count - k) read b at) ≡ total → total ≡ Ok (front, at)
is_done read front count k b at total le so-far =
    let none : count - k ≡ 0 = omega arith in
    let here : with_front front (times_at (count - k) read b at) ≡ Ok (front, at) = rw none (ap (λ (xs : List _). Ok (xs, at)) (append-nil front)) in
    sym so-far ∙ here
