-- What a caller is told of a reader, from the laws of reading.
use Rattle.std.proofs.Common.{◌≡◌, ◌≢◌, ℕ, ◌≤◌, ◌+◌, ◌++◌, List, length, drop, Result, Ok, Err, sym, subst, ◌∙◌}
use Rattle.std.specs.Prelude.{IfOk, IfErr}
use Rattle.wh_model.specs.declared.faults.FaultKind.TheVariants.{Memory}
use Rattle.wh_model.specs.declared.faults.DecodeError.{DecodeError}
use Rattle.wh_model.specs.Format.Grammar.{Grammar}
use Rattle.wh_leb.specs.Reading.{ReadsBy, Anything, Gives, IsFound, Broken, Complete}

module _ {A : Type 0} (g : Grammar A) (read : List ℕ → ℕ → Result (A × ℕ) DecodeError) (law : ReadsBy Anything g read) (b : List ℕ) (at : ℕ) (le : at ≤ length b) where
  pub is_found : (r : Result (A × ℕ) DecodeError) → r ≡ read b at → IfOk r (λ x. IsFound g b at x.0 x.1)
  is_found (Ok x) e = law.found b at x.0 x.1 le (sym e)
  is_found (Err d) e = tt

  pub is_broken : (r : Result (A × ℕ) DecodeError) → r ≡ read b at → IfErr r (λ d. Broken g b at d)
  is_broken (Ok x) e = tt
  is_broken (Err d) e = law.fault b at d le (sym e)

  pub is_complete : (r : Result (A × ℕ) DecodeError) → r ≡ read b at → Complete g b at r
  is_complete r e x t u parts w = e ∙ law.only b at x t u le parts tt w

-- the same of a reader that may run out of memory
module _ {X A : Type 0} (view : X → A × ℕ) (g : Grammar A) (read : List ℕ → ℕ → Result (A × ℕ) DecodeError) (law : ReadsBy Anything g read) (b : List ℕ) (at : ℕ) (le : at ≤ length b) where
  pub gives_found : (r : Result X DecodeError) → Gives view r (read b at) → IfOk r (λ x. IsFound g b at (view x).0 (view x).1)
  gives_found (Ok x) e = law.found b at (view x).0 (view x).1 le e
  gives_found (Err d) e = tt

  pub gives_broken : (r : Result X DecodeError) → Gives view r (read b at) → IfErr r (λ d. d.kind ≢ Memory → Broken g b at d)
  gives_broken (Ok x) e = tt
  gives_broken (Err d) e = λ other. law.fault b at d le (e other)

  pub gives_complete : (r : Result X DecodeError) → Gives view r (read b at) → (x : A) (t u : List ℕ) → drop at b ≡ t ++ u → g.within x t → Gives view r (Ok (x, at + length t))
  gives_complete r e x t u parts w = subst (λ (q : Result (A × ℕ) DecodeError). Gives view r q) (law.only b at x t u le parts tt w) e
