-- Runs of locals, as a loop reads them.
use Rattle.std.proofs.Common.{◌≡◌, ℕ, suc, ◌+◌, ◌-◌, ◌<◌, ◌≤◌, List, ◌++◌, Result, Ok, Err, sym, ap, ◌∙◌, arith}
use Rattle.std.proofs.lemmas.List.{append-nil}
use Rattle.std.proofs.Math.ListN.{replicate}
use Rattle.wh_model.specs.declared.ValType.{ValType}
use Rattle.wh_model.specs.Format.{value_type}
use Rattle.wh_model.specs.declared.faults.DecodeError.{DecodeError}
use Rattle.wh_leb.specs.Reading.{◌>>=◌, one_at, limited_at, u32_at, with_front}
use Rattle.wh_leb.proofs.Combinators.{with_front-with_front}
use Rattle.wh_decode.specs.ReadingModule.{runs_at}

module _ (front : List ValType) (count k declared : ℕ) (b : List ℕ) (at : ℕ) (total : Result (List ValType × ℕ) DecodeError) (lt : k < count) (so-far : with_front front (runs_at (count - k) declared b at) ≡ total) where
  abbrev next_run : Result (ℕ × ℕ) DecodeError → Result (List ValType × ℕ) DecodeError
  next_run r = with_front front (r >>= λ n. one_at value_type b n.1 >>= λ t. runs_at (count - (k + 1)) (declared + n.0) b t.1 >>= λ rest. Ok (replicate n.0 t.0 ++ rest.0, rest.1))

  run : next_run (limited_at (256 - declared) u32_at b at) ≡ total
  unfolding runs_at
  run = let e : count - k ≡ suc (count - (k + 1)) = omega arith in rw e at so-far

  pub run_goes : (n mid : ℕ) (t : ValType) (next : ℕ) → Ok (n, mid) ≡ limited_at (256 - declared) u32_at b at → Ok (t, next) ≡ one_at value_type b mid → with_front (front ++ replicate n t) (runs_at (count - (k + 1)) (declared + n) b next) ≡ total
  run_goes n mid t next e f =
      sym (with_front-with_front front (replicate n t) (runs_at (count - (k + 1)) (declared + n) b next))
      ∙ ap (λ r. with_front front (r >>= λ q. runs_at (count - (k + 1)) (declared + n) b q.1 >>= λ rest. Ok (replicate n q.0 ++ rest.0, rest.1))) f
      ∙ ap next_run e ∙ run

  pub run_no_count : (d : DecodeError) → Err d ≡ limited_at (256 - declared) u32_at b at → total ≡ Err d
  run_no_count d e = sym run ∙ ap next_run (sym e)

  pub run_no_type : (n mid : ℕ) (d : DecodeError) → Ok (n, mid) ≡ limited_at (256 - declared) u32_at b at → Err d ≡ one_at value_type b mid → total ≡ Err d
  run_no_type n mid d e f =
      sym run ∙ ap next_run (sym e)
      ∙ ap (λ r. with_front front (r >>= λ q. runs_at (count - (k + 1)) (declared + n) b q.1 >>= λ rest. Ok (replicate n q.0 ++ rest.0, rest.1))) (sym f)

pub runs_done : (front : List ValType) (count k declared : ℕ) (b : List ℕ) (at : ℕ) (total : Result (List ValType × ℕ) DecodeError) → count ≤ k → with_front front (runs_at (count - k) declared b at) ≡ total → total ≡ Ok (front, at)
unfolding runs_at
runs_done front count k declared b at total le so-far =
    let none : count - k ≡ 0 = omega arith in
    let here : with_front front (runs_at (count - k) declared b at) ≡ Ok (front, at) = rw none (ap (λ (xs : List ValType). Ok (xs, at)) (append-nil front)) in
    sym so-far ∙ here
