-- What an instruction without labels leaves of the pool.
use Rattle.std.proofs.Common.{ℕ, ◌≤◌, List, [], length, Result, Ok, Err, sym, arith}
use Rattle.std.specs.Prelude.{IfOk}
use Rattle.std.proofs.lemmas.List.{append-nil}
use Rattle.wh_model.specs.declared.faults.DecodeError.{DecodeError}
use Rattle.wh_syntax.specs.declared.instr.Instr.{Instr}
use Rattle.wh_syntax.specs.Shown.{InPool}
use Rattle.wh_expr.specs.Stack.{Extends}

module _ (labels : List ℕ) (at : ℕ) (paid : length labels ≤ at) where
  pub is_in_pool : (r : Result (Instr × ℕ) DecodeError) → IfOk r (λ found. (pool : List ℕ) → InPool pool found.0) → IfOk r (λ found. InPool labels found.0)
  is_in_pool (Ok x) every = every labels
  is_in_pool (Err e) every = tt

  pub grows_none : (r : Result (Instr × ℕ) DecodeError) → IfOk r (λ found. Extends labels labels)
  grows_none (Ok x) = ([], sym (append-nil labels))
  grows_none (Err e) = tt

  pub is_paid : (r : Result (Instr × ℕ) DecodeError) → IfOk r (λ found. at ≤ found.1) → IfOk r (λ found. length labels ≤ found.1)
  is_paid (Ok x) further = omega arith
  is_paid (Err e) further = tt
