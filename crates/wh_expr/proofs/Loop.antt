-- Reading instructions one after the other, as a loop does.
use Rattle.std.proofs.Common.{◌≡◌, ℕ, suc, ◌+◌, ◌-◌, ◌<◌, ◌≤◌, List, [], ◌∷◌, ◌++◌, drop, map, Some, None, Result, Ok, Err, refl, sym, ap, ◌∙◌, arith}
use Rattle.std.specs.List.{AllByRecursion}
use Rattle.std.proofs.lemmas.List.{map_push}
use Rattle.wh_model.specs.declared.faults.FaultKind.TheVariants.{Limit}
use Rattle.wh_model.specs.declared.Open.{Open}
use Rattle.wh_model.specs.Format.Syntax as model
use Rattle.wh_model.specs.declared.faults.DecodeError.{DecodeError}
use Rattle.wh_leb.specs.Reading.{◌>>=◌, head_of, with_front}
use Rattle.wh_leb.proofs.Combinators.{with_front-with_front}
use Rattle.wh_syntax.specs.declared.instr.Instr.{Instr}
use Rattle.wh_syntax.specs.Shown.{instr_of, InPool}
use Rattle.wh_syntax.proofs.Pool.{shown_more, pool_more, pool_push}
use Rattle.wh_expr.specs.ReadingCode.{instr_at, after_instr, goes_on, code_from}
use Rattle.wh_expr.specs.Stack.{Extends}

abbrev pub Read : Type 0
Read = Result (List model.Instr × ℕ) DecodeError

module _ (front : List model.Instr) (count k : ℕ) (stack : List Open) (b : List ℕ) (at : ℕ) (total : Read) (lt : k < count) (so-far : with_front front (code_from (count - k) stack b at) ≡ total) where
  one : code_from (count - k) stack b at ≡ (instr_at stack b at >>= λ i. goes_on (after_instr stack i.0) i.0 i.1 (λ inner. code_from (count - (k + 1)) inner b i.1))
  unfolding code_from
  one = let e : count - k ≡ suc (count - (k + 1)) = omega arith in rw e refl

  pub goes : (i : model.Instr) (next : ℕ) (inner : List Open) → instr_at stack b at ≡ Ok (i, next) → after_instr stack i ≡ Some inner → with_front (front ++ i ∷ []) (code_from (count - (k + 1)) inner b next) ≡ total
  goes i next inner e a =
      sym (with_front-with_front front (i ∷ []) (code_from (count - (k + 1)) inner b next))
      ∙ ap (λ o. with_front front (goes_on o i next (λ inner. code_from (count - (k + 1)) inner b next))) (sym a)
      ∙ ap (λ r. with_front front (r >>= λ j. goes_on (after_instr stack j.0) j.0 j.1 (λ inner. code_from (count - (k + 1)) inner b j.1))) (sym e)
      ∙ ap (with_front front) (sym one) ∙ so-far

  pub ends : (i : model.Instr) (next : ℕ) → instr_at stack b at ≡ Ok (i, next) → after_instr stack i ≡ None → total ≡ Ok (front ++ i ∷ [], next)
  ends i next e a =
      sym so-far ∙ ap (with_front front) one
      ∙ ap (λ r. with_front front (r >>= λ j. goes_on (after_instr stack j.0) j.0 j.1 (λ inner. code_from (count - (k + 1)) inner b j.1))) e
      ∙ ap (λ o. with_front front (goes_on o i next (λ inner. code_from (count - (k + 1)) inner b next))) a

  pub fails : (d : DecodeError) → instr_at stack b at ≡ Err d → total ≡ Err d
  fails d e =
      sym so-far ∙ ap (with_front front) one
      ∙ ap (λ r. with_front front (r >>= λ j. goes_on (after_instr stack j.0) j.0 j.1 (λ inner. code_from (count - (k + 1)) inner b j.1))) e

pub no_more : (front : List model.Instr) (count k : ℕ) (stack : List Open) (b : List ℕ) (at : ℕ) (total : Read) (d : DecodeError) → count ≤ k → with_front front (code_from (count - k) stack b at) ≡ total
    → head_of {A = List model.Instr} (λ _. Err Limit) (drop at b) at ≡ Err d → total ≡ Err d
unfolding code_from
no_more front count k stack b at total d le so-far e =
    let none : count - k ≡ 0 = omega arith in
    let here : with_front front (code_from (count - k) stack b at) ≡ Err d = rw none (ap (with_front front) e) in
    sym so-far ∙ here

-- one more instruction, whose labels may have gone into the pool
pub shown_push : (old new : List ℕ) (is : List Instr) (i : Instr) → Extends old new → AllByRecursion (InPool old) is → map (instr_of new) (is ++ i ∷ []) ≡ map (instr_of old) is ++ instr_of new i ∷ []
shown_push old new is i grown all =
    let same : map (instr_of new) is ≡ map (instr_of old) is = ap (λ (pool : List ℕ). map (instr_of pool) is) grown.1 ∙ shown_more old grown.0 is all in
    map_push (instr_of new) is i ∙ ap (λ (x : List model.Instr). x ++ (instr_of new i ∷ [])) same

pub in_pool_push : (old new : List ℕ) (is : List Instr) (i : Instr) → Extends old new → AllByRecursion (InPool old) is → InPool new i → AllByRecursion (InPool new) (is ++ i ∷ [])
in_pool_push old new is i grown all one = pool_push new is i (rw grown.1 (pool_more old grown.0 is all)) one
