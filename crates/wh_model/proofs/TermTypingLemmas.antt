-- Typing taken apart: what the type of a sequence says of its first instruction, and a term's of its innermost one.
use Rattle.std.proofs.Common.{◌≡◌, ℕ, zero, suc, ◌≤◌, List, [], ◌∷◌, ◌++◌, length, drop, Option, Some, None, slice_get, refl, subst, arith, rules}
use Rattle.std.proofs.lemmas.List.{append-nil}
use Rattle.wh_model.specs.declared.ValType.{ValType}
use Rattle.wh_model.specs.declared.ValType.TheVariants.{I32}
use Rattle.wh_model.specs.Format.{Op, Code, nothing, plain, block, loop, if_then, if_else}
use Rattle.wh_model.specs.Validity.{Context, under, operand, OpType, HasType, no_more, then_op, then_block, then_loop, then_if, then_if_else}
use Rattle.wh_model.specs.Execution.{Value, Term, arity, Block, hole, inner}
use Rattle.wh_model.specs.Soundness.{AreOfTypes, TermType}

-- ---- sequences

-- what the type of a sequence says of its first instruction
abbrev pub Parts : Context → Code → List ValType → List ValType → Type 0
Parts c nothing ins outs = ins ≡ outs
Parts c (plain op rest) ins outs =
    (a b below : List ValType) × (ins ≡ a ++ below) × OpType c op a b × HasType c rest (b ++ below) outs
Parts c (block t body rest) ins outs = HasType (under t c) body [] (operand t) × HasType c rest (operand t ++ ins) outs
Parts c (loop t body rest) ins outs =
    HasType (under None c) body [] (operand t) × HasType c rest (operand t ++ ins) outs
Parts c (if_then t first rest) ins outs =
    (below : List ValType) × (ins ≡ I32 ∷ below) × HasType (under t c) first [] (operand t)
    × HasType (under t c) nothing [] (operand t) × HasType c rest (operand t ++ below) outs
Parts c (if_else t first second rest) ins outs =
    (below : List ValType) × (ins ≡ I32 ∷ below) × HasType (under t c) first [] (operand t)
    × HasType (under t c) second [] (operand t) × HasType c rest (operand t ++ below) outs

pub parts : {c : Context} {is : Code} {ins outs : List ValType} → HasType c is ins outs → Parts c is ins outs
parts no_more = refl
parts (then_op a b below h p) = (a, b, below, refl, h, p)
parts (then_block p r) = (p, r)
parts (then_loop p r) = (p, r)
parts (then_if {below = below} p n r) = (below, refl, p, n, r)
parts (then_if_else {below = below} p n r) = (below, refl, p, n, r)

-- the same over types that are equal
pub taking : (vs : List Value) (below : List ValType) {x y : List ValType} → x ≡ y → AreOfTypes vs (x ++ below)
    → AreOfTypes vs (y ++ below)
taking vs below e h = subst (λ w. AreOfTypes vs (w ++ below)) e h

pub giving : (c : Context) (is : Code) (below outs : List ValType) {x y : List ValType} → x ≡ y
    → HasType c is (x ++ below) outs → HasType c is (y ++ below) outs
giving c is below outs e h = subst (λ w. HasType c is (w ++ below) outs) e h

-- an instruction without a body over its operands
pub record Stands (c : Context) (op : Op) (rest : Code) (vs : List Value) (outs : List ValType) : Type 0 where
  pub ins : List ValType
  pub gives : List ValType
  pub below : List ValType
  pub is_op : OpType c op ins gives
  pub over : AreOfTypes vs (ins ++ below)
  pub goes : HasType c rest (gives ++ below) outs

pub stands : {c : Context} {op : Op} {rest : Code} {ins outs : List ValType} (vs : List Value) → AreOfTypes vs ins
    → HasType c (plain op rest) ins outs → Stands c op rest vs outs
stands vs h t = search rules

-- ---- results of one value at most

pub arity_length : (t : Option ValType) → arity t ≡ length (operand t)
arity_length None = refl
arity_length (Some t) = refl

-- an empty sequence leaves its operands
pub gives_all : (c : Context) (ts : List ValType) → HasType c nothing (ts ++ []) ts
gives_all c ts = subst (λ w. HasType c nothing (ts ++ []) w) (append-nil ts) no_more

-- ---- block contexts

pub drop_at : {X : Type 0} (k : ℕ) (xs : List X) (y : X) (ys : List X) → drop k xs ≡ y ∷ ys → (slice_get xs k ≡ Some y)
    × (drop (suc k) xs ≡ ys)
drop_at zero [] y ys e = absurd (cc e)
drop_at zero (x ∷ xs) y ys e = (cc e, cc e)
drop_at (suc k) [] y ys e = absurd (cc e)
drop_at (suc k) (x ∷ xs) y ys e = drop_at k xs y ys e

pub none_behind : {X : Type 0} (k l : ℕ) (xs : List X) (y : X) → drop k xs ≡ [] → k ≤ l → slice_get xs l ≡ Some y → ⊥
none_behind zero l [] y e low at = absurd (cc at)
none_behind zero l (x ∷ xs) y e low at = absurd (cc e)
none_behind (suc k) zero xs y e low at = absurd (omega arith)
none_behind (suc k) (suc l) [] y e low at = absurd (cc at)
none_behind (suc k) (suc l) (x ∷ xs) y e low at = none_behind k l xs y e (omega (arith, low)) at

-- What stands inside k labels is typed in a context of k more labels, with the same result.
pub record Inside (k : ℕ) (c : Context) (vs : List Value) (is : Code) : Type 0 where
  pub around : Context
  pub ins : List ValType
  pub outs : List ValType
  pub over : AreOfTypes vs ins
  pub goes : HasType around is ins outs
  pub result : around.result ≡ c.result
  pub labels : drop k around.labels ≡ c.labels

pub block_typed : {k : ℕ} {t : Term} {vs : List Value} {is : Code} → Block k t vs is
    → (m c : Context) (outs : List ValType) → TermType m c t outs → Inside k c vs is
block_typed hole m c outs (ins, over, goes) = search rules
block_typed (inner {k = k} b) m c outs (below, ends, takes, over, n, next, inside, behind) =
    let x = block_typed b m (under takes c) ends inside in
    record {
      around = x.around;
      ins = x.ins;
      outs = x.outs;
      over = x.over;
      goes = x.goes;
      result = x.result;
      labels = (drop_at k x.around.labels takes c.labels x.labels).1;
    }
