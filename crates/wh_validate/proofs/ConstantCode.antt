-- An expression of two instructions is constant exactly if its first one is.
use Rattle.std.proofs.Common.{◌≡◌, ℕ, List, [], ◌∷◌, ◌++◌, length, map, get_or, refl, sym, ap, subst, arith, ◌∙◌, ⊎_elim, inl, inr, Some, slice_get, length-append, ℤ}
use Rattle.wh_model.specs.declared.ValType.{ValType}
use Rattle.wh_model.specs.declared.ValType.TheVariants.{I32, I64}
use Rattle.wh_model.specs.declared.Mutability.TheVariants.{Const}
use Rattle.wh_model.specs.Format.Syntax as model
use Rattle.wh_model.specs.Format.{Op, i32_const, i64_const, global_get, Code, nothing, plain, block, loop, if_then, if_else, single, flatten, expression, end_mark, GlobalType}
use Rattle.wh_model.specs.Validity.{ConstantOf}
use Rattle.wh_syntax.specs.declared.instr.Instr.{Instr}
use Rattle.wh_syntax.specs.declared.instr.Instr.TheVariants.{I32Const, I64Const, GlobalGet}
use Rattle.wh_syntax.specs.Shown.{instr_of}
use Rattle.wh_validate.specs.ConstantInstructions.{IsConstant}
use Rattle.wh_validate.proofs.Deciding.{Same}

-- ---- two instructions

abbrev IsLast : List model.Instr → Code → Type 0
IsLast b rest = b ≡ flatten rest ++ end_mark ∷ []

only_end : (b : model.Instr) (rest : Code) → IsLast (b ∷ []) rest → rest ≡ nothing
only_end b nothing e = refl
only_end b (plain op rest) e = absurd (let h = ap length e in let l = length-append (flatten rest) (end_mark ∷ []) in omega (arith, h, l))
only_end b (block t body rest) e = absurd (let h = ap length e in let l = length-append (flatten body ++ end_mark ∷ flatten rest) (end_mark ∷ []) in omega (arith, h, l))
only_end b (loop t body rest) e = absurd (let h = ap length e in let l = length-append (flatten body ++ end_mark ∷ flatten rest) (end_mark ∷ []) in omega (arith, h, l))
only_end b (if_then t first rest) e = absurd (let h = ap length e in let l = length-append (flatten first ++ end_mark ∷ flatten rest) (end_mark ∷ []) in omega (arith, h, l))
only_end b (if_else t first second rest) e = absurd (let h = ap length e in let l = length-append (flatten first ++ model.else_mark ∷ flatten second ++ end_mark ∷ flatten rest) (end_mark ∷ []) in omega (arith, h, l))

-- an expression of two instructions is one instruction and its end
alone : (a b : model.Instr) (e : Code) → a ∷ b ∷ [] ≡ expression e → (op : Op) × (a ≡ single op) × (e ≡ plain op nothing)
alone a b nothing h = absurd (let l = ap length h in omega (arith, l))
alone a b (plain op rest) h =
    let first : a ≡ single op = cc h in
    let others : b ∷ [] ≡ flatten rest ++ end_mark ∷ [] = cc h in
    (op, first, ap (plain op) (only_end b rest others))
alone a b (block t body rest) h = absurd (let n = ap length h in let l = length-append (flatten body ++ end_mark ∷ flatten rest) (end_mark ∷ []) in let k = length-append (flatten body) (end_mark ∷ flatten rest) in omega (arith, n, l, k))
alone a b (loop t body rest) h = absurd (let n = ap length h in let l = length-append (flatten body ++ end_mark ∷ flatten rest) (end_mark ∷ []) in let k = length-append (flatten body) (end_mark ∷ flatten rest) in omega (arith, n, l, k))
alone a b (if_then t first rest) h = absurd (let n = ap length h in let l = length-append (flatten first ++ end_mark ∷ flatten rest) (end_mark ∷ []) in let k = length-append (flatten first) (end_mark ∷ flatten rest) in omega (arith, n, l, k))
alone a b (if_else t first second rest) h =
    absurd (let n = ap length h in let l = length-append (flatten first ++ model.else_mark ∷ flatten second ++ end_mark ∷ flatten rest) (end_mark ∷ []) in
    let k = length-append (flatten first ++ model.else_mark ∷ flatten second) (end_mark ∷ flatten rest) in let j = length-append (flatten first) (model.else_mark ∷ flatten second) in omega (arith, n, l, k, j))

-- ---- the first of them

constant_op : (gs : List GlobalType) (labels : List ℕ) (i : Instr) (op : Op) (t : ValType) → instr_of labels i ≡ single op → IsConstant gs i t → ConstantOf gs (plain op nothing) t
constant_op gs labels (I32Const n) op t e h = inl (n, cc e, h)
constant_op gs labels (I64Const n) op t e h = inr (inl (n, cc e, h))
constant_op gs labels (GlobalGet x) op t e h = inr (inr (x, cc e, h))
constant_op gs labels i op t e h = absurd h

is_i32 : (gs : List GlobalType) (labels : List ℕ) (i : Instr) (n : ℤ) (t : ValType) → instr_of labels i ≡ single (i32_const n) → t ≡ I32 → IsConstant gs i t
is_i32 gs labels (I32Const m) n t e h = h
is_i32 gs labels i n t e h = absurd (cc e)

is_i64 : (gs : List GlobalType) (labels : List ℕ) (i : Instr) (n : ℤ) (t : ValType) → instr_of labels i ≡ single (i64_const n) → t ≡ I64 → IsConstant gs i t
is_i64 gs labels (I64Const m) n t e h = h
is_i64 gs labels i n t e h = absurd (cc e)

is_global : (gs : List GlobalType) (labels : List ℕ) (i : Instr) (x : ℕ) (t : ValType) → instr_of labels i ≡ single (global_get x) → slice_get gs x ≡ Some (record { value = t; mutability = Const }) → IsConstant gs i t
is_global gs labels (GlobalGet y) x t e h = let same : y ≡ x = cc e in subst (λ w. slice_get gs w ≡ Some (record { value = t; mutability = Const })) (sym same) h
is_global gs labels i x t e h = absurd (cc e)

same_op : (op op2 : Op) → plain op nothing ≡ plain op2 nothing → op ≡ op2
same_op op op2 e = cc e

op_constant : (gs : List GlobalType) (labels : List ℕ) (i : Instr) (op : Op) (t : ValType) → instr_of labels i ≡ single op → ConstantOf gs (plain op nothing) t → IsConstant gs i t
op_constant gs labels i op t e h =
    ⊎_elim
    (λ (n, p, q). is_i32 gs labels i n t (e ∙ ap single (same_op op (i32_const n) p)) q)
    (λ w. ⊎_elim
    (λ (n, p, q). is_i64 gs labels i n t (e ∙ ap single (same_op op (i64_const n) p)) q)
    (λ (x, p, q). is_global gs labels i x t (e ∙ ap single (same_op op (global_get x) p)) q) w) h

-- ---- both

pub first_decides : (gs : List GlobalType) (labels : List ℕ) (instrs : List Instr) (d : Instr) (e : Code) (t : ValType) → map (instr_of labels) instrs ≡ expression e → length instrs ≡ 2
    → Same (IsConstant gs (get_or instrs 0 d) t) (ConstantOf gs e t)
first_decides gs labels [] d e t h two = absurd (omega (arith, two))
first_decides gs labels (i ∷ []) d e t h two = absurd (omega (arith, two))
first_decides gs labels (i ∷ j ∷ []) d e t h two =
    let a = alone (instr_of labels i) (instr_of labels j) e h in (
      λ p. subst (λ w. ConstantOf gs w t) (sym a.2) (constant_op gs labels i a.0 t a.1 p),
      λ p. op_constant gs labels i a.0 t a.1 (subst (λ w. ConstantOf gs w t) a.2 p),
    )
first_decides gs labels (i ∷ j ∷ k ∷ is) d e t h two = absurd (omega (arith, two))
