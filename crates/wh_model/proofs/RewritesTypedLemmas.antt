-- What an instruction does to operands alone keeps types.
use Rattle.std.proofs.Common.{◌≡◌, ℕ, ◌^◌, ◌<◌, List, [], ◌∷◌, ◌++◌, None, refl, subst, Ok}
use Rattle.std.specs.Prelude.{IfOk}
use Rattle.wh_model.specs.declared.ValType.{ValType}
use Rattle.wh_model.specs.declared.ValType.TheVariants.{I32, I64}
use Rattle.wh_model.specs.declared.BinaryOp.{BinaryOp}
use Rattle.wh_model.specs.declared.ConvertOp.{ConvertOp}
use Rattle.wh_model.specs.declared.ConvertOp.TheVariants.{WrapI64, ExtendI32S, ExtendI32U}
use Rattle.wh_model.specs.Format.{Code}
use Rattle.wh_model.specs.Validity.{Context, operand, conversion_type, HasType, no_more, then_loop}
use Rattle.wh_model.specs.Execution.{bits, binary, operand_type, result_type, Value, value, InRange, Term, Rewrites, const_i32, const_i64, unary_op, binary_op, test_op, compare_op, convert_op, drop_top, select_first, select_second, do_nothing, enter_block, enter_loop, then_true, then_false, if_true, if_false, br_if_not}
use Rattle.wh_model.specs.Soundness.{AreOfTypes, TermType}
use Rattle.wh_model.proofs.Numbers.{unsigned-lt, unary-lt, binary-lt, test-lt, compare-lt, convert-lt}
use Rattle.wh_model.proofs.TermTypingLemmas.{parts, taking, giving, stands, gives_all}

-- ---- instructions over operands alone

in_range : (u : ValType) (n : ℕ) (v : Value) → v ≡ value u n → InRange v → n < 2 ^ bits u
in_range u n v e h = subst (λ w. InRange w) e h

conversions_agree : (op : ConvertOp) → result_type op ≡ (conversion_type op).1
conversions_agree WrapI64 = refl
conversions_agree ExtendI32S = refl
conversions_agree ExtendI32U = refl

binary_fits : (t : ValType) (op : BinaryOp) (m n r : ℕ) → binary t op m n ≡ Ok r → m < 2 ^ bits t → n < 2 ^ bits t
    → r < 2 ^ bits t
binary_fits t op m n r e left right = subst (λ w. IfOk w (λ k. k < 2 ^ bits t)) e (binary-lt t op m n left right)

pub rewrites_keep : {vs : List Value} {is : Code} {k : ℕ} {t : Term} → Rewrites vs is k t
    → (m c : Context) (ins outs : List ValType) → AreOfTypes vs ins → HasType c is ins outs → TermType m c t outs
rewrites_keep (const_i32 {n = n} {vs = vs} {is = is}) m c ins outs h t =
    let x = stands vs h t in (
      I32 ∷ x.below,
      ((refl, unsigned-lt 32 n), taking vs x.below x.is_op.0 x.over),
      giving c is x.below outs x.is_op.1
          x.goes,
    )
rewrites_keep (const_i64 {n = n} {vs = vs} {is = is}) m c ins outs h t =
    let x = stands vs h t in (
      I64 ∷ x.below,
      ((refl, unsigned-lt 64 n), taking vs x.below x.is_op.0 x.over),
      giving c is x.below outs x.is_op.1
          x.goes,
    )
rewrites_keep (unary_op {t = u} {op = op} {n = n} {v = v} {vs = vs} {is = is} e) m c ins outs h t =
    let x = stands (v ∷ vs) h t in
    let y = taking (v ∷ vs) x.below x.is_op.0 x.over in
    (u ∷ x.below, ((refl, unary-lt u op n), y.1), giving c is x.below outs x.is_op.1 x.goes)
rewrites_keep (binary_op {t = u} {op = op} {m = i} {n = j} {r = r} {v = v} {w = w} {vs = vs} {is = is} p q e) m c ins
    outs h t =
    let x = stands (w ∷ v ∷ vs) h t in
    let y = taking (w ∷ v ∷ vs) x.below x.is_op.0 x.over in (
      u ∷ x.below,
      ((refl, binary_fits u op i j r e (in_range u i v p y.1.0.1) (in_range u j w q y.0.1)), y.1.1),
      giving
          c is x.below outs x.is_op.1 x.goes,
    )
rewrites_keep (test_op {t = u} {op = op} {n = n} {v = v} {vs = vs} {is = is} e) m c ins outs h t =
    let x = stands (v ∷ vs) h t in
    let y = taking (v ∷ vs) x.below x.is_op.0 x.over in
    (I32 ∷ x.below, ((refl, test-lt op n), y.1), giving c is x.below outs x.is_op.1 x.goes)
rewrites_keep (compare_op {t = u} {op = op} {m = i} {n = j} {v = v} {w = w} {vs = vs} {is = is} p q) m c ins outs h t =
    let x = stands (w ∷ v ∷ vs) h t in
    let y = taking (w ∷ v ∷ vs) x.below x.is_op.0 x.over in
    (I32 ∷ x.below, ((refl, compare-lt u op i j), y.1.1), giving c is x.below outs x.is_op.1 x.goes)
rewrites_keep (convert_op {op = op} {n = n} {v = v} {vs = vs} {is = is} e) m c ins outs h t =
    let x = stands (v ∷ vs) h t in
    let y = taking (v ∷ vs) x.below x.is_op.0 x.over in (
      (conversion_type op).1 ∷ x.below,
      ((conversions_agree op, convert-lt op n (in_range (operand_type op) n v e y.0.1)), y.1),
      giving c is x.below
          outs x.is_op.1 x.goes,
    )
rewrites_keep (drop_top {v = v} {vs = vs} {is = is}) m c ins outs h t =
    let x = stands (v ∷ vs) h t in
    (x.below, (taking (v ∷ vs) x.below x.is_op.1 x.over).1, giving c is x.below outs x.is_op.2 x.goes)
rewrites_keep (select_first {i = i} {v = v} {w = w} {vs = vs} {is = is} some) m c ins outs h t =
    let x = stands (value I32 i ∷ w ∷ v ∷ vs) h t in
    let y = taking (value I32 i ∷ w ∷ v ∷ vs) x.below x.is_op.1 x.over in
    (x.is_op.0 ∷ x.below, (y.1.1.0, y.1.1.1), giving c is x.below outs x.is_op.2 x.goes)
rewrites_keep (select_second {i = i} {v = v} {w = w} {vs = vs} {is = is} none) m c ins outs h t =
    let x = stands (value I32 i ∷ w ∷ v ∷ vs) h t in
    let y = taking (value I32 i ∷ w ∷ v ∷ vs) x.below x.is_op.1 x.over in
    (x.is_op.0 ∷ x.below, (y.1.0, y.1.1.1), giving c is x.below outs x.is_op.2 x.goes)
rewrites_keep (do_nothing {vs = vs} {is = is}) m c ins outs h t =
    let x = stands vs h t in
    (x.below, taking vs x.below x.is_op.0 x.over, giving c is x.below outs x.is_op.1 x.goes)
rewrites_keep (enter_block {t = u}) m c ins outs h t =
    let x = parts t in
    (ins, operand u, u, h, refl, no_more, ([], tt, x.0), x.1)
rewrites_keep (enter_loop {t = u}) m c ins outs h t =
    let x = parts t in
    (ins, operand u, None, h, refl, then_loop x.0 (gives_all c (operand u)), ([], tt, x.0), x.1)
rewrites_keep (then_true {i = i} {t = u} {vs = vs} some) m c ins outs h t =
    let x = parts t in
    let y = subst (λ ts. AreOfTypes (value I32 i ∷ vs) ts) x.1 h in
    (x.0, operand u, u, y.1, refl, no_more, ([], tt, x.2), x.4)
rewrites_keep (then_false {i = i} {t = u} {vs = vs} none) m c ins outs h t =
    let x = parts t in
    let y = subst (λ ts. AreOfTypes (value I32 i ∷ vs) ts) x.1 h in
    (x.0, operand u, u, y.1, refl, no_more, ([], tt, x.3), x.4)
rewrites_keep (if_true {i = i} {t = u} {vs = vs} some) m c ins outs h t =
    let x = parts t in
    let y = subst (λ ts. AreOfTypes (value I32 i ∷ vs) ts) x.1 h in
    (x.0, operand u, u, y.1, refl, no_more, ([], tt, x.2), x.4)
rewrites_keep (if_false {i = i} {t = u} {vs = vs} none) m c ins outs h t =
    let x = parts t in
    let y = subst (λ ts. AreOfTypes (value I32 i ∷ vs) ts) x.1 h in
    (x.0, operand u, u, y.1, refl, no_more, ([], tt, x.3), x.4)
rewrites_keep (br_if_not {i = i} {vs = vs} {is = is} none) m c ins outs h t =
    let x = stands (value I32 i ∷ vs) h t in
    let y = taking (value I32 i ∷ vs) x.below x.is_op.2 x.over in
    (operand x.is_op.0 ++ x.below, y.1, giving c is x.below outs x.is_op.3 x.goes)
