-- Reductions keep types, in every context.
use Rattle.std.proofs.Common.{◌≡◌, ℕ, zero, suc, List, [], ◌∷◌, ◌++◌, Option, Some, slice_get, get_or, refl, sym, ap, subst, ◌∙◌, append_assoc, rules}
use Rattle.std.specs.List.{AllByRecursion}
use Rattle.wh_model.specs.declared.ValType.{ValType}
use Rattle.wh_model.specs.declared.ValType.TheVariants.{I32}
use Rattle.wh_model.specs.Format.{Code}
use Rattle.wh_model.specs.Validity.{Context, under, operand, HasType}
use Rattle.wh_model.specs.Execution.Store.{Instance, Store}
use Rattle.wh_model.specs.Execution.{Value, value, Term, Config, config, trapped, arity, TakesOperands, Jumps, by_br, by_br_if, by_br_table, Reduces, base, in_label, in_frame, trap_label, trap_frame, leave_label, leave_frame, branch, returns}
use Rattle.wh_model.specs.Soundness.{AreOfTypes, InstanceType, StoreType, frame_context, IsInside, TermType, ConfigType}
use Rattle.wh_model.specs.Laws.{Preservation}
use Rattle.wh_model.proofs.Typing.{composed, framed}
use Rattle.wh_model.proofs.StoreTypingLemmas.{types_append, types_parted}
use Rattle.wh_model.proofs.TermTypingLemmas.{parts, taking, stands, arity_length, block_typed, drop_at}
use Rattle.wh_model.proofs.PreservationLemmas.{base_keeps}

-- ---- branches

label_of : (c : Context) (t : Option ValType) (i last : ℕ) (ls : List ℕ)
    → AllByRecursion (λ k. slice_get c.labels k ≡ Some t) ls → slice_get c.labels last ≡ Some t
    → slice_get c.labels (get_or ls i last) ≡ Some t
label_of c t i last [] all at = at
label_of c t zero last (l ∷ ls) all at = all.0
label_of c t (suc i) last (l ∷ ls) all at = label_of c t i last ls all.1 at

-- what a branch finds: its label is there, and its operands are on top
pub record JumpTyped (c : Context) (l : ℕ) (vs : List Value) : Type 0 where
  pub takes : Option ValType
  pub any : List ValType
  pub label : slice_get c.labels l ≡ Some takes
  pub over : AreOfTypes vs (operand takes ++ any)

pub jump_typed : {vs rest : List Value} {is : Code} {l : ℕ} → Jumps vs is l rest
    → (c : Context) (ins outs : List ValType) → AreOfTypes vs ins → HasType c is ins outs → JumpTyped c l rest
jump_typed (by_br {vs = vs}) c ins outs h t =
    let z = stands vs h t in
    let o = z.is_op in
    record {
      takes = o.0;
      any = o.1 ++ z.below;
      label = o.2;
      over = search (rules, append_assoc, taking);
    }
jump_typed (by_br_if {i = i} {vs = vs} some) c ins outs h t =
    let z = stands (value I32 i ∷ vs) h t in
    let o = z.is_op in
    record { takes = o.0; any = z.below; label = o.1; over = (taking (value I32 i ∷ vs) z.below o.2 z.over).1 }
jump_typed (by_br_table {i = i} {last = last} {ls = ls} {vs = vs} is) c ins outs h t =
    let z = stands (value I32 i ∷ vs) h t in
    let o = z.is_op in
    record {
      takes = o.0;
      any = o.1 ++ z.below;
      label = ap (λ k. slice_get c.labels k) is ∙ label_of c o.0 i last ls o.2 o.3;
      over = search (rules, append_assoc, taking);
    }

-- the values that are taken along
taken_typed : (t : Option ValType) (any : List ValType) (n : ℕ) (vs us dropped : List Value) → n ≡ arity t
    → TakesOperands n vs us dropped → AreOfTypes vs (operand t ++ any) → AreOfTypes us (operand t)
taken_typed t any n vs us dropped e takes over = search (rules, types_parted, arity_length)

-- ---- reduction

pub preserves : {inst : Instance} {d k : ℕ} {s : Store} {f : List Value} {t : Term} {b : Config}
    → Reduces inst d (config s f t) k b → (m c : Context) (outs : List ValType)
    → InstanceType m inst → IsInside m c → StoreType m inst s → AreOfTypes f c.locals → TermType m c t outs
    → ConfigType m inst c b outs
preserves (base x) m c outs i inside st ls t = base_keeps x m c t.0 outs i inside st ls t.1 t.2
preserves (in_label x) m c outs i inside st ls (below, ends, takes, over, n, next, body, behind) =
    let r = preserves x m (under takes c) ends i inside st ls body in
    (r.0, r.1, (below, ends, takes, over, n, next, r.2, behind))
preserves (in_frame x) m c outs i inside st ls (below, locals, result, over, n, given, body, behind) =
    let r = preserves x m (frame_context m locals result) (operand result) i
    (refl, refl, refl, refl, refl) st given body in
    (r.0, ls, (below, locals, result, over, n, r.1, r.2, behind))
preserves (trap_label x) m c outs i inside st ls (below, ends, takes, over, n, next, body, behind) =
    preserves x m (under takes c) ends i inside st ls body
preserves (trap_frame x) m c outs i inside st ls (below, locals, result, over, n, given, body, behind) =
    preserves x m (frame_context m locals result) (operand result) i (refl, refl, refl, refl, refl) st given body
preserves (leave_label {us = us} {vs = vs}) m c outs i inside st ls (below, ends, takes, over, n, next, body, behind) =
    (st, ls, (ends ++ below, types_append us vs ends below (subst (AreOfTypes us) (parts body.2) body.1) over, behind))
preserves (leave_frame {us = us} {vs = vs} count) m c outs i inside st ls
    (below, locals, result, over, n, given, body, behind) = (
      st,
      ls,
      (
        operand result ++ below,
        types_append us vs (operand result) below
            (subst (AreOfTypes us) (parts body.2) body.1) over,
        behind,
      ),
    )
preserves (branch {l = l} {n = arity_is} {rest = rest} {us = us} {dropped = dropped} {vs = vs} b j z) m c outs i inside
    st ls (below, ends, takes, over, n, next, body, behind) =
    let x = block_typed b m (under takes c) ends body in
    let y = jump_typed j x.around x.ins x.outs x.over x.goes in
    let same : y.takes ≡ takes = search (rules, drop_at) in
    let moved = taken_typed takes y.any arity_is rest us dropped n z
    (subst (λ w. AreOfTypes rest (operand w ++ y.any)) same y.over) in (
      st,
      ls,
      (
        operand takes ++ below,
        types_append us vs (operand takes) below moved over,
        composed
            (framed below next) behind,
      ),
    )
preserves (returns {n = arity_is} {operands = operands} {us = us} {dropped = dropped} {vs = vs} b z) m c outs i inside
    st ls (below, locals, result, over, n, given, body, behind) =
    let x = block_typed b m (frame_context m locals result) (operand result) body in
    let y = stands operands x.over x.goes in
    let top = subst (AreOfTypes operands) (append_assoc (operand result) y.is_op.0 y.below)
    (taking operands y.below (y.is_op.1 ∙ ap (λ r. operand r ++ y.is_op.0) x.result) y.over) in
    let moved = taken_typed result (y.is_op.0 ++ y.below) arity_is operands us dropped n z top in
    (st, ls, (operand result ++ below, types_append us vs (operand result) below moved over, behind))

pub preservation : Preservation
preservation m c inst d k a b outs i inside t x = search (rules, preserves)
