-- Instructions that were laid out show what they were.
use Rattle.std.proofs.Common.{◌≡◌, ℕ, ◌+◌, List, [], ◌∷◌, ◌++◌, length, take, drop, map, refl, sym, ap, ◌∙◌, append_assoc, length-append}
use Rattle.std.specs.Prelude.{slice_index}
use Rattle.std.proofs.lemmas.List.{take_at}
use Rattle.std.proofs.Math.Seq.{drop-append_seam, get_or-append_seam}
use Rattle.wh_model.specs.Format.Syntax as model
use Rattle.wh_model.specs.Format.Syntax.{Op, unreachable, nop, br, br_if, br_table, return, call, call_indirect, drop_operand, select, local_get, local_set, local_tee, global_get, global_set, load, store, memory_size, memory_grow, i32_const, i64_const, test, comparison, unary, binary, conversion, single, block_start, loop_start, if_start, else_mark, end_mark, Code, expression}
use Rattle.wh_model.specs.Focus.Nested.{nested}
use Rattle.wh_model.proofs.Nesting.{nested-expression}
use Rattle.wh_syntax.specs.Shown.{instr_of}
use Rattle.wh_syntax.specs.Laid.{laid_instr, labels_of, laid_instrs, laid_labels}

-- the element after the first ones
index_at : (front : List ℕ) (x : ℕ) (back : List ℕ) (n : ℕ) → n ≡ length front → slice_index (front ++ x ∷ back) n ≡ x
index_at front x back n e = rw e (get_or-append_seam front x back 0)

-- labels with their last one, laid between others
abbrev laid_between : List ℕ → List ℕ → ℕ → List ℕ → List ℕ
laid_between front labels last back = front ++ ((labels ++ last ∷ []) ++ back)

labels_shown : (front labels : List ℕ) (last : ℕ) (back : List ℕ)
    → take (length labels) (drop (length front) (laid_between front labels last back)) ≡ labels
labels_shown front labels last back =
    let behind : drop (length front) (laid_between front labels last back) ≡ labels ++ (last ∷ back) =
    drop-append_seam front ((labels ++ last ∷ []) ++ back) ∙ append_assoc labels (last ∷ []) back in
    ap (take (length labels)) behind ∙ take_at labels (last ∷ back) (length labels) refl

last_shown : (front labels : List ℕ) (last : ℕ) (back : List ℕ)
    → slice_index (laid_between front labels last back) (length front + length labels) ≡ last
last_shown front labels last back =
    let all : laid_between front labels last back ≡ (front ++ labels) ++ (last ∷ back) =
    ap (λ (x : List ℕ). front ++ x) (append_assoc labels (last ∷ []) back)
    ∙ sym (append_assoc front labels (last ∷ back)) in
    ap (λ (x : List ℕ). slice_index x (length front + length labels)) all
    ∙ index_at (front ++ labels) last back (length front + length labels) (sym (length-append front labels))

table_shown : (front labels : List ℕ) (last : ℕ) (back : List ℕ)
    → br_table (take (length labels) (drop (length front) (laid_between front labels last back)))
    (slice_index (laid_between front labels last back) (length front + length labels)) ≡ br_table labels last
table_shown front labels last back =
    ap (λ (x : List ℕ). br_table x (slice_index (laid_between front labels last back) (length front + length labels)))
    (labels_shown front labels last back)
    ∙ ap (br_table labels) (last_shown front labels last back)

op_shown : (op : Op) (front back : List ℕ)
    → instr_of (front ++ (labels_of (single op) ++ back)) (laid_instr (length front) (single op)) ≡ single op
op_shown unreachable front back = refl
op_shown nop front back = refl
op_shown (br l) front back = refl
op_shown (br_if l) front back = refl
op_shown (br_table labels last) front back = ap single (table_shown front labels last back)
op_shown return front back = refl
op_shown (call f) front back = refl
op_shown (call_indirect t) front back = refl
op_shown drop_operand front back = refl
op_shown select front back = refl
op_shown (local_get x) front back = refl
op_shown (local_set x) front back = refl
op_shown (local_tee x) front back = refl
op_shown (global_get x) front back = refl
op_shown (global_set x) front back = refl
op_shown (load op align offset) front back = refl
op_shown (store op align offset) front back = refl
op_shown memory_size front back = refl
op_shown memory_grow front back = refl
op_shown (i32_const n) front back = refl
op_shown (i64_const n) front back = refl
op_shown (test t op) front back = refl
op_shown (comparison t op) front back = refl
op_shown (unary t op) front back = refl
op_shown (binary t op) front back = refl
op_shown (conversion op) front back = refl

instr_shown : (i : model.Instr) (front back : List ℕ)
    → instr_of (front ++ (labels_of i ++ back)) (laid_instr (length front) i) ≡ i
instr_shown (single op) front back = op_shown op front back
instr_shown (block_start t) front back = refl
instr_shown (loop_start t) front back = refl
instr_shown (if_start t) front back = refl
instr_shown else_mark front back = refl
instr_shown end_mark front back = refl

cons_is : (i j : model.Instr) (is js : List model.Instr) → i ≡ j → is ≡ js → i ∷ is ≡ j ∷ js
cons_is i j is js e f = cc

pub all_shown : (is : List model.Instr) (front : List ℕ)
    → map (instr_of (front ++ laid_labels is)) (laid_instrs (length front) is) ≡ is
all_shown [] front = refl
all_shown (i ∷ is) front =
    let rest = all_shown is (front ++ labels_of i) in
    let at : length (front ++ labels_of i) ≡ length front + length (labels_of i) = length-append front (labels_of i) in
    let pool : (front ++ labels_of i) ++ laid_labels is ≡ front ++ (labels_of i ++ laid_labels is) =
    append_assoc front (labels_of i) (laid_labels is) in
    cons_is _ i _ is (instr_shown i front (laid_labels is)) (rw (at, pool) at rest)

pub shown-laid : (c : Code) → nested (map (instr_of (laid_labels (expression c))) (laid_instrs 0 (expression c))) ≡ c
shown-laid c = ap nested (all_shown (expression c) []) ∙ nested-expression c
