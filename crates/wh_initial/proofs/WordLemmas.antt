-- The word of a constant expression is that of its first instruction.
use Rattle.std.proofs.Common.{◌≡◌, ◌∙◌, ℕ, ◌<◌, List, [], ◌∷◌, map, get_or, slice_index, ⊎_elim, subst, sym, ap, ℤ}
use Rattle.wh_model.specs.Execution.{unsigned}
use Rattle.wh_model.specs.Format.{Op, i32_const, i64_const, global_get, Code, nothing, plain, single, end_mark, expression}
use Rattle.wh_syntax.specs.declared.instr.Instr.{Instr}
use Rattle.wh_syntax.specs.declared.instr.Instr.TheVariants.{I32Const, I64Const, GlobalGet}
use Rattle.wh_syntax.specs.Shown.{instr_of}
use Rattle.wh_initial.specs.ConstantWords.{word_in, IsSeen, HasWord, word_at}

first_instr : (labels : List ℕ) (instrs : List Instr) (d : Instr) (e : Code) (op : Op) → map (instr_of labels) instrs ≡ expression e → e ≡ plain op nothing → instr_of labels (get_or instrs 0 d) ≡ single op
first_instr labels [] d e op h same = let k : [] ≡ single op ∷ end_mark ∷ [] = h ∙ ap expression same in absurd (cc k)
first_instr labels (i ∷ is) d e op h same = let k : instr_of labels i ∷ map (instr_of labels) is ≡ single op ∷ end_mark ∷ [] = h ∙ ap expression same in cc k

-- ---- each kind

has_i32 : (count : ℕ) (labels : List ℕ) (i : Instr) (n : ℤ) → instr_of labels i ≡ single (i32_const n) → HasWord count i
has_i32 count labels (I32Const m) n e = tt
has_i32 count labels i n e = absurd (cc e)

has_i64 : (count : ℕ) (labels : List ℕ) (i : Instr) (n : ℤ) → instr_of labels i ≡ single (i64_const n) → HasWord count i
has_i64 count labels (I64Const m) n e = tt
has_i64 count labels i n e = absurd (cc e)

has_global : (count : ℕ) (labels : List ℕ) (i : Instr) (x : ℕ) → instr_of labels i ≡ single (global_get x) → x < count → HasWord count i
has_global count labels (GlobalGet y) x e lt = let same : x ≡ y = cc e in subst (λ w. w < count) same lt
has_global count labels i x e lt = absurd (cc e)

is_i32 : (words labels : List ℕ) (i : Instr) (n : ℤ) → instr_of labels i ≡ single (i32_const n) → word_at words i ≡ unsigned 32 n
is_i32 words labels (I32Const m) n e = let same : m ≡ n = cc e in ap (unsigned 32) same
is_i32 words labels i n e = absurd (cc e)

is_i64 : (words labels : List ℕ) (i : Instr) (n : ℤ) → instr_of labels i ≡ single (i64_const n) → word_at words i ≡ unsigned 64 n
is_i64 words labels (I64Const m) n e = let same : m ≡ n = cc e in ap (unsigned 64) same
is_i64 words labels i n e = absurd (cc e)

is_global : (words labels : List ℕ) (i : Instr) (x : ℕ) → instr_of labels i ≡ single (global_get x) → word_at words i ≡ slice_index words x
is_global words labels (GlobalGet y) x e = let same : y ≡ x = cc e in ap (λ w. slice_index words w) same
is_global words labels i x e = absurd (cc e)

-- ---- all

pub has_word : (count : ℕ) (labels : List ℕ) (instrs : List Instr) (d : Instr) (e : Code) → map (instr_of labels) instrs ≡ expression e → IsSeen count e → HasWord count (get_or instrs 0 d)
unfolding IsSeen
has_word count labels instrs d e h seen =
    ⊎_elim
    (λ (n, p). has_i32 count labels (get_or instrs 0 d) n (first_instr labels instrs d e (i32_const n) h p))
    (λ w. ⊎_elim
    (λ (n, p). has_i64 count labels (get_or instrs 0 d) n (first_instr labels instrs d e (i64_const n) h p))
    (λ (x, p, lt). has_global count labels (get_or instrs 0 d) x (first_instr labels instrs d e (global_get x) h p) lt) w) seen

pub same_word : (count : ℕ) (words labels : List ℕ) (instrs : List Instr) (d : Instr) (e : Code) → map (instr_of labels) instrs ≡ expression e → IsSeen count e → word_at words (get_or instrs 0 d) ≡ word_in words e
unfolding IsSeen word_in
same_word count words labels instrs d e h seen =
    ⊎_elim
    (λ (n, p). is_i32 words labels (get_or instrs 0 d) n (first_instr labels instrs d e (i32_const n) h p) ∙ sym (ap (word_in words) p))
    (λ w. ⊎_elim
    (λ (n, p). is_i64 words labels (get_or instrs 0 d) n (first_instr labels instrs d e (i64_const n) h p) ∙ sym (ap (word_in words) p))
    (λ (x, p, lt). is_global words labels (get_or instrs 0 d) x (first_instr labels instrs d e (global_get x) h p) ∙ sym (ap (word_in words) p)) w) seen
