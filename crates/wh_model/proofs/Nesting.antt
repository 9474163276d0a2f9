-- Sequences of instructions, nested and in binary order: each form determines the other.
use Rattle.std.proofs.Common.{◌≡◌, ℕ, ◌≤◌, List, [], ◌∷◌, ◌++◌, Option, Some, None, refl, sym, ap, ◌∙◌, append_assoc, arith}
use Rattle.wh_model.specs.Format.{Code, nothing, plain, block, loop, if_then, if_else, Instr, single, block_start, loop_start, if_start, else_mark, end_mark, flatten, expression, join, depth}
use Rattle.wh_model.specs.Focus.{Parts, grow, grown, first_code, nested}

join-nothing : (c : Code) → join c nothing ≡ c
join-nothing nothing = refl
join-nothing (plain op rest) = ap (plain op) (join-nothing rest)
join-nothing (block t body rest) = ap (block t body) (join-nothing rest)
join-nothing (loop t body rest) = ap (loop t body) (join-nothing rest)
join-nothing (if_then t first rest) = ap (if_then t first) (join-nothing rest)
join-nothing (if_else t first second rest) = ap (if_else t first second) (join-nothing rest)

behind : (i : Instr) (a b c d : List Instr) → b ≡ c ++ d → (i ∷ a) ++ (end_mark ∷ b) ≡ ((i ∷ a) ++ (end_mark ∷ c)) ++ d
behind i a b c d e = ap (λ (x : List Instr). (i ∷ a) ++ (end_mark ∷ x)) e ∙ sym (append_assoc (i ∷ a) (end_mark ∷ c) d)

pub flatten-join : (c d : Code) → flatten (join c d) ≡ flatten c ++ flatten d
flatten-join nothing d = refl
flatten-join (plain op rest) d = ap (λ (x : List Instr). single op ∷ x) (flatten-join rest d)
flatten-join (block t body rest) d = behind (block_start t) (flatten body) _ (flatten rest) (flatten d) (flatten-join rest d)
flatten-join (loop t body rest) d = behind (loop_start t) (flatten body) _ (flatten rest) (flatten d) (flatten-join rest d)
flatten-join (if_then t first rest) d = behind (if_start t) (flatten first) _ (flatten rest) (flatten d) (flatten-join rest d)
flatten-join (if_else t first second rest) d = behind (if_start t) (flatten first ++ else_mark ∷ flatten second) _ (flatten rest) (flatten d) (flatten-join rest d)

pub depth-join : (c d : Code) (m : ℕ) → depth c ≤ m → depth d ≤ m → depth (join c d) ≤ m
depth-join nothing d m p q = q
depth-join (plain op rest) d m p q = depth-join rest d m p q
depth-join (block t body rest) d m p q = let r = depth-join rest d m (omega arith) q in omega arith
depth-join (loop t body rest) d m p q = let r = depth-join rest d m (omega arith) q in omega arith
depth-join (if_then t first rest) d m p q = let r = depth-join rest d m (omega arith) q in omega arith
depth-join (if_else t first second rest) d m p q = let r = depth-join rest d m (omega arith) q in omega arith

-- what a sequence adds to the parts that stand behind it
grown-flatten : (c : Code) (rest : List Instr) (part : Code × Option Code) (parts : Parts) → grown rest ≡ part ∷ parts → grown (flatten c ++ rest) ≡ (join c part.0, part.1) ∷ parts
grown-flatten nothing rest part parts e = e
grown-flatten (plain op c) rest part parts e = ap (grow (single op)) (grown-flatten c rest part parts e)
grown-flatten (block t body c) rest part parts e =
    let behind = grown-flatten c rest part parts e in
    let inside = grown-flatten body (end_mark ∷ flatten c ++ rest) (nothing, None) ((join c part.0, part.1) ∷ parts) (ap (grow end_mark) behind) in
    rw (append_assoc (flatten body) (end_mark ∷ flatten c) rest, inside, join-nothing body) refl
grown-flatten (loop t body c) rest part parts e =
    let behind = grown-flatten c rest part parts e in
    let inside = grown-flatten body (end_mark ∷ flatten c ++ rest) (nothing, None) ((join c part.0, part.1) ∷ parts) (ap (grow end_mark) behind) in
    rw (append_assoc (flatten body) (end_mark ∷ flatten c) rest, inside, join-nothing body) refl
grown-flatten (if_then t body c) rest part parts e =
    let behind = grown-flatten c rest part parts e in
    let inside = grown-flatten body (end_mark ∷ flatten c ++ rest) (nothing, None) ((join c part.0, part.1) ∷ parts) (ap (grow end_mark) behind) in
    rw (append_assoc (flatten body) (end_mark ∷ flatten c) rest, inside, join-nothing body) refl
grown-flatten (if_else t body second c) rest part parts e =
    let behind = grown-flatten c rest part parts e in
    let last = grown-flatten second (end_mark ∷ flatten c ++ rest) (nothing, None) ((join c part.0, part.1) ∷ parts) (ap (grow end_mark) behind) in
    let inside = grown-flatten body (else_mark ∷ flatten second ++ (end_mark ∷ flatten c ++ rest)) (nothing, Some (join second nothing)) ((join c part.0, part.1) ∷ parts) (ap (grow else_mark) last) in
    rw (append_assoc (flatten body ++ (else_mark ∷ flatten second)) (end_mark ∷ flatten c) rest, append_assoc (flatten body) (else_mark ∷ flatten second) (end_mark ∷ flatten c ++ rest), inside, join-nothing body, join-nothing second) refl

pub nested-expression : (c : Code) → nested (expression c) ≡ c
unfolding nested
nested-expression c = ap first_code (grown-flatten c (end_mark ∷ []) (nothing, None) [] refl) ∙ join-nothing c
