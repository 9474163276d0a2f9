-- Fronts of an expression, and the constructs that are open behind them.
use Rattle.std.proofs.Common.{◌≡◌, suc, ◌+◌, ◌-◌, ◌<◌, ◌≤◌, List, [], ◌∷◌, ◌++◌, length, Some, None, refl, sym, ap, subst, ◌∙◌, append_assoc, arith}
use Rattle.wh_model.specs.declared.Open.{Open}
use Rattle.wh_model.specs.declared.Open.TheVariants.{Then, Other}
use Rattle.wh_model.specs.Format.{Code, nothing, plain, block, loop, if_then, if_else, Instr, single, block_start, loop_start, if_start, else_mark, end_mark, flatten, expression, join, depth, most_nested, Front, in_body, in_block, in_loop, in_then, in_else}
use Rattle.wh_model.proofs.Nesting.{flatten-join, depth-join}
use Rattle.wh_expr.specs.ReadingCode.{after_instr}

pub level : {front : List Instr} {stack : List Open} → Front front stack → length stack ≤ most_nested
level (in_body c le) = omega arith
level (in_block t c f le) = omega arith
level (in_loop t c f le) = omega arith
level (in_then t c f le) = omega arith
level (in_else t c d f le le2) = omega arith

grown_by : {front new : List Instr} {stack : List Open} → Front new stack → new ≡ front → Front front stack
grown_by {front} {new} {stack} f e = subst (λ (x : List Instr). Front x stack) e f

-- whole instructions behind a front
pub extend : {front : List Instr} {stack : List Open} (d : Code) → Front front stack → depth d + length stack ≤ most_nested → Front (front ++ flatten d) stack
extend d (in_body c le) m = grown_by (in_body (join c d) (depth-join c d most_nested le (omega arith))) (flatten-join c d)
extend d (in_block {front} {stack} t c f le) m =
    let deep : depth (join c d) + suc (length stack) ≤ most_nested = (let r = depth-join c d (most_nested - suc (length stack)) (omega arith) (omega arith) in omega arith) in
    grown_by (in_block t (join c d) f deep) (ap (λ (x : List Instr). front ++ (block_start t ∷ x)) (flatten-join c d) ∙ sym (append_assoc front (block_start t ∷ flatten c) (flatten d)))
extend d (in_loop {front} {stack} t c f le) m =
    let deep : depth (join c d) + suc (length stack) ≤ most_nested = (let r = depth-join c d (most_nested - suc (length stack)) (omega arith) (omega arith) in omega arith) in
    grown_by (in_loop t (join c d) f deep) (ap (λ (x : List Instr). front ++ (loop_start t ∷ x)) (flatten-join c d) ∙ sym (append_assoc front (loop_start t ∷ flatten c) (flatten d)))
extend d (in_then {front} {stack} t c f le) m =
    let deep : depth (join c d) + suc (length stack) ≤ most_nested = (let r = depth-join c d (most_nested - suc (length stack)) (omega arith) (omega arith) in omega arith) in
    grown_by (in_then t (join c d) f deep) (ap (λ (x : List Instr). front ++ (if_start t ∷ x)) (flatten-join c d) ∙ sym (append_assoc front (if_start t ∷ flatten c) (flatten d)))
extend d (in_else {front} {stack} t c e f le le2) m =
    let deep : depth (join e d) + suc (length stack) ≤ most_nested = (let r = depth-join e d (most_nested - suc (length stack)) (omega arith) (omega arith) in omega arith) in
    grown_by (in_else t c (join e d) f le deep) (ap (λ (x : List Instr). front ++ (if_start t ∷ flatten c) ++ (else_mark ∷ x)) (flatten-join e d) ∙ sym (append_assoc (front ++ (if_start t ∷ flatten c)) (else_mark ∷ flatten e) (flatten d)))

-- which instruction may come inside these constructs
abbrev pub ElseMayCome : List Open → Type 0
ElseMayCome [] = ⊥
ElseMayCome (Then ∷ stack) = Unit {0}
ElseMayCome (Other ∷ stack) = ⊥

abbrev pub MayCome : List Open → Instr → Type 0
MayCome stack (single op) = Unit {0}
MayCome stack (block_start t) = length stack < most_nested
MayCome stack (loop_start t) = length stack < most_nested
MayCome stack (if_start t) = length stack < most_nested
MayCome stack else_mark = ElseMayCome stack
MayCome stack end_mark = Unit {0}

front_else : {front : List Instr} {stack : List Open} → Front front (Then ∷ stack) → Front (front ++ else_mark ∷ []) (Other ∷ stack)
front_else (in_then {front} {stack} t c f le) = in_else t c nothing f le (let r = level f in omega arith)

-- a construct that ends is a whole instruction
ended : {front all : List Instr} {stack : List Open} (d : Code) → Front front stack → depth d + length stack ≤ most_nested → front ++ flatten d ≡ all → Front all stack
ended d f m e = grown_by (extend d f m) e

front_end : {front : List Instr} {construct : Open} {stack : List Open} → Front front (construct ∷ stack) → Front (front ++ end_mark ∷ []) stack
front_end (in_block {front} {stack} t c f le) = ended (block t c nothing) f (omega arith) (sym (append_assoc front (block_start t ∷ flatten c) (end_mark ∷ [])))
front_end (in_loop {front} {stack} t c f le) = ended (loop t c nothing) f (omega arith) (sym (append_assoc front (loop_start t ∷ flatten c) (end_mark ∷ [])))
front_end (in_then {front} {stack} t c f le) = ended (if_then t c nothing) f (omega arith) (sym (append_assoc front (if_start t ∷ flatten c) (end_mark ∷ [])))
front_end (in_else {front} {stack} t c d f le le2) = ended (if_else t c d nothing) f (omega arith)
    (sym (append_assoc front ((if_start t ∷ flatten c) ++ (else_mark ∷ flatten d)) (end_mark ∷ [])) ∙ ap (λ (x : List Instr). x ++ (end_mark ∷ [])) (sym (append_assoc front (if_start t ∷ flatten c) (else_mark ∷ flatten d))))

some_is : (x y : List Open) → Some x ≡ Some y → x ≡ y
some_is x y e = cc

-- one more instruction
pub front_more : (front : List Instr) (stack next : List Open) (i : Instr) → Front front stack → MayCome stack i → after_instr stack i ≡ Some next → Front (front ++ i ∷ []) next
front_more front stack next (single op) f m e =
    subst (λ (s : List Open). Front (front ++ single op ∷ []) s) (some_is stack next e) (extend (plain op nothing) f (let r = level f in omega arith))
front_more front stack next (block_start t) f m e = subst (λ (s : List Open). Front (front ++ block_start t ∷ []) s) (some_is (Other ∷ stack) next e) (in_block t nothing f (omega arith))
front_more front stack next (loop_start t) f m e = subst (λ (s : List Open). Front (front ++ loop_start t ∷ []) s) (some_is (Other ∷ stack) next e) (in_loop t nothing f (omega arith))
front_more front stack next (if_start t) f m e = subst (λ (s : List Open). Front (front ++ if_start t ∷ []) s) (some_is (Then ∷ stack) next e) (in_then t nothing f (omega arith))
front_more front [] next else_mark f m e = absurd m
front_more front (Then ∷ stack) next else_mark f m e = subst (λ (s : List Open). Front (front ++ else_mark ∷ []) s) (some_is (Other ∷ stack) next e) (front_else f)
front_more front (Other ∷ stack) next else_mark f m e = absurd m
front_more front [] next end_mark f m e = absurd cc
front_more front (construct ∷ stack) next end_mark f m e = subst (λ (s : List Open). Front (front ++ end_mark ∷ []) s) (some_is stack next e) (front_end f)

whole_front : {front : List Instr} → Front front [] → (c : Code) × (front ≡ flatten c) × (depth c ≤ most_nested)
whole_front (in_body c le) = (c, refl, le)

-- the last instruction
pub front_last : (front : List Instr) (stack : List Open) (i : Instr) → Front front stack → after_instr stack i ≡ None → (c : Code) × (front ++ i ∷ [] ≡ expression c) × (depth c ≤ most_nested)
front_last front stack (single op) f e = absurd cc
front_last front stack (block_start t) f e = absurd cc
front_last front stack (loop_start t) f e = absurd cc
front_last front stack (if_start t) f e = absurd cc
front_last front [] else_mark f e = absurd cc
front_last front (construct ∷ stack) else_mark f e = absurd cc
front_last front [] end_mark f e = let w = whole_front f in (w.0, ap (λ (x : List Instr). x ++ (end_mark ∷ [])) w.1, w.2)
front_last front (construct ∷ stack) end_mark f e = absurd cc

-- ---- what can be read again

-- instructions that may come one after the other inside these constructs, and lead to those
abbrev pub Passes : List Open → List Instr → List Open → Type 0
Passes stack [] inner = stack ≡ inner
Passes stack (i ∷ is) inner = MayCome stack i × (next : List Open) × (after_instr stack i ≡ Some next) × Passes next is inner

passes_append : (is js : List Instr) (a b c : List Open) → Passes a is b → Passes b js c → Passes a (is ++ js) c
passes_append [] js a b c p q = subst (λ (s : List Open). Passes s js c) (sym p) q
passes_append (i ∷ is) js a b c p q = (p.0, p.1, p.2, passes_append is js p.1 b c p.3 q)

pub passes_flatten : (c : Code) (stack : List Open) → depth c + length stack ≤ most_nested → Passes stack (flatten c) stack
passes_flatten nothing stack m = refl
passes_flatten (plain op c) stack m = (tt, stack, refl, passes_flatten c stack m)
passes_flatten (block t body c) stack m =
    (omega arith, Other ∷ stack, refl, passes_append (flatten body) (end_mark ∷ flatten c) (Other ∷ stack) (Other ∷ stack) stack (passes_flatten body (Other ∷ stack) (omega arith)) (tt, stack, refl, passes_flatten c stack (omega arith)))
passes_flatten (loop t body c) stack m =
    (omega arith, Other ∷ stack, refl, passes_append (flatten body) (end_mark ∷ flatten c) (Other ∷ stack) (Other ∷ stack) stack (passes_flatten body (Other ∷ stack) (omega arith)) (tt, stack, refl, passes_flatten c stack (omega arith)))
passes_flatten (if_then t body c) stack m =
    (omega arith, Then ∷ stack, refl, passes_append (flatten body) (end_mark ∷ flatten c) (Then ∷ stack) (Then ∷ stack) stack (passes_flatten body (Then ∷ stack) (omega arith)) (tt, stack, refl, passes_flatten c stack (omega arith)))
passes_flatten (if_else t body second c) stack m = (
  omega arith,
  Then ∷ stack,
  refl,
  passes_append (flatten body ++ (else_mark ∷ flatten second)) (end_mark ∷ flatten c) (Then ∷ stack) (Other ∷ stack) stack
      (passes_append (flatten body) (else_mark ∷ flatten second) (Then ∷ stack) (Then ∷ stack) (Other ∷ stack) (passes_flatten body (Then ∷ stack) (omega arith))
      (tt, Other ∷ stack, refl, passes_flatten second (Other ∷ stack) (omega arith)))
      (tt, stack, refl, passes_flatten c stack (omega arith)),
)

pub front_passes : {front : List Instr} {stack : List Open} → Front front stack → Passes [] front stack
front_passes (in_body c le) = passes_flatten c [] (omega arith)
front_passes (in_block {front} {stack} t c f le) = passes_append front (block_start t ∷ flatten c) [] stack (Other ∷ stack) (front_passes f) (omega arith, Other ∷ stack, refl, passes_flatten c (Other ∷ stack) le)
front_passes (in_loop {front} {stack} t c f le) = passes_append front (loop_start t ∷ flatten c) [] stack (Other ∷ stack) (front_passes f) (omega arith, Other ∷ stack, refl, passes_flatten c (Other ∷ stack) le)
front_passes (in_then {front} {stack} t c f le) = passes_append front (if_start t ∷ flatten c) [] stack (Then ∷ stack) (front_passes f) (omega arith, Then ∷ stack, refl, passes_flatten c (Then ∷ stack) le)
front_passes (in_else {front} {stack} t c d f le le2) =
    passes_append (front ++ (if_start t ∷ flatten c)) (else_mark ∷ flatten d) [] (Then ∷ stack) (Other ∷ stack)
    (passes_append front (if_start t ∷ flatten c) [] stack (Then ∷ stack) (front_passes f) (omega arith, Then ∷ stack, refl, passes_flatten c (Then ∷ stack) le))
    (tt, Other ∷ stack, refl, passes_flatten d (Other ∷ stack) le2)
