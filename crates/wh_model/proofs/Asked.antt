-- What the focused form asks for is what its nested configuration asks for; that is one need at most, and none where it traps.
use Rattle.std.proofs.Common.{◌≡◌, ℕ, List, [], ◌∷◌, inl, inr, rules}
use Rattle.wh_model.specs.declared.Trap.{Trap}
use Rattle.wh_model.specs.declared.host.HostFunc.TheVariants.{Input, Put, Emit}
use Rattle.wh_model.specs.declared.memory.Need.{Need}
use Rattle.wh_model.specs.Format.{Op, unreachable, nop, br, br_if, br_table, return, call, call_indirect, drop_operand, select, local_get, local_set, local_tee, global_get, global_set, load, store, memory_size, memory_grow, i32_const, i64_const, test, comparison, unary, binary, conversion, Code, nothing, plain, block, loop, if_then, if_else}
use Rattle.wh_model.specs.Execution.Store.{Instance, Store}
use Rattle.wh_model.specs.Execution.{Value, FuncInst, own, host, Term, code, label, frame, config, trapped, CallAsks, OpAsks, CodeAsks, TermAsks, Asks}
use Rattle.wh_model.specs.Focus.{Label, Activation, running, stopped, inside, awaited, plug, CallStep, OpStep, CodeStep, Steps}
use Rattle.wh_model.specs.Laws.{OneNeed}

inside_asks : (inst : Instance) (s : Store) (need : Need) (t : Term) (ls : List Label) → TermAsks inst s t need → TermAsks inst s (inside t ls) need
inside_asks inst s need t [] h = h
inside_asks inst s need t (l ∷ ls) h = inside_asks inst s need (label l.beneath l.carries l.next t l.after_end) ls h

awaited_asks : (inst : Instance) (s : Store) (need : Need) (n : ℕ) (f : List Value) (t : Term) (ws : List Activation) → TermAsks inst s t need → TermAsks inst s (awaited n f t ws) need
awaited_asks inst s need n f t [] h = h
awaited_asks inst s need n f t (a ∷ ws) h = awaited_asks inst s need a.results a.locals (inside (frame a.operands n f t a.code) a.labels) ws (inside_asks inst s need (frame a.operands n f t a.code) a.labels h)

pub asked_now : (inst : Instance) (s : Store) (a : Activation) (ws : List Activation) (need : Need) → CodeAsks inst s a.code a.operands need → Asks inst (plug (running s a ws)) need
asked_now inst s a ws need h = awaited_asks inst s need a.results a.locals (inside (code a.operands a.code) a.labels) ws (inside_asks inst s need (code a.operands a.code) a.labels h)

inside_back : (inst : Instance) (s : Store) (need : Need) (t : Term) (ls : List Label) → TermAsks inst s (inside t ls) need → TermAsks inst s t need
inside_back inst s need t [] h = h
inside_back inst s need t (l ∷ ls) h = inside_back inst s need (label l.beneath l.carries l.next t l.after_end) ls h

awaited_back : (inst : Instance) (s : Store) (need : Need) (n : ℕ) (f : List Value) (t : Term) (ws : List Activation) → TermAsks inst s (awaited n f t ws) need → TermAsks inst s t need
awaited_back inst s need n f t [] h = h
awaited_back inst s need n f t (a ∷ ws) h = inside_back inst s need (frame a.operands n f t a.code) a.labels (awaited_back inst s need a.results a.locals (inside (frame a.operands n f t a.code) a.labels) ws h)

pub asks_now : (inst : Instance) (s : Store) (a : Activation) (ws : List Activation) (need : Need) → Asks inst (plug (running s a ws)) need → CodeAsks inst s a.code a.operands need
asks_now inst s a ws need h = inside_back inst s need (code a.operands a.code) a.labels (awaited_back inst s need a.results a.locals (inside (code a.operands a.code) a.labels) ws h)

-- ---- one need

op_one : (inst : Instance) (s : Store) (op : Op) (vs : List Value) (x y : Need) → OpAsks inst s op vs x → OpAsks inst s op vs y → x ≡ y
op_one inst s (load op align offset) vs x y (i, rest, e, within, is) (j, others, d, within2, is2) = search rules
op_one inst s (store op align offset) vs x y (v, i, rest, e, within, is) (w, j, others, d, within2, is2) = search rules
op_one inst s (call f) vs x y (h, at, asks) (k, at2, asks2) = search rules
op_one inst s (call_indirect t) vs x y (i, f, h, rest, e, entry, at, type, asks) (j, g, k, others, d, entry2, at2, type2, asks2) = search rules
op_one inst s unreachable vs x y p q = absurd p
op_one inst s nop vs x y p q = absurd p
op_one inst s (br l) vs x y p q = absurd p
op_one inst s (br_if l) vs x y p q = absurd p
op_one inst s (br_table ls l) vs x y p q = absurd p
op_one inst s return vs x y p q = absurd p
op_one inst s drop_operand vs x y p q = absurd p
op_one inst s select vs x y p q = absurd p
op_one inst s (local_get l) vs x y p q = absurd p
op_one inst s (local_set l) vs x y p q = absurd p
op_one inst s (local_tee l) vs x y p q = absurd p
op_one inst s (global_get l) vs x y p q = absurd p
op_one inst s (global_set l) vs x y p q = absurd p
op_one inst s memory_size vs x y p q = absurd p
op_one inst s memory_grow vs x y p q = absurd p
op_one inst s (i32_const n) vs x y p q = absurd p
op_one inst s (i64_const n) vs x y p q = absurd p
op_one inst s (test t op) vs x y p q = absurd p
op_one inst s (comparison t op) vs x y p q = absurd p
op_one inst s (unary t op) vs x y p q = absurd p
op_one inst s (binary t op) vs x y p q = absurd p
op_one inst s (conversion op) vs x y p q = absurd p

code_one : (inst : Instance) (s : Store) (is : Code) (vs : List Value) (x y : Need) → CodeAsks inst s is vs x → CodeAsks inst s is vs y → x ≡ y
code_one inst s (plain op rest) vs x y p q = op_one inst s op vs x y p q
code_one inst s nothing vs x y p q = absurd p
code_one inst s (block t body rest) vs x y p q = absurd p
code_one inst s (loop t body rest) vs x y p q = absurd p
code_one inst s (if_then t first rest) vs x y p q = absurd p
code_one inst s (if_else t first second rest) vs x y p q = absurd p

term_one : (inst : Instance) (s : Store) (t : Term) (x y : Need) → TermAsks inst s t x → TermAsks inst s t y → x ≡ y
term_one inst s (code vs is) x y p q = code_one inst s is vs x y p q
term_one inst s (label vs n next t is) x y p q = term_one inst s t x y p q
term_one inst s (frame vs n f t is) x y p q = term_one inst s t x y p q

pub one_need : OneNeed
one_need inst (config s f t) x y p q = term_one inst s t x y p q
one_need inst (trapped s trap) x y p q = absurd p

-- ---- no trap

call_stops : (s : Store) (h : FuncInst) (a : Activation) (vs : List Value) (is : Code) (ws : List Activation) (need : Need) (x : Trap) → CallAsks s h vs need → CallStep h s a vs is ws (stopped s x) → ⊥
call_stops s (own type body) a vs is ws need x asks step = asks
call_stops s (host Input) a vs is ws need x asks step = asks
call_stops s (host Put) a vs is ws need x asks step = asks
call_stops s (host Emit) a vs is ws need x (i, n, rest, e, few, within, room, same) (j, k, others, d, inl (long, to)) = search rules
call_stops s (host Emit) a vs is ws need x (i, n, rest, e, few, within, room, same) (j, k, others, d, inr (inl (few2, beyond, to))) = search rules
call_stops s (host Emit) a vs is ws need x (i, n, rest, e, few, within, room, same) (j, k, others, d, inr (inr (inl (few2, within2, full, to)))) =
    search rules
call_stops s (host Emit) a vs is ws need x (i, n, rest, e, few, within, room, same) (j, k, others, d, inr (inr (inr (few2, within2, room2, to)))) = cc

op_stops : (inst : Instance) (s : Store) (op : Op) (a : Activation) (is : Code) (ws : List Activation) (need : Need) (x : Trap) → OpAsks inst s op a.operands need → OpStep inst op s a is ws (stopped s x) → ⊥
op_stops inst s (load op align offset) a is ws need x (i, rest, e, within, same) (j, others, d, inl (within2, to)) = cc
op_stops inst s (load op align offset) a is ws need x (i, rest, e, within, same) (j, others, d, inr (beyond, to)) = search rules
op_stops inst s (store op align offset) a is ws need x (v, i, rest, e, within, same) (j, n, others, d, inl (within2, to)) = cc
op_stops inst s (store op align offset) a is ws need x (v, i, rest, e, within, same) (j, n, others, d, inr (beyond, to)) = search rules
op_stops inst s (call f) a is ws need x (h, at, asks) (k, at2, step) = search rules
op_stops inst s (call_indirect t) a is ws need x (i, f, h, rest, e, entry, at, type, asks) (j, others, d, inl (none, to)) = search rules
op_stops inst s (call_indirect t) a is ws need x (i, f, h, rest, e, entry, at, type, asks) (j, others, d, inr (inl (empty, to))) = search rules
op_stops inst s (call_indirect t) a is ws need x (i, f, h, rest, e, entry, at, type, asks) (j, others, d, inr (inr (g, k, entry2, at2, inl (type2, step)))) =
    search rules
op_stops inst s (call_indirect t) a is ws need x (i, f, h, rest, e, entry, at, type, asks) (j, others, d, inr (inr (g, k, entry2, at2, inr (type2, there, other, to)))) =
    search rules
op_stops inst s unreachable a is ws need x asks step = asks
op_stops inst s nop a is ws need x asks step = asks
op_stops inst s (br l) a is ws need x asks step = asks
op_stops inst s (br_if l) a is ws need x asks step = asks
op_stops inst s (br_table ls l) a is ws need x asks step = asks
op_stops inst s return a is ws need x asks step = asks
op_stops inst s drop_operand a is ws need x asks step = asks
op_stops inst s select a is ws need x asks step = asks
op_stops inst s (local_get l) a is ws need x asks step = asks
op_stops inst s (local_set l) a is ws need x asks step = asks
op_stops inst s (local_tee l) a is ws need x asks step = asks
op_stops inst s (global_get l) a is ws need x asks step = asks
op_stops inst s (global_set l) a is ws need x asks step = asks
op_stops inst s memory_size a is ws need x asks step = asks
op_stops inst s memory_grow a is ws need x asks step = asks
op_stops inst s (i32_const n) a is ws need x asks step = asks
op_stops inst s (i64_const n) a is ws need x asks step = asks
op_stops inst s (test t op) a is ws need x asks step = asks
op_stops inst s (comparison t op) a is ws need x asks step = asks
op_stops inst s (unary t op) a is ws need x asks step = asks
op_stops inst s (binary t op) a is ws need x asks step = asks
op_stops inst s (conversion op) a is ws need x asks step = asks

code_stops : (inst : Instance) (s : Store) (is : Code) (a : Activation) (ws : List Activation) (need : Need) (x : Trap) → CodeAsks inst s is a.operands need → CodeStep inst is s a ws (stopped s x) → ⊥
code_stops inst s (plain op rest) a ws need x asks step = op_stops inst s op a rest ws need x asks step
code_stops inst s nothing a ws need x asks step = asks
code_stops inst s (block t body rest) a ws need x asks step = asks
code_stops inst s (loop t body rest) a ws need x asks step = asks
code_stops inst s (if_then t first rest) a ws need x asks step = asks
code_stops inst s (if_else t first second rest) a ws need x asks step = asks

-- what asks for bytes doesn't trap
pub asking_goes_on : (inst : Instance) (s : Store) (a : Activation) (ws : List Activation) (k : ℕ) (need : Need) (x : Trap) → CodeAsks inst s a.code a.operands need → Steps inst (running s a ws) k (stopped s x) → ⊥
asking_goes_on inst s a ws k need x asks step = code_stops inst s a.code a ws need x asks step.1
