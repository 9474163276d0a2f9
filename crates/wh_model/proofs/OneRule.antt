-- At most one rule applies to an instruction.
use Rattle.std.proofs.Common.{◌≡◌, ℕ, List, [], ◌∷◌, ◌++◌, length, refl, sym, ap, arith, ◌∙◌, slice_get, Some, rules}
use Rattle.wh_model.specs.declared.Trap.{Trap}
use Rattle.wh_model.specs.Format.{Code}
use Rattle.wh_model.specs.Execution.Store.{Instance, Store}
use Rattle.wh_model.specs.Execution.{Value, FuncInst, Term, called, Config, config, trapped, TakesOperands, Rewrites, const_i32, const_i64, unary_op, binary_op, test_op, compare_op, convert_op, drop_top, select_first, select_second, do_nothing, enter_block, enter_loop, then_true, then_false, if_true, if_false, br_if_not, Traps, never_return, no_number, load_beyond, store_beyond, no_entry, empty_entry, other_type, Calls, by_call, by_indirect, Invokes, enter, too_deep, input, put, put_full, emit, emit_long, emit_beyond, emit_full, Base, pure, traps, get_local, set_local, tee_local, get_global, set_global, load_bytes, store_bytes, size_pages, grow_pages, grow_too_far, invoke, Jumps, by_br, by_br_if, by_br_table}

-- what is taken of the operands is determined by how many are
pub takes_same : (n m : ℕ) (o vs ws vs2 ws2 : List Value) → n ≡ m → TakesOperands n o vs ws → TakesOperands m o vs2 ws2 → (vs ≡ vs2) × (ws ≡ ws2)
takes_same n m o vs ws vs2 ws2 q x y = split_same vs vs2 ws ws2 (x.count ∙ q ∙ sym y.count) (sym x.split ∙ y.split)
  where
    split_same : (as1 as2 bs1 bs2 : List Value) → length as1 ≡ length as2 → as1 ++ bs1 ≡ as2 ++ bs2 → (as1 ≡ as2) × (bs1 ≡ bs2)
    split_same [] [] bs1 bs2 n e = (refl, e)
    split_same [] (b ∷ as2) bs1 bs2 n e = absurd (omega arith)
    split_same (a ∷ as1) [] bs1 bs2 n e = absurd (omega arith)
    split_same (a ∷ as1) (b ∷ as2) bs1 bs2 n e =
        let t : as1 ++ bs1 ≡ as2 ++ bs2 = cc in
        let h : a ≡ b = cc in
        let r = split_same as1 as2 bs1 bs2 (omega arith) t in
        (cc (r.0, h), r.1)

rewrites_same : {vs : List Value} {is : Code} {j k : ℕ} {t u : Term} → Rewrites vs is j t → Rewrites vs is k u → (j ≡ k) × (t ≡ u)
rewrites_same const_i32 const_i32 = (refl, refl)
rewrites_same const_i64 const_i64 = (refl, refl)
rewrites_same (unary_op {n = n} p) (unary_op {n = n2} q) = let e : n ≡ n2 = cc in rw e (refl, refl)
rewrites_same (binary_op {t = t} {m = m} {n = n} {r = r} {vs = vs} {is = is} p q x) (binary_op {m = m2} {n = n2} {r = r2} u v y) = search rules
rewrites_same (test_op {n = n} p) (test_op {n = n2} q) = let e : n ≡ n2 = cc in rw e (refl, refl)
rewrites_same (compare_op {m = m} {n = n} p q) (compare_op {m = m2} {n = n2} u v) = search rules
rewrites_same (convert_op {n = n} p) (convert_op {n = n2} q) = let e : n ≡ n2 = cc in rw e (refl, refl)
rewrites_same drop_top drop_top = (refl, refl)
rewrites_same (select_first p) (select_first q) = (refl, refl)
rewrites_same (select_first p) (select_second q) = absurd (p q)
rewrites_same (select_second p) (select_first q) = absurd (q p)
rewrites_same (select_second p) (select_second q) = (refl, refl)
rewrites_same do_nothing do_nothing = (refl, refl)
rewrites_same enter_block enter_block = (refl, refl)
rewrites_same enter_loop enter_loop = (refl, refl)
rewrites_same (then_true p) (then_true q) = (refl, refl)
rewrites_same (then_true p) (then_false q) = absurd (p q)
rewrites_same (then_false p) (then_true q) = absurd (q p)
rewrites_same (then_false p) (then_false q) = (refl, refl)
rewrites_same (if_true p) (if_true q) = (refl, refl)
rewrites_same (if_true p) (if_false q) = absurd (p q)
rewrites_same (if_false p) (if_true q) = absurd (q p)
rewrites_same (if_false p) (if_false q) = (refl, refl)
rewrites_same (br_if_not p) (br_if_not q) = (refl, refl)

traps_same : {inst : Instance} {s : Store} {vs : List Value} {is : Code} {x y : Trap} → Traps inst s vs is x → Traps inst s vs is y → x ≡ y
traps_same never_return never_return = refl
traps_same (no_number {m = m} {n = n} p q x) (no_number {m = m2} {n = n2} u v y) = search rules
traps_same (load_beyond p) (load_beyond q) = refl
traps_same (store_beyond e p) (store_beyond u q) = refl
traps_same (no_entry p) (no_entry q) = refl
traps_same (no_entry p) (empty_entry q) = absurd (cc (p, q))
traps_same (no_entry p) (other_type q x y z) = absurd (cc (p, q))
traps_same (empty_entry p) (no_entry q) = absurd (cc (p, q))
traps_same (empty_entry p) (empty_entry q) = refl
traps_same (empty_entry p) (other_type q x y z) = absurd (cc (p, q))
traps_same (other_type p x y z) (no_entry q) = absurd (cc (p, q))
traps_same (other_type p x y z) (empty_entry q) = absurd (cc (p, q))
traps_same (other_type p x y z) (other_type q u v w) = refl

entry_same : (inst : Instance) (s : Store) (i : ℕ) {x y : ℕ} {h k : FuncInst} → slice_get s.table i ≡ Some (Some x) → slice_get s.table i ≡ Some (Some y) → slice_get inst.funcs x ≡ Some h → slice_get inst.funcs y ≡ Some k → h ≡ k
entry_same inst s i p q u v = cc

calls_same : {inst : Instance} {s : Store} {vs us ws : List Value} {js is ks : Code} {h k : FuncInst} → Calls inst s vs js h us is → Calls inst s vs js k ws ks → (h ≡ k) × (us ≡ ws) × (is ≡ ks)
calls_same (by_call p) (by_call q) = (cc (p, q), refl, refl)
calls_same {inst = inst} {s = s} (by_indirect {i = i} p u a) (by_indirect q v b) = (entry_same inst s i p q u v, refl, refl)

calls_or_traps : {inst : Instance} {s : Store} {vs us : List Value} {js is : Code} {h : FuncInst} {x : Trap} → Calls inst s vs js h us is → Traps inst s vs js x → ⊥
calls_or_traps (by_call p) y = elim y [ ]
calls_or_traps (by_indirect p u a) (no_entry q) = absurd (cc (p, q))
calls_or_traps (by_indirect p u a) (empty_entry q) = absurd (cc (p, q))
calls_or_traps {inst = inst} {s = s} (by_indirect {i = i} p u a) (other_type q v b e) = search rules

calls_or_rewrites : {inst : Instance} {k : ℕ} {s : Store} {vs us : List Value} {js is : Code} {h : FuncInst} {t : Term} → Calls inst s vs js h us is → Rewrites vs js k t → ⊥
calls_or_rewrites (by_call p) y = elim y [ ]
calls_or_rewrites (by_indirect p u a) y = elim y [ ]

invokes_same : {d : ℕ} {s : Store} {f vs : List Value} {is : Code} {h : FuncInst} {b c : Config} → Invokes d s f h vs is b → Invokes d s f h vs is c → b ≡ c
invokes_same {s = s} {f = f} (enter {type = t} {body = g} {operands = o} {args = a1} {vs = v1} {is = is} p q) (enter {args = a2} {vs = v2} u v) =
    let h = takes_same (length t.params) (length t.params) o a1 v1 a2 v2 refl p u in
    ap (λ w. config s f (called t g w v1 is)) h.0 ∙ ap (λ w. config s f (called t g a2 w is)) h.1
invokes_same (enter p q) (too_deep u v) = absurd (omega (arith, q, v))
invokes_same (too_deep p q) (enter u v) = absurd (omega (arith, q, v))
invokes_same (too_deep p q) (too_deep u v) = refl
invokes_same input input = refl
invokes_same (put p) (put q) = refl
invokes_same (put p) (put_full q) = absurd (omega (arith, p, q))
invokes_same (put_full p) (put q) = absurd (omega (arith, p, q))
invokes_same (put_full p) (put_full q) = refl
invokes_same (emit p q r) (emit u v w) = refl
invokes_same (emit p q r) (emit_long u) = absurd (omega (arith, p, u))
invokes_same (emit p q r) (emit_beyond u v) = absurd (omega (arith, q, v))
invokes_same (emit p q r) (emit_full u v w) = absurd (omega (arith, r, w))
invokes_same (emit_long p) (emit u v w) = absurd (omega (arith, p, u))
invokes_same (emit_long p) (emit_long u) = refl
invokes_same (emit_long p) (emit_beyond u v) = absurd (omega (arith, p, u))
invokes_same (emit_long p) (emit_full u v w) = absurd (omega (arith, p, u))
invokes_same (emit_beyond p q) (emit u v w) = absurd (omega (arith, q, v))
invokes_same (emit_beyond p q) (emit_long u) = absurd (omega (arith, p, u))
invokes_same (emit_beyond p q) (emit_beyond u v) = refl
invokes_same (emit_beyond p q) (emit_full u v w) = absurd (omega (arith, q, v))
invokes_same (emit_full p q r) (emit u v w) = absurd (omega (arith, r, w))
invokes_same (emit_full p q r) (emit_long u) = absurd (omega (arith, p, u))
invokes_same (emit_full p q r) (emit_beyond u v) = absurd (omega (arith, q, v))
invokes_same (emit_full p q r) (emit_full u v w) = refl

rewrites_or_traps : {inst : Instance} {k : ℕ} {s : Store} {vs : List Value} {is : Code} {t : Term} {x : Trap} → Rewrites vs is k t → Traps inst s vs is x → ⊥
rewrites_or_traps (binary_op {m = m} {n = n} p q x) (no_number {m = m2} {n = n2} u v y) = search rules
rewrites_or_traps x y = elim y [ ]

-- what holds where it doesn't trap
acts_or_traps : {inst : Instance} {d k : ℕ} {s : Store} {f vs : List Value} {is : Code} {c : Config} {x : Trap} → Base inst d s f vs is k c → Traps inst s vs is x → c ≡ trapped s x
acts_or_traps (pure x) y = absurd (rewrites_or_traps x y)
acts_or_traps {s = s} (traps x) y = ap (trapped s) (traps_same x y)
acts_or_traps (load_bytes p) (load_beyond q) = absurd (omega (arith, p, q))
acts_or_traps (store_bytes e p) (store_beyond u q) = absurd (omega (arith, p, q))
acts_or_traps (invoke x p) y = absurd (calls_or_traps x y)
acts_or_traps x y = elim y [ ]

trap_charge : {inst : Instance} {d k : ℕ} {s : Store} {f vs : List Value} {is : Code} {c : Config} {x : Trap} → Base inst d s f vs is k c → Traps inst s vs is x → k ≡ 1
trap_charge (pure x) y = absurd (rewrites_or_traps x y)
trap_charge x y = refl

pub base_same : {inst : Instance} {d : ℕ} {s : Store} {f vs : List Value} {is : Code} {j k : ℕ} {b c : Config} → Base inst d s f vs is j b → Base inst d s f vs is k c → (j ≡ k) × (b ≡ c)
base_same {s = s} {f = f} (pure x) (pure y) = let r = rewrites_same x y in (r.0, ap (config s f) r.1)
base_same x (traps y) = (trap_charge x y, acts_or_traps x y)
base_same (traps x) y = (sym (trap_charge y x), sym (acts_or_traps y x))
base_same (pure x) (invoke y q) = absurd (calls_or_rewrites y x)
base_same (invoke y q) (pure x) = absurd (calls_or_rewrites y x)
base_same (pure x) y = elim x [ ]
base_same x (pure y) = elim y [ ]
base_same {s = s} {f = f} (get_local {v = v} {vs = vs} {is = is} p) (get_local {v = w} q) = search rules
base_same (set_local p) (set_local q) = (refl, refl)
base_same (tee_local p) (tee_local q) = (refl, refl)
base_same {s = s} {f = f} (get_global {v = v} {vs = vs} {is = is} p) (get_global {v = w} q) = search rules
base_same (set_global p) (set_global q) = (refl, refl)
base_same (load_bytes p) (load_bytes q) = (refl, refl)
base_same (store_bytes {n = n} e p) (store_bytes {n = n2} u q) = let h : n ≡ n2 = cc in rw h (refl, refl)
base_same size_pages size_pages = (refl, refl)
base_same (grow_pages p) (grow_pages q) = (refl, refl)
base_same (grow_pages p) (grow_too_far q) = absurd (omega (arith, p, q))
base_same (grow_too_far p) (grow_pages q) = absurd (omega (arith, p, q))
base_same (grow_too_far p) (grow_too_far q) = (refl, refl)
base_same {d = d} {s = s} {f = f} (invoke {h = h} {rest = us} {is = is} {c = b} x p) (invoke {h = k} {rest = ws} {is = ks} {c = c} y q) =
    search (rules, calls_same, invokes_same)
base_same (invoke x p) y = elim x [ ]
base_same x (invoke y q) = elim y [ ]

pub jumps_same : {vs us ws : List Value} {is : Code} {l m : ℕ} → Jumps vs is l us → Jumps vs is m ws → (l ≡ m) × (us ≡ ws)
jumps_same by_br by_br = (refl, refl)
jumps_same (by_br_if p) (by_br_if q) = (refl, refl)
jumps_same (by_br_table p) (by_br_table q) = (p ∙ sym q, refl)

-- a branch that is taken is no rule of its own
pub jump_not_base : {inst : Instance} {d k l : ℕ} {s : Store} {f vs us : List Value} {is : Code} {c : Config} → Jumps vs is l us → Base inst d s f vs is k c → ⊥
jump_not_base by_br (pure b) = elim b [ ]
jump_not_base by_br (traps b) = elim b [ ]
jump_not_base by_br (invoke b p) = elim b [ ]
jump_not_base (by_br_if p) (pure (br_if_not q)) = p q
jump_not_base (by_br_if p) (traps y) = elim y [ ]
jump_not_base (by_br_if p) (invoke y q) = elim y [ ]
jump_not_base (by_br_table p) (pure b) = elim b [ ]
jump_not_base (by_br_table p) (traps b) = elim b [ ]
jump_not_base (by_br_table p) (invoke y q) = elim y [ ]
