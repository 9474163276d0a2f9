-- A step of a focused configuration is a reduction of its nested one.
use Rattle.std.proofs.Common.{◌≡◌, ℕ, suc, ◌+◌, List, [], ◌∷◌, ◌++◌, length, refl, sym, ap, subst, arith, ◌∙◌, ⊎_elim, append-nil}
use Rattle.std.specs.Prelude.{get_or}
use Rattle.wh_model.specs.declared.ValType.TheVariants.{I32}
use Rattle.wh_model.specs.declared.Trap.{Trap}
use Rattle.wh_model.specs.declared.host.HostFunc.TheVariants.{Input, Put, Emit}
use Rattle.wh_model.specs.Format.{Op, unreachable, nop, br, br_if, br_table, return, call, call_indirect, drop_operand, select, local_get, local_set, local_tee, global_get, global_set, load, store, memory_size, memory_grow, i32_const, i64_const, test, comparison, unary, binary, conversion, Code, nothing, plain, block, loop, if_then, if_else, join}
use Rattle.wh_model.specs.Execution.Store.{Instance, Store}
use Rattle.wh_model.specs.Execution.{Value, value, FuncInst, own, host, Term, code, label, frame, Block, hole, inner, config, trapped, const_i32, const_i64, unary_op, binary_op, test_op, compare_op, convert_op, drop_top, select_first, select_second, do_nothing, enter_block, enter_loop, then_true, then_false, if_true, if_false, br_if_not, never_return, no_number, load_beyond, store_beyond, no_entry, empty_entry, other_type, Calls, by_call, by_indirect, enter, too_deep, input, put, put_full, emit, emit_long, emit_beyond, emit_full, Base, pure, traps, get_local, set_local, tee_local, get_global, set_global, load_bytes, store_bytes, size_pages, grow_pages, grow_too_far, invoke, Jumps, by_br, by_br_if, by_br_table, Reduces, base, in_label, in_frame, trap_label, trap_frame, leave_label, leave_frame, branch, returns}
use Rattle.wh_model.specs.Focus.Focused.{Focused}
use Rattle.wh_model.specs.Focus.{Label, Activation, running, finished, stopped, inside, awaited, plug, returned, Branches, CallStep, OpStep, CodeStep, charge_of, Steps}

-- ---- a reduction under labels and frames

inside_step : {inst : Instance} {d k : ℕ} {s s2 : Store} {f f2 : List Value} {t t2 : Term} → (ls : List Label) → Reduces inst d (config s f t) k (config s2 f2 t2) → Reduces inst d (config s f (inside t ls)) k (config s2 f2 (inside t2 ls))
inside_step [] r = r
inside_step (l ∷ ls) r = inside_step ls (in_label r)

inside_trap : {inst : Instance} {d k : ℕ} {s s2 : Store} {f : List Value} {t : Term} {x : Trap} → (ls : List Label) → Reduces inst d (config s f t) k (trapped s2 x) → Reduces inst d (config s f (inside t ls)) k (trapped s2 x)
inside_trap [] r = r
inside_trap (l ∷ ls) r = inside_trap ls (trap_label r)

awaited_step : {inst : Instance} {k : ℕ} {s s2 : Store} {f f2 : List Value} {t t2 : Term} → (n : ℕ) (ws : List Activation) → Reduces inst (suc (length ws)) (config s f t) k (config s2 f2 t2) → Reduces inst 0 (config s [] (awaited n f t ws)) k (config s2 [] (awaited n f2 t2 ws))
awaited_step n [] r = in_frame r
awaited_step n (a ∷ ws) r = awaited_step a.results ws (inside_step a.labels (in_frame r))

awaited_trap : {inst : Instance} {k : ℕ} {s s2 : Store} {f : List Value} {t : Term} {x : Trap} → (n : ℕ) (ws : List Activation) → Reduces inst (suc (length ws)) (config s f t) k (trapped s2 x) → Reduces inst 0 (config s [] (awaited n f t ws)) k (trapped s2 x)
awaited_trap n [] r = trap_frame r
awaited_trap n (a ∷ ws) r = awaited_trap a.results ws (inside_trap a.labels (trap_frame r))

-- k labels around a block context
block_in : {k : ℕ} {t : Term} {vs : List Value} {is : Code} → (ks : List Label) → Block k t vs is → (m : ℕ) → m ≡ length ks + k → Block m (inside t ks) vs is
block_in {k = k} {t = t} {vs = vs} {is = is} [] b m e = let q : k ≡ m = omega arith in subst (λ w. Block w t vs is) q b
block_in (l ∷ ks) b m e = block_in ks (inner b) m (omega arith)

inside_append : (t : Term) (ks bs : List Label) → inside t (ks ++ bs) ≡ inside (inside t ks) bs
inside_append t [] bs = refl
inside_append t (l ∷ ks) bs = inside_append (label l.beneath l.carries l.next t l.after_end) ks bs

-- the end of a function and a return
leaves : {inst : Instance} {k n : ℕ} {s : Store} {f : List Value} {t : Term} (us : List Value) → ((d : ℕ) (g vs : List Value) (is : Code) → Reduces inst d (config s g (frame vs n f t is)) k (config s g (code (us ++ vs) is))) → (ws : List Activation) → Reduces inst 0 (config s [] (awaited n f t ws)) k (plug (returned s us ws))
leaves {inst = inst} {k = k} {n = n} {s = s} {f = f} {t = t} us r [] = subst (λ w. Reduces inst 0 (config s [] (frame [] n f t nothing)) k (config s [] (code w nothing))) (append-nil us) (r 0 [] [] nothing)
leaves us r (a ∷ ws) = awaited_step a.results ws (inside_step a.labels (r (suc (length ws)) a.locals a.operands a.code))

-- ---- each step

module _ (inst : Instance) (s : Store) (f : List Value) (n : ℕ) (ls : List Label) (ws : List Activation) where
  base_up : {k : ℕ} {vs f2 : List Value} {is : Code} {s2 : Store} {t2 : Term} → Base inst (suc (length ws)) s f vs is k (config s2 f2 t2) → Reduces inst 0 (config s [] (awaited n f (inside (code vs is) ls) ws)) k (config s2 [] (awaited n f2 (inside t2 ls) ws))
  base_up b = awaited_step n ws (inside_step ls (base b))

  trap_up : {k : ℕ} {vs : List Value} {is : Code} {s2 : Store} {x : Trap} → Base inst (suc (length ws)) s f vs is k (trapped s2 x) → Reduces inst 0 (config s [] (awaited n f (inside (code vs is) ls) ws)) k (trapped s2 x)
  trap_up b = awaited_trap n ws (inside_trap ls (base b))

  jump_up : (vs rest : List Value) (is : Code) (l : ℕ) (c : Focused) → Jumps vs is l rest → Branches l s (record { operands = vs; code = is; labels = ls; locals = f; results = n }) rest ws c → Reduces inst 0 (config s [] (awaited n f (inside (code vs is) ls) ws)) 1 (plug c)
  jump_up vs rest is l c j (inner_ls, outer, t, e, k, us, dropped, z, q) =
      let b = block_in inner_ls (hole {vs = vs} {is = is}) l (omega arith) in
      let r = awaited_step n ws (inside_step outer (branch {vs = t.beneath} {next = t.next} {is = t.after_end} b j z)) in
      subst (λ (w : Focused). Reduces inst 0 (config s [] (awaited n f (inside (code vs is) ls) ws)) 1 (plug w)) (sym q)
      (subst (λ (w : Term). Reduces inst 0 (config s [] (awaited n f w ws)) 1 (plug (running s (record { operands = us ++ t.beneath; code = join t.next t.after_end; labels = outer; locals = f; results = n }) ws))) (sym (inside_append (code vs is) inner_ls (t ∷ outer)) ∙ ap (inside (code vs is)) (sym e)) r)

  call_up : (h : FuncInst) (kept vs rest : List Value) (js is : Code) (c : Focused) → Calls inst s vs js h rest is → CallStep h s (record { operands = kept; code = js; labels = ls; locals = f; results = n }) rest is ws c → Reduces inst 0 (config s [] (awaited n f (inside (code vs js) ls) ws)) 1 (plug c)
  call_up (own type body) kept vs rest js is c x (args, us, z, w) = ⊎_elim (λ u. rw u.1 (base_up (invoke x (enter z (omega (arith, u.0)))))) (λ u. rw u.1 (trap_up (invoke x (too_deep z (omega (arith, u.0)))))) w
  call_up (host Input) kept vs rest js is c x (i, us, e, q) =
      let y = subst (λ r. Calls inst s vs js (host Input) r is) e x in
      rw q (base_up (invoke y input))
  call_up (host Put) kept vs rest js is c x (m, us, e, w) =
      let y = subst (λ r. Calls inst s vs js (host Put) r is) e x in
      ⊎_elim (λ u. rw u.1 (base_up (invoke y (put u.0)))) (λ u. rw u.1 (trap_up (invoke y (put_full u.0)))) w
  call_up (host Emit) kept vs rest js is c x (i, m, us, e, w) =
      let y = subst (λ r. Calls inst s vs js (host Emit) r is) e x in
      ⊎_elim (λ u. rw u.1 (trap_up (invoke y (emit_long u.0))))
      (λ w2. ⊎_elim (λ u. rw u.2 (trap_up (invoke y (emit_beyond u.0 u.1))))
      (λ w3. ⊎_elim (λ u. rw u.3 (trap_up (invoke y (emit_full u.0 u.1 u.2))))
      (λ u. rw u.3 (base_up (invoke y (emit u.0 u.1 u.2)))) w3) w2) w

  op_up : (op : Op) (vs : List Value) (is : Code) (c : Focused) → OpStep inst op s (record { operands = vs; code = plain op is; labels = ls; locals = f; results = n }) is ws c → Reduces inst 0 (config s [] (awaited n f (inside (code vs (plain op is)) ls) ws)) (charge_of (plain op is)) (plug c)
  op_up unreachable vs is c q = rw q (trap_up (traps never_return))
  op_up nop vs is c q = rw q (base_up (pure do_nothing))
  op_up (br l) vs is c x = jump_up vs vs (plain (br l) is) l c by_br x
  op_up (br_if l) vs is c (i, us, e, w) = ⊎_elim (λ u. rw e (jump_up (value I32 i ∷ us) us (plain (br_if l) is) l c (by_br_if u.0) u.1)) (λ u. rw (e, u.1) (base_up (pure (br_if_not u.0)))) w
  op_up (br_table ks last) vs is c (i, us, e, x) = rw e (jump_up (value I32 i ∷ us) us (plain (br_table ks last) is) (get_or ks i last) c (by_br_table refl) x)
  op_up return vs is c (us, dropped, z, q) =
      rw q (leaves us (λ d g ks js. returns (block_in ls (hole {vs = vs} {is = plain return is}) (length ls) (omega arith)) z) ws)
  op_up (call x) vs is c (h, e, w) = call_up h vs vs vs (plain (call x) is) is c (by_call e) w
  op_up (call_indirect y) vs is c (i, us, e, w) =
      ⊎_elim (λ u. rw (e, u.1) (trap_up (traps (no_entry u.0))))
      (λ v. ⊎_elim (λ u. rw (e, u.1) (trap_up (traps (empty_entry u.0))))
      (λ u. ⊎_elim (λ w. rw e (call_up u.1 vs (value I32 i ∷ us) us (plain (call_indirect y) is) is c (by_indirect u.2 u.3 w.0) w.1)) (λ w. rw (e, w.3) (trap_up (traps (other_type u.2 u.3 w.1 w.2)))) u.4) v) w
  op_up drop_operand vs is c (v, us, e, q) = rw (e, q) (base_up (pure drop_top))
  op_up select vs is c (i, v, w, us, e, x) = ⊎_elim (λ u. rw (e, u.1) (base_up (pure (select_first u.0)))) (λ u. rw (e, u.1) (base_up (pure (select_second u.0)))) x
  op_up (local_get x) vs is c (v, e, q) = rw q (base_up (get_local e))
  op_up (local_set x) vs is c (v, us, e, low, q) = rw (e, q) (base_up (set_local low))
  op_up (local_tee x) vs is c (v, us, e, low, q) = rw (e, q) (base_up (tee_local low))
  op_up (global_get x) vs is c (v, e, q) = rw q (base_up (get_global e))
  op_up (global_set x) vs is c (v, us, e, low, q) = rw (e, q) (base_up (set_global low))
  op_up (load op align offset) vs is c (i, us, e, w) = ⊎_elim (λ u. rw (e, u.1) (base_up (load_bytes u.0))) (λ u. rw (e, u.1) (trap_up (traps (load_beyond u.0)))) w
  op_up (store op align offset) vs is c (i, m, us, e, w) = ⊎_elim (λ u. rw (e, u.1) (base_up (store_bytes refl u.0))) (λ u. rw (e, u.1) (trap_up (traps (store_beyond refl u.0)))) w
  op_up memory_size vs is c q = rw q (base_up size_pages)
  op_up memory_grow vs is c (m, us, e, w) = ⊎_elim (λ u. rw (e, u.1) (base_up (grow_pages u.0))) (λ u. rw (e, u.1) (base_up (grow_too_far u.0))) w
  op_up (i32_const m) vs is c q = rw q (base_up (pure const_i32))
  op_up (i64_const m) vs is c q = rw q (base_up (pure const_i64))
  op_up (test t op) vs is c (m, us, e, q) = rw (e, q) (base_up (pure (test_op refl)))
  op_up (comparison t op) vs is c (a, b, us, e, q) = rw (e, q) (base_up (pure (compare_op refl refl)))
  op_up (unary t op) vs is c (m, us, e, q) = rw (e, q) (base_up (pure (unary_op refl)))
  op_up (binary t op) vs is c (a, b, us, e, w) =
      ⊎_elim (λ u. rw (e, u.2) (base_up (pure (binary_op refl refl u.1)))) (λ u. rw (e, u.2) (trap_up (traps (no_number refl refl u.1)))) w
  op_up (conversion op) vs is c (m, us, e, q) = rw (e, q) (base_up (pure (convert_op refl)))

  code_up : (is : Code) (vs : List Value) (c : Focused) → CodeStep inst is s (record { operands = vs; code = is; labels = ls; locals = f; results = n }) ws c → Reduces inst 0 (config s [] (awaited n f (inside (code vs is) ls) ws)) (charge_of is) (plug c)
  code_up (plain op is) vs c x = op_up op vs is c x
  code_up (block t body is) vs c q = rw q (base_up (pure enter_block))
  code_up (loop t body is) vs c q = rw q (base_up (pure enter_loop))
  code_up (if_then t first is) vs c (i, us, e, w) = ⊎_elim (λ u. rw (e, u.1) (base_up (pure (then_true u.0)))) (λ u. rw (e, u.1) (base_up (pure (then_false u.0)))) w
  code_up (if_else t first second is) vs c (i, us, e, w) = ⊎_elim (λ u. rw (e, u.1) (base_up (pure (if_true u.0)))) (λ u. rw (e, u.1) (base_up (pure (if_false u.0)))) w
  code_up nothing vs c w =
      ⊎_elim (λ u. rw (u.2, u.3) (awaited_step n ws (inside_step u.1 leave_label)))
      (λ u. rw (u.0, u.2) (leaves vs (λ d g ks js. leave_frame u.1) ws)) w

pub steps_reduce : (inst : Instance) (c c2 : Focused) (k : ℕ) → Steps inst c k c2 → Reduces inst 0 (plug c) k (plug c2)
steps_reduce inst (running s a ws) c2 k (e, x) = rw e (code_up inst s a.locals a.results a.labels ws a.code a.operands c2 x)
steps_reduce inst (finished s vs) c2 k x = absurd x
steps_reduce inst (stopped s t) c2 k x = absurd x
