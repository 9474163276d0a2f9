-- A reduction of a nested configuration is a step of its focused one: by going down the term, and collecting the labels and
-- frames that are passed.
use Rattle.std.proofs.Common.{◌≡◌, ℕ, suc, List, [], ◌∷◌, ◌++◌, length, refl, sym, ap, subst, arith, ◌∙◌, inl, inr, append_assoc, append-nil, length-append}
use Rattle.wh_model.specs.declared.Trap.{Trap}
use Rattle.wh_model.specs.Format.{Code, nothing, join}
use Rattle.wh_model.specs.Execution.Store.{Instance, Store}
use Rattle.wh_model.specs.Execution.{Value, FuncInst, Term, code, label, frame, Block, hole, inner, Config, config, trapped, TakesOperands, Rewrites, const_i32, const_i64, unary_op, binary_op, test_op, compare_op, convert_op, drop_top, select_first, select_second, do_nothing, enter_block, enter_loop, then_true, then_false, if_true, if_false, br_if_not, Traps, never_return, no_number, load_beyond, store_beyond, no_entry, empty_entry, other_type, Calls, by_call, by_indirect, Invokes, enter, too_deep, input, put, put_full, emit, emit_long, emit_beyond, emit_full, Base, pure, traps, get_local, set_local, tee_local, get_global, set_global, load_bytes, store_bytes, size_pages, grow_pages, grow_too_far, invoke, Jumps, by_br, by_br_if, by_br_table, Reduces, base, in_label, in_frame, trap_label, trap_frame, leave_label, leave_frame, branch, returns}
use Rattle.wh_model.specs.Focus.Focused.{Focused}
use Rattle.wh_model.specs.Focus.{Label, Activation, running, finished, stopped, inside, awaited, plug, returned, CallStep, Steps}
use Rattle.wh_model.proofs.OneReduction.{done_stays}

-- ---- the focus of a term

-- its innermost instructions, inside the labels and activations that were passed
into : Store → ℕ → List Value → Term → List Label → List Activation → Focused
into s n f (code vs is) ls ws = running s (record { operands = vs; code = is; labels = ls; locals = f; results = n }) ws
into s n f (label us m next t is) ls ws = into s n f t (record { carries = m; next = next; beneath = us; after_end = is } ∷ ls) ws
into s n f (frame us m g t is) ls ws = into s m g t [] (record { operands = us; code = is; labels = ls; locals = f; results = n } ∷ ws)

focus : Config → ℕ → List Label → List Activation → Focused
unfolding into
focus (config s f t) n ls ws = into s n f t ls ws
focus (trapped s x) n ls ws = stopped s x

-- a block context passes k labels
into_block : {k : ℕ} {t : Term} {vs : List Value} {is : Code} (s : Store) (n : ℕ) (f : List Value) (ws : List Activation) (ls : List Label) → Block k t vs is
    → (all ks : List Label) × (into s n f t ls ws ≡ running s (record { operands = vs; code = is; labels = all; locals = f; results = n }) ws) × (all ≡ ks ++ ls) × (length ks ≡ k)
unfolding into
into_block s n f ws ls hole = (ls, [], refl, refl, refl)
into_block s n f ws ls (inner {n = m} {us = us} {next = next} {js = js} b) =
    let l : Label = record { carries = m; next = next; beneath = us; after_end = js } in
    let r = into_block s n f ws (l ∷ ls) b in
    (r.0, r.1 ++ (l ∷ []), r.2, r.3 ∙ sym (append_assoc r.1 (l ∷ []) ls), length-append r.1 (l ∷ []) ∙ (let e = r.4 in omega arith))

plug_into : (s : Store) (n : ℕ) (f : List Value) (t : Term) (ls : List Label) (ws : List Activation) → plug (into s n f t ls ws) ≡ config s [] (awaited n f (inside t ls) ws)
unfolding into
plug_into s n f (code vs is) ls ws = refl
plug_into s n f (label us m next t is) ls ws = plug_into s n f t (record { carries = m; next = next; beneath = us; after_end = is } ∷ ls) ws
plug_into s n f (frame us m g t is) ls ws = plug_into s m g t [] (record { operands = us; code = is; labels = ls; locals = f; results = n } ∷ ws)

into_inside : (s : Store) (n : ℕ) (f : List Value) (t : Term) (ks ls : List Label) (ws : List Activation) → into s n f (inside t ks) ls ws ≡ into s n f t (ks ++ ls) ws
unfolding into
into_inside s n f t [] ls ws = refl
into_inside s n f t (l ∷ ks) ls ws = into_inside s n f (label l.beneath l.carries l.next t l.after_end) ks ls ws

-- the outermost frame of a nested configuration
outermost : (s : Store) (n : ℕ) (f : List Value) (t : Term) (ws : List Activation) → (m : ℕ) × (g : List Value) × (u : Term) × (awaited n f t ws ≡ frame [] m g u nothing) × (into s m g u [] [] ≡ into s n f t [] ws)
unfolding into
outermost s n f t [] = (n, f, t, refl, refl)
outermost s n f t (a ∷ ws) =
    let r = outermost s a.results a.locals (inside (frame a.operands n f t a.code) a.labels) ws in
    (r.0, r.1, r.2, r.3, r.4 ∙ into_inside s a.results a.locals (frame a.operands n f t a.code) a.labels [] ws ∙ ap (λ ls. into s n f t [] (record a { labels = ls } ∷ ws)) (append-nil a.labels))

-- ---- each reduction

module _ (inst : Instance) where
  pure_down : (n : ℕ) (s : Store) (f : List Value) (ls : List Label) (ws : List Activation) {k : ℕ} {vs : List Value} {is : Code} {t : Term} → Rewrites vs is k t
      → Steps inst (running s (record { operands = vs; code = is; labels = ls; locals = f; results = n }) ws) k (into s n f t ls ws)
  unfolding into
  pure_down n s f ls ws const_i32 = (refl, refl)
  pure_down n s f ls ws const_i64 = (refl, refl)
  pure_down n s f ls ws (unary_op {n = a} {vs = vs} p) = (refl, (a, vs, ap (λ v. v ∷ vs) p, refl))
  pure_down n s f ls ws (binary_op {m = a} {n = b} {r = r} {vs = vs} p q x) = (refl, (a, b, vs, cc (p, q), inl (r, x, refl)))
  pure_down n s f ls ws (test_op {n = a} {vs = vs} p) = (refl, (a, vs, ap (λ v. v ∷ vs) p, refl))
  pure_down n s f ls ws (compare_op {m = a} {n = b} {vs = vs} p q) = (refl, (a, b, vs, cc (p, q), refl))
  pure_down n s f ls ws (convert_op {n = a} {vs = vs} p) = (refl, (a, vs, ap (λ v. v ∷ vs) p, refl))
  pure_down n s f ls ws (drop_top {v = v} {vs = vs}) = (refl, (v, vs, refl, refl))
  pure_down n s f ls ws (select_first {i = i} {v = v} {w = w} {vs = vs} p) = (refl, (i, v, w, vs, refl, inl (p, refl)))
  pure_down n s f ls ws (select_second {i = i} {v = v} {w = w} {vs = vs} p) = (refl, (i, v, w, vs, refl, inr (p, refl)))
  pure_down n s f ls ws do_nothing = (refl, refl)
  pure_down n s f ls ws enter_block = (refl, refl)
  pure_down n s f ls ws enter_loop = (refl, refl)
  pure_down n s f ls ws (then_true {i = i} {vs = vs} p) = (refl, (i, vs, refl, inl (p, refl)))
  pure_down n s f ls ws (then_false {i = i} {vs = vs} p) = (refl, (i, vs, refl, inr (p, refl)))
  pure_down n s f ls ws (if_true {i = i} {vs = vs} p) = (refl, (i, vs, refl, inl (p, refl)))
  pure_down n s f ls ws (if_false {i = i} {vs = vs} p) = (refl, (i, vs, refl, inr (p, refl)))
  pure_down n s f ls ws (br_if_not {i = i} {vs = vs} p) = (refl, (i, vs, refl, inr (p, refl)))

  traps_down : (n : ℕ) (f : List Value) (ls : List Label) (ws : List Activation) {s : Store} {vs : List Value} {is : Code} {x : Trap} → Traps inst s vs is x
      → Steps inst (running s (record { operands = vs; code = is; labels = ls; locals = f; results = n }) ws) 1 (stopped s x)
  traps_down n f ls ws never_return = (refl, refl)
  traps_down n f ls ws (no_number {m = a} {n = b} {x = x} {vs = vs} p q y) = (refl, (a, b, vs, cc (p, q), inr (x, y, refl)))
  traps_down n f ls ws (load_beyond {i = i} {vs = vs} p) = (refl, (i, vs, refl, inr (p, refl)))
  traps_down n f ls ws (store_beyond {i = i} {n = m} {vs = vs} e p) = (refl, (i, m, vs, cc e, inr (p, refl)))
  traps_down n f ls ws (no_entry {i = i} {vs = vs} p) = (refl, (i, vs, refl, inl (p, refl)))
  traps_down n f ls ws (empty_entry {i = i} {vs = vs} p) = (refl, (i, vs, refl, inr (inl (p, refl))))
  traps_down n f ls ws (other_type {i = i} {x = x} {h = h} {type = type} {vs = vs} p q t u) = (refl, (i, vs, refl, inr (inr (x, h, p, q, inr (type, t, u, refl)))))

  invokes_down : (n : ℕ) (ls : List Label) (ws : List Activation) (vs : List Value) (js : Code) {d : ℕ} {s : Store} {f rest : List Value} {is : Code} {h : FuncInst} {r : Config} → d ≡ suc (length ws) → Invokes d s f h rest is r
      → CallStep h s (record { operands = vs; code = js; labels = ls; locals = f; results = n }) rest is ws (focus r n ls ws)
  unfolding into focus
  invokes_down n ls ws vs js e (enter {args = args} {vs = us} z q) = (args, us, z, inl (omega (arith, q), refl))
  invokes_down n ls ws vs js e (too_deep {args = args} {vs = us} z q) = (args, us, z, inr (omega (arith, q), refl))
  invokes_down n ls ws vs js e (input {i = i} {vs = us}) = (i, us, refl, refl)
  invokes_down n ls ws vs js e (put {n = m} {vs = us} p) = (m, us, refl, inl (p, refl))
  invokes_down n ls ws vs js e (put_full {n = m} {vs = us} p) = (m, us, refl, inr (p, refl))
  invokes_down n ls ws vs js e (emit {i = i} {n = m} {vs = us} p q r) = (i, m, us, refl, inr (inr (inr (p, q, r, refl))))
  invokes_down n ls ws vs js e (emit_long {i = i} {n = m} {vs = us} p) = (i, m, us, refl, inl (p, refl))
  invokes_down n ls ws vs js e (emit_beyond {i = i} {n = m} {vs = us} p q) = (i, m, us, refl, inr (inl (p, q, refl)))
  invokes_down n ls ws vs js e (emit_full {i = i} {n = m} {vs = us} p q r) = (i, m, us, refl, inr (inr (inl (p, q, r, refl))))

  calls_down : (n : ℕ) (f : List Value) (ls : List Label) (ws : List Activation) {s : Store} {vs rest : List Value} {js is : Code} {h : FuncInst} (c : Focused) → Calls inst s vs js h rest is → CallStep h s (record { operands = vs; code = js; labels = ls; locals = f; results = n }) rest is ws c
      → Steps inst (running s (record { operands = vs; code = js; labels = ls; locals = f; results = n }) ws) 1 c
  calls_down n f ls ws c (by_call {h = h} p) w = (refl, (h, p, w))
  calls_down n f ls ws c (by_indirect {i = i} {x = x} {h = h} {vs = us} p q t) w = (refl, (i, us, refl, inr (inr (x, h, p, q, inl (t, w)))))

  base_down : (n : ℕ) {d k : ℕ} {s : Store} {f vs : List Value} {is : Code} {r : Config} (ls : List Label) (ws : List Activation) → d ≡ suc (length ws) → Base inst d s f vs is k r
      → Steps inst (running s (record { operands = vs; code = is; labels = ls; locals = f; results = n }) ws) k (focus r n ls ws)
  unfolding into focus
  base_down n {s = s} {f = f} ls ws e (pure x) = pure_down n s f ls ws x
  base_down n {f = f} ls ws e (traps x) = traps_down n f ls ws x
  base_down n ls ws e (get_local {v = v} p) = (refl, (v, p, refl))
  base_down n ls ws e (set_local {v = v} {vs = vs} p) = (refl, (v, vs, refl, p, refl))
  base_down n ls ws e (tee_local {v = v} {vs = vs} p) = (refl, (v, vs, refl, p, refl))
  base_down n ls ws e (get_global {v = v} p) = (refl, (v, p, refl))
  base_down n ls ws e (set_global {v = v} {vs = vs} p) = (refl, (v, vs, refl, p, refl))
  base_down n ls ws e (load_bytes {i = i} {vs = vs} p) = (refl, (i, vs, refl, inl (p, refl)))
  base_down n ls ws e (store_bytes {i = i} {n = m} {vs = vs} q p) = (refl, (i, m, vs, cc q, inl (p, refl)))
  base_down n ls ws e size_pages = (refl, refl)
  base_down n ls ws e (grow_pages {n = m} {vs = vs} p) = (refl, (m, vs, refl, inl (p, refl)))
  base_down n ls ws e (grow_too_far {n = m} {vs = vs} p) = (refl, (m, vs, refl, inr (p, refl)))
  base_down n {f = f} {vs = vs} {is = js} ls ws e (invoke {c = r} x p) = calls_down n f ls ws (focus r n ls ws) x (invokes_down n ls ws vs js e p)

  jump_down : (s : Store) (n : ℕ) (f : List Value) {l : ℕ} {vs rest us dropped : List Value} {is : Code} (ls all ks : List Label) (t : Label) (ws : List Activation) → all ≡ ks ++ t ∷ ls → length ks ≡ l → Jumps vs is l rest → TakesOperands t.carries rest us dropped
      → Steps inst (running s (record { operands = vs; code = is; labels = all; locals = f; results = n }) ws) 1 (running s (record { operands = us ++ t.beneath; code = join t.next t.after_end; labels = ls; locals = f; results = n }) ws)
  jump_down s n f {us = us} {dropped = dropped} ls all ks t ws e k by_br z = (refl, (ks, ls, t, e, k, us, dropped, z, refl))
  jump_down s n f {us = us} {dropped = dropped} ls all ks t ws e k (by_br_if {i = i} {vs = vs} p) z = (refl, (i, vs, refl, inl (p, (ks, ls, t, e, k, us, dropped, z, refl))))
  jump_down s n f {us = us} {dropped = dropped} ls all ks t ws e k (by_br_table {i = i} {vs = vs} p) z = (refl, (i, vs, refl, (ks, ls, t, e, k ∙ p, us, dropped, z, refl)))

  down : (n : ℕ) {d k : ℕ} {s : Store} {f : List Value} {t : Term} {r : Config} (ls : List Label) (ws : List Activation) → d ≡ suc (length ws) → Reduces inst d (config s f t) k r → Steps inst (into s n f t ls ws) k (focus r n ls ws)
  unfolding into focus
  down n ls ws e (base b) = base_down n ls ws e b
  down n ls ws e (in_label {n = m} {vs = us} {next = next} {is = is} x) = down n (record { carries = m; next = next; beneath = us; after_end = is } ∷ ls) ws e x
  down n ls ws e (in_frame {n = m} {f = f} {vs = us} {is = is} x) = down m [] (record { operands = us; code = is; labels = ls; locals = f; results = n } ∷ ws) (omega arith) x
  down n ls ws e (trap_label {n = m} {vs = us} {next = next} {is = is} x) = down n (record { carries = m; next = next; beneath = us; after_end = is } ∷ ls) ws e x
  down n ls ws e (trap_frame {n = m} {f = f} {vs = us} {is = is} x) = down m [] (record { operands = us; code = is; labels = ls; locals = f; results = n } ∷ ws) (omega arith) x
  down n ls ws e (leave_label {n = m} {vs = us} {next = next} {is = is}) = (refl, inl (record { carries = m; next = next; beneath = us; after_end = is }, ls, refl, refl))
  down n ls ws e (leave_frame p) = (refl, inr (refl, p, refl))
  down n ls ws e (branch {n = m} {s = s} {f = f} {us = us} {vs = vs} {next = next} {is = is} b j z) =
      let l : Label = record { carries = m; next = next; beneath = vs; after_end = is } in
      let r = into_block s n f ws (l ∷ ls) b in
      subst (λ (w : Focused). Steps inst w 1 (running s (record { operands = us ++ vs; code = join next is; labels = ls; locals = f; results = n }) ws)) (sym r.2) (jump_down s n f ls r.0 r.1 l ws r.3 r.4 j z)
  down n ls ws e (returns {n = m} {s = s} {f = f} {g = g} {us = us} {dropped = dropped} {vs = vs} {is = is} b z) =
      let a : Activation = record { operands = vs; code = is; labels = ls; locals = f; results = n } in
      let r = into_block s m g (a ∷ ws) [] b in
      subst (λ (w : Focused). Steps inst w 1 (returned s us (a ∷ ws))) (sym r.2) (refl, (us, dropped, z, refl))

outer_down : {inst : Instance} {k n : ℕ} {s : Store} {g : List Value} {t : Term} {r : Config} → Reduces inst 0 (config s [] (frame [] n g t nothing)) k r → (c2 : Focused) × Steps inst (into s n g t [] []) k c2 × (r ≡ plug c2)
unfolding into focus
outer_down {s = s} {g = g} {r = r} (in_frame {n = n} {s2 = s2} {g2 = g2} {t2 = t2} x) = (into s2 n g2 t2 [] [], down _ n [] [] refl x, sym (plug_into s2 n g2 t2 [] []))
outer_down (trap_frame {n = n} {s2 = s2} {x = y} x) = (stopped s2 y, down _ n [] [] refl x, refl)
outer_down {s = s} (leave_frame {us = us} p) = (finished s us, (refl, inr (refl, p, refl)), ap (λ w. config s [] (code w nothing)) (append-nil us))
outer_down {inst = inst} {s = s} (returns {n = n} {g = g} {us = us} {dropped = dropped} b z) =
    let r = into_block s n g [] [] b in
    (finished s us, subst (λ (w : Focused). Steps inst w 1 (finished s us)) (sym r.2) (refl, (us, dropped, z, refl)), ap (λ w. config s [] (code w nothing)) (append-nil us))

pub reductions_step : (inst : Instance) (c : Focused) (k : ℕ) (r : Config) → Reduces inst 0 (plug c) k r → (c2 : Focused) × Steps inst c k c2 × (r ≡ plug c2)
unfolding into
reductions_step inst (running s a ws) k r x =
    let t : Term = inside (code a.operands a.code) a.labels in
    let o = outermost s a.results a.locals t ws in
    let y = outer_down (subst (λ (w : Term). Reduces inst 0 (config s [] w) k r) o.3 x) in
    let e = o.4 ∙ into_inside s a.results a.locals (code a.operands a.code) a.labels [] ws ∙ ap (λ ls. running s (record a { labels = ls }) ws) (append-nil a.labels) in
    (y.0, subst (λ (w : Focused). Steps inst w k y.0) e y.1, y.2)
reductions_step inst (finished s vs) k r x = absurd (done_stays x)
reductions_step inst (stopped s t) k r x = elim x [ ]
