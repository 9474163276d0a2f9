-- A configuration has at most one reduction.
use Rattle.std.proofs.Common.{◌≡◌, ℕ, suc, ◌≤◌, List, ◌++◌, refl, ap, subst, arith}
use Rattle.wh_model.specs.Format.{Code, return, plain, nothing, join}
use Rattle.wh_model.specs.Execution.Store.{Instance, Store}
use Rattle.wh_model.specs.Execution.{Value, Term, code, label, frame, Config, config, trapped, TakesOperands, Block, hole, inner, pure, traps, invoke, Jumps, Reduces, base, in_label, in_frame, trap_label, trap_frame, leave_label, leave_frame, branch, returns}
use Rattle.wh_model.proofs.OneRule.{takes_same, base_same, jumps_same, jump_not_base}

-- a term has one block context
jump_context : {j k l m : ℕ} {t : Term} {vs us ws rs : List Value} {is js : Code} → Block j t vs is → Block k t ws js → Jumps vs is l us → Jumps ws js m rs → (j ≡ k) × (l ≡ m) × (us ≡ rs)
jump_context hole hole x y = let r = jumps_same x y in (refl, r.0, r.1)
jump_context (inner b) (inner c) x y = let r = jump_context b c x y in (ap suc r.0, r.1, r.2)

return_context : {j k : ℕ} {t : Term} {vs ws : List Value} {is js : Code} → Block j t vs is → Block k t ws js → vs ≡ ws
return_context hole hole = refl
return_context (inner b) (inner c) = return_context b c

jump_or_return : {j k l : ℕ} {t : Term} {vs us ws : List Value} {is js : Code} → Block j t vs (plain return is) → Block k t ws js → Jumps ws js l us → ⊥
jump_or_return hole hole x = elim x [ ]
jump_or_return (inner b) (inner c) x = jump_or_return b c x

-- operands with no instruction are the end
pub done_stays : {inst : Instance} {d k : ℕ} {s : Store} {f vs : List Value} {c : Config} → Reduces inst d (config s f (code vs nothing)) k c → ⊥
done_stays (base (pure b)) = elim b [ ]
done_stays (base (traps b)) = elim b [ ]
done_stays (base (invoke b p)) = elim b [ ]

done_not_jump : {k l : ℕ} {us vs ws : List Value} {is : Code} → Block k (code us nothing) vs is → Jumps vs is l ws → ⊥
done_not_jump hole x = elim x [ ]

-- a branch out of all labels of a term is no reduction of that term
jump_waits : {inst : Instance} {d j k l : ℕ} {s : Store} {f vs us : List Value} {t : Term} {is : Code} {c : Config} → Block k t vs is → Jumps vs is l us → k ≤ l → Reduces inst d (config s f t) j c → ⊥
jump_waits hole x p (base b) = jump_not_base x b
jump_waits (inner b) x p (in_label r) = jump_waits b x (omega arith) r
jump_waits (inner b) x p (trap_label r) = jump_waits b x (omega arith) r
jump_waits (inner b) x p leave_label = done_not_jump b x
jump_waits (inner b) x p (branch c y z) = let r = jump_context b c x y in absurd (omega (arith, p, r.0, r.1))

return_waits : {inst : Instance} {d j k : ℕ} {s : Store} {f vs : List Value} {t : Term} {is : Code} {c : Config} → Block k t vs (plain return is) → Reduces inst d (config s f t) j c → ⊥
return_waits hole (base (pure b)) = elim b [ ]
return_waits hole (base (traps b)) = elim b [ ]
return_waits hole (base (invoke b p)) = elim b [ ]
return_waits (inner b) (in_label r) = return_waits b r
return_waits (inner b) (trap_label r) = return_waits b r
return_waits (inner b) leave_label = elim b [ ]
return_waits (inner b) (branch c y z) = jump_or_return b c y

in_label_of : List Value → ℕ → Code → Code → Config → Config
in_label_of vs n next is (config s f t) = config s f (label vs n next t is)
in_label_of vs n next is (trapped s x) = trapped s x

in_frame_of : List Value → ℕ → List Value → Code → Config → Config
in_frame_of vs n f is (config s g t) = config s f (frame vs n g t is)
in_frame_of vs n f is (trapped s x) = trapped s x

-- at most one charge and one configuration follow
pub reduces_same : {inst : Instance} {d j k : ℕ} {a b c : Config} → Reduces inst d a j b → Reduces inst d a k c → (j ≡ k) × (b ≡ c)
unfolding in_label_of in_frame_of
reduces_same (base x) (base y) = base_same x y
reduces_same (in_label {n = n} {vs = vs} {next = next} {is = is} x) (in_label y) = let r = reduces_same x y in (r.0, ap (in_label_of vs n next is) r.1)
reduces_same (in_label {n = n} {vs = vs} {next = next} {is = is} x) (trap_label y) = let r = reduces_same x y in (r.0, ap (in_label_of vs n next is) r.1)
reduces_same (in_label x) leave_label = absurd (done_stays x)
reduces_same (in_label x) (branch b j z) = absurd (jump_waits b j (omega arith) x)
reduces_same (trap_label {n = n} {vs = vs} {next = next} {is = is} x) (in_label y) = let r = reduces_same x y in (r.0, ap (in_label_of vs n next is) r.1)
reduces_same (trap_label {n = n} {vs = vs} {next = next} {is = is} x) (trap_label y) = let r = reduces_same x y in (r.0, ap (in_label_of vs n next is) r.1)
reduces_same (trap_label x) leave_label = absurd (done_stays x)
reduces_same (trap_label x) (branch b j z) = absurd (jump_waits b j (omega arith) x)
reduces_same leave_label (in_label y) = absurd (done_stays y)
reduces_same leave_label (trap_label y) = absurd (done_stays y)
reduces_same leave_label leave_label = (refl, refl)
reduces_same leave_label (branch b j z) = absurd (done_not_jump b j)
reduces_same (branch b j z) (in_label y) = absurd (jump_waits b j (omega arith) y)
reduces_same (branch b j z) (trap_label y) = absurd (jump_waits b j (omega arith) y)
reduces_same (branch b j z) leave_label = absurd (done_not_jump b j)
reduces_same (branch {n = n} {s = s} {f = f} {rest = o1} {us = us1} {dropped = d1} {vs = vs} {next = next} {is = is} b j z) (branch {rest = o2} {us = us2} {dropped = d2} c k w) =
    let h = takes_same n n o2 us1 d1 us2 d2 refl (subst (λ o. TakesOperands n o us1 d1) (jump_context b c j k).2 z) w in
    (refl, ap (λ u. config s f (code (u ++ vs) (join next is))) h.0)
reduces_same (in_frame {n = n} {f = f} {vs = vs} {is = is} x) (in_frame y) = let r = reduces_same x y in (r.0, ap (in_frame_of vs n f is) r.1)
reduces_same (in_frame {n = n} {f = f} {vs = vs} {is = is} x) (trap_frame y) = let r = reduces_same x y in (r.0, ap (in_frame_of vs n f is) r.1)
reduces_same (in_frame x) (leave_frame p) = absurd (done_stays x)
reduces_same (in_frame x) (returns b z) = absurd (return_waits b x)
reduces_same (trap_frame {n = n} {f = f} {vs = vs} {is = is} x) (in_frame y) = let r = reduces_same x y in (r.0, ap (in_frame_of vs n f is) r.1)
reduces_same (trap_frame {n = n} {f = f} {vs = vs} {is = is} x) (trap_frame y) = let r = reduces_same x y in (r.0, ap (in_frame_of vs n f is) r.1)
reduces_same (trap_frame x) (leave_frame p) = absurd (done_stays x)
reduces_same (trap_frame x) (returns b z) = absurd (return_waits b x)
reduces_same (leave_frame p) (in_frame y) = absurd (done_stays y)
reduces_same (leave_frame p) (trap_frame y) = absurd (done_stays y)
reduces_same (leave_frame p) (leave_frame q) = (refl, refl)
reduces_same (leave_frame p) (returns b z) = elim b [ ]
reduces_same (returns b z) (in_frame y) = absurd (return_waits b y)
reduces_same (returns b z) (trap_frame y) = absurd (return_waits b y)
reduces_same (returns b z) (leave_frame p) = elim b [ ]
reduces_same (returns {n = n} {s = s} {f = f} {operands = o1} {us = us1} {dropped = d1} {vs = vs} {is = is} b z) (returns {operands = o2} {us = us2} {dropped = d2} c w) =
    let h = takes_same n n o2 us1 d1 us2 d2 refl (subst (λ o. TakesOperands n o us1 d1) (return_context b c) z) w in
    (refl, ap (λ u. config s f (code (u ++ vs) is)) h.0)
