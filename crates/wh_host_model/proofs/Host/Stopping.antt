-- How far a call comes in a turn that doesn't wait is determined, whatever else memory is at each step.
use Rattle.std.proofs.Common.{◌≡◌, ℕ, zero, suc, ◌+◌, ◌<◌, ◌≤◌, ◌⊎◌, ⊎_elim, inl, inr, List, [], length, reverse, None, refl, sym, ap, subst, ◌∙◌, arith, rules}
use Rattle.std.proofs.lemmas.List.{reverse-reverse}
use Rattle.wh_model.specs.declared.Trap.{Trap}
use Rattle.wh_model.specs.declared.memory.Need.{Need}
use Rattle.wh_model.specs.Format.{Code, nothing}
use Rattle.wh_model.specs.Execution.Store.{Instance, Store}
use Rattle.wh_model.specs.Execution.{Value, Term, code, Config, config, trapped, Reduces, Leads, stays, goes_on, IsSettled, After, IsNext, Piece, returned, stopped, Call, with_pieces, Invocation}
use Rattle.wh_model.proofs.Chains.{after_joins, after_splits, one_after}
use Rattle.wh_model.proofs.OneReduction.{done_stays, reduces_same}
use Rattle.wh_model.proofs.Journals.{invocation_same}
use Rattle.wh_model.proofs.Taken.{takes_after}
use Rattle.wh_host_model.specs.Host.{Rest, Doing, resting, has_left, computing, store_with, Opens, by_invocation, as_it_was, Computes, Upshot, to_end, out_of_fuel, to_wait, to_go_on, Proceeds, returns, traps, writes_all, uses_fuel, waits, waits_to_write, has_had_its_turn}
use Rattle.wh_host_model.proofs.Host.Opening.{writes_view}

-- ---- where a call begins in a turn

abbrev pub FirstAt : Instance → Call → Store → Doing → ℕ → Config → Type 0
FirstAt inst call s resting k c = ⊥
FirstAt inst call s (has_left ps) k c = (k ≡ length ps) × Invocation inst (with_pieces s ps) call c
FirstAt inst call s (computing term) k c = (k ≡ 0) × (c ≡ config s [] term)

first_same : (inst : Instance) (call : Call) (s : Store) (d : Doing) {k k2 : ℕ} {a b : Config} → FirstAt inst call s d k a → FirstAt inst call s d k2 b → (k ≡ k2) × (a ≡ b)
first_same inst call s resting x y = absurd x
first_same inst call s (has_left ps) x y = (x.0 ∙ sym y.0, invocation_same inst (with_pieces s ps) call x.1 y.1)
first_same inst call s (computing term) x y = (x.0 ∙ sym y.0, x.1 ∙ sym y.1)

-- ---- and where it stops

pub data StopsAt (inst : Instance) (q : ℕ) (call : Call) (n : ℕ) (c : Config) : Upshot → Store → Doing → Type 0 where
  at_return : {s : Store} {vs : List Value} → c ≡ config s [] (code (reverse vs) nothing) → StopsAt inst q call n c (to_end (returned vs)) s resting
  at_trap : {s : Store} {x : Trap} → c ≡ trapped s x → StopsAt inst q call n c (to_end (stopped x)) s resting
  at_fuel : {s : Store} {term : Term} → c ≡ config s [] term → IsNext inst c → call.charges + n ≡ call.fuel → StopsAt inst q call n c out_of_fuel s (computing term)
  at_turn : {s : Store} {term : Term} → c ≡ config s [] term → IsNext inst c → n ≡ q → call.charges + n < call.fuel → StopsAt inst q call n c to_go_on s (computing term)

pub data Reached (inst : Instance) (q : ℕ) (call : Call) (s : Store) (d : Doing) : Upshot → ℕ → ℕ → Store → Doing → Type 0 where
  by_steps : {to : Upshot} {k n : ℕ} {first c : Config} {s2 : Store} {d2 : Doing}
      → FirstAt inst call s d k first → After inst first n c → n ≤ q → call.charges + n ≤ call.fuel → StopsAt inst q call n c to s2 d2 → Reached inst q call s d to k n s2 d2
  by_pieces : {ps : List Piece} → d ≡ has_left ps → call.func ≡ None → Reached inst q call s d (to_end (returned [])) (length ps) 0 (with_pieces s ps) resting

pub is_settled : {inst : Instance} {c : Config} → IsNext inst c → IsSettled inst c
is_settled next c2 r = let h = reduces_same r next.1 in let e = h.0 in omega (arith, e)

-- ---- a turn reaches it

record Firstly (inst : Instance) (call : Call) (s : Store) (d : Doing) (k n : ℕ) (c : Config) : Type 0 where
  first : Config
  at : FirstAt inst call s d k first
  after : After inst first n c

opens_first : {M : Type 0} {bytes : M → List ℕ} {ready : M → Need → Type 0} {keeps : M → M → Type 0} {inst : Instance} {call : Call} {k : ℕ} {m m2 : M} {r : Rest} {d : Doing} {c : Config}
    → Opens bytes ready keeps inst call m r d k m2 c → Firstly inst call (store_with (bytes m) r) d k 0 c
opens_first {inst = inst} {call = call} {r = r} (by_invocation {c = c} w i a) = record { first = c; at = (refl, subst (λ z. Invocation inst z call c) (writes_view r w) i); after = a }
opens_first {bytes = bytes} {m = m} {r = r} (as_it_was {term = term} a) = record { first = config (store_with (bytes m) r) [] term; at = (refl, refl); after = a }

computes_first : {M : Type 0} {bytes : M → List ℕ} {ready : M → Need → Type 0} {keeps : M → M → Type 0} {inst : Instance} {call : Call} {q k n : ℕ} {m m2 : M} {r : Rest} {d : Doing} {c : Config}
    → Computes bytes ready keeps inst q call m r d k n m2 c → Firstly inst call (store_with (bytes m) r) d k n c
computes_first {inst = inst} {n = n} {c = c} x =
    let o = opens_first x.opens in
    let same : 0 + n ≡ n = omega arith in
    record { first = o.first; at = o.at; after = subst (λ i. After inst o.first i c) same (after_joins inst 0 n o.first x.opened c o.after (takes_after x.takes o.after.1)) }

abbrev pub DoesntWait : Upshot → Type 0
DoesntWait (to_wait need) = ⊥
DoesntWait other = Unit {0}

pub reached : {M : Type 0} {bytes : M → List ℕ} {ready : M → Need → Type 0} {keeps : M → M → Type 0} {inst : Instance} {q k n : ℕ} {call : Call} {m m2 : M} {d d2 : Doing} {r r2 : Rest} {to : Upshot}
    → DoesntWait to → Proceeds bytes ready keeps inst q call m r d to k n m2 r2 d2 → Reached inst q call (store_with (bytes m) r) d to k n (store_with (bytes m2) r2) d2
reached go (returns x typed) = let f = computes_first x in by_steps f.at f.after x.in_turn x.in_fuel (at_return refl)
reached go (traps x) = let f = computes_first x in by_steps f.at f.after x.in_turn x.in_fuel (at_trap refl)
reached {bytes = bytes} {inst = inst} {q = q} {call = call} {m = m} {d = d} {r = r} go (writes_all {ps = ps} e f w) =
    subst (λ z. Reached inst q call (store_with (bytes m) r) d (to_end (returned [])) (length ps) 0 z resting) (sym (writes_view r w)) (by_pieces e f)
reached go (uses_fuel x next u) = let f = computes_first x in by_steps f.at f.after x.in_turn x.in_fuel (at_fuel refl next u)
reached go (waits x next u a v) = absurd go
reached go (waits_to_write e w v) = absurd go
reached go (has_had_its_turn x next u v y) = let f = computes_first x in by_steps f.at f.after x.in_turn x.in_fuel (at_turn refl next u v)

-- ---- it can't stop before, or go on behind

pub further_on : {inst : Instance} {a c c2 : Config} (n j n2 : ℕ) → After inst a n c → After inst a n2 c2 → n + j ≡ n2 → After inst c j c2
further_on {inst} {a} {c} {c2} n j n2 x y e = search (rules, after_splits, one_after)

pub done_stops : {inst : Instance} {j : ℕ} {s : Store} {f vs : List Value} {c : Config} → Leads inst (config s f (code vs nothing)) j c → j ≡ 0
done_stops stays = refl
done_stops (goes_on k n x r) = absurd (done_stays x)

trap_stays : {inst : Instance} {d k : ℕ} {s : Store} {x : Trap} {c : Config} → Reduces inst d (trapped s x) k c → ⊥
trap_stays r = elim r [ ]

pub trap_stops : {inst : Instance} {j : ℕ} {s : Store} {x : Trap} {c : Config} → Leads inst (trapped s x) j c → j ≡ 0
trap_stops stays = refl
trap_stops (goes_on k n x r) = absurd (trap_stays x)

not_less : {inst : Instance} {q n : ℕ} {call : Call} {c c2 : Config} {to : Upshot} {s : Store} {d : Doing} (j : ℕ) → StopsAt inst q call n c to s d → After inst c (suc j) c2 → n + suc j ≤ q → call.charges + (n + suc j) ≤ call.fuel → ⊥
not_less {inst} {c2 = c2} j (at_return e) a lq lf = let h = done_stops (subst (λ x. Leads inst x (suc j) c2) e a.0) in omega (arith, h)
not_less {inst} {c2 = c2} j (at_trap e) a lq lf = let h = trap_stops (subst (λ x. Leads inst x (suc j) c2) e a.0) in omega (arith, h)
not_less j (at_fuel e next u) a lq lf = omega (arith, u, lf)
not_less j (at_turn e next u v) a lq lf = omega (arith, u, lq)

-- ---- it stops in one way

pub record SameStop (to to2 : Upshot) (s s2 : Store) (d d2 : Doing) : Type 0 where
  pub upshots : to ≡ to2
  pub stores : s ≡ s2
  pub doings : d ≡ d2

pub store_same : (s s2 : Store) (f f2 : List Value) (t t2 : Term) → config s f t ≡ config s2 f2 t2 → s ≡ s2
store_same s s2 f f2 t t2 e = cc e

pub term_same : (s s2 : Store) (f f2 : List Value) (t t2 : Term) → config s f t ≡ config s2 f2 t2 → t ≡ t2
term_same s s2 f f2 t t2 e = cc e

pub values_same : (vs ws : List Value) (is js : Code) → code vs is ≡ code ws js → vs ≡ ws
values_same vs ws is js e = cc e

pub trap_same : (s s2 : Store) (x y : Trap) → trapped s x ≡ trapped s2 y → (s ≡ s2) × (x ≡ y)
trap_same s s2 x y e = (cc e, cc e)

pub never_trapped : (s s2 : Store) (x : Trap) (t : Term) → config s [] t ≡ trapped s2 x → ⊥
never_trapped s s2 x t e = cc e

pub done_has_no_next : {inst : Instance} {c : Config} (s : Store) (vs : List Value) → c ≡ config s [] (code vs nothing) → IsNext inst c → ⊥
done_has_no_next {inst} s vs e next = let n = subst (λ x. IsNext inst x) e next in done_stays n.1

pub trap_has_no_next : {inst : Instance} {c : Config} (s : Store) (x : Trap) → c ≡ trapped s x → IsNext inst c → ⊥
trap_has_no_next {inst} s x e next = let n = subst (λ y. IsNext inst y) e next in trap_stays n.1

stop_same : {inst : Instance} {q n : ℕ} {call : Call} {c : Config} {to to2 : Upshot} {s s2 : Store} {d d2 : Doing} → StopsAt inst q call n c to s d → StopsAt inst q call n c to2 s2 d2 → SameStop to to2 s s2 d d2
stop_same (at_return {s = s} {vs = vs} e) (at_return {s = s2} {vs = ws} e2) =
    let same = sym e ∙ e2 in
    let values : reverse vs ≡ reverse ws = values_same (reverse vs) (reverse ws) nothing nothing (term_same s s2 [] [] (code (reverse vs) nothing) (code (reverse ws) nothing) same) in
    let back : vs ≡ ws = sym (reverse-reverse vs) ∙ ap reverse values ∙ reverse-reverse ws in
    record { upshots = ap (λ x. to_end (returned x)) back; stores = store_same s s2 [] [] (code (reverse vs) nothing) (code (reverse ws) nothing) same; doings = refl }
stop_same (at_return {s = s} {vs = vs} e) (at_trap {s = s2} {x = x} e2) = absurd (never_trapped s s2 x (code (reverse vs) nothing) (sym e ∙ e2))
stop_same (at_return {s = s} {vs = vs} e) (at_fuel e2 next u) = absurd (done_has_no_next s (reverse vs) e next)
stop_same (at_return {s = s} {vs = vs} e) (at_turn e2 next u v) = absurd (done_has_no_next s (reverse vs) e next)
stop_same (at_trap {s = s2} {x = x} e) (at_return {s = s} {vs = vs} e2) = absurd (never_trapped s s2 x (code (reverse vs) nothing) (sym e2 ∙ e))
stop_same (at_trap {s = s} {x = x} e) (at_trap {s = s2} {x = y} e2) = let same = trap_same s s2 x y (sym e ∙ e2) in record { upshots = ap (λ z. to_end (stopped z)) same.1; stores = same.0; doings = refl }
stop_same (at_trap {s = s} {x = x} e) (at_fuel e2 next u) = absurd (trap_has_no_next s x e next)
stop_same (at_trap {s = s} {x = x} e) (at_turn e2 next u v) = absurd (trap_has_no_next s x e next)
stop_same (at_fuel e next u) (at_return {s = s} {vs = vs} e2) = absurd (done_has_no_next s (reverse vs) e2 next)
stop_same (at_fuel e next u) (at_trap {s = s} {x = x} e2) = absurd (trap_has_no_next s x e2 next)
stop_same (at_fuel {s = s} {term = t} e next u) (at_fuel {s = s2} {term = t2} e2 next2 u2) = search rules
stop_same (at_fuel e next u) (at_turn e2 next2 u2 v2) = absurd (omega (arith, u, v2))
stop_same (at_turn e next u v) (at_return {s = s} {vs = vs} e2) = absurd (done_has_no_next s (reverse vs) e2 next)
stop_same (at_turn e next u v) (at_trap {s = s} {x = x} e2) = absurd (trap_has_no_next s x e2 next)
stop_same (at_turn e next u v) (at_fuel e2 next2 u2) = absurd (omega (arith, v, u2))
stop_same (at_turn {s = s} {term = t} e next u v) (at_turn {s = s2} {term = t2} e2 next2 u2 v2) = search rules

-- ---- a call reaches one thing

pub apart_by : (m n : ℕ) → (m ≡ n) ⊎ (((j : ℕ) × (m + suc j ≡ n)) ⊎ ((j : ℕ) × (n + suc j ≡ m)))
apart_by zero zero = inl refl
apart_by zero (suc n) = inr (inl (n, omega arith))
apart_by (suc m) zero = inr (inr (m, omega arith))
apart_by (suc m) (suc n) =
    ⊎_elim
    (λ (e : m ≡ n). inl (ap suc e))
    (λ h. inr (⊎_elim (λ (x : (j : ℕ) × (m + suc j ≡ n)). let e = x.1 in inl (x.0, omega (arith, e))) (λ (x : (j : ℕ) × (n + suc j ≡ m)). let e = x.1 in inr (x.0, omega (arith, e))) h))
    (apart_by m n)

pub record SameReach (to to2 : Upshot) (k k2 n n2 : ℕ) (s s2 : Store) (d d2 : Doing) : Type 0 where
  pub pieces : k ≡ k2
  pub charges : n ≡ n2
  pub stop : SameStop to to2 s s2 d d2

never_begins : (inst : Instance) (call : Call) (s : Store) (d : Doing) (k : ℕ) (c : Config) (ps : List Piece) → d ≡ has_left ps → call.func ≡ None → FirstAt inst call s d k c → ⊥
never_begins inst call s d k c ps e none f = search rules

pub reach_same : {inst : Instance} {q k k2 n n2 : ℕ} {call : Call} {s s2 s3 : Store} {d d2 d3 : Doing} {to to2 : Upshot} → Reached inst q call s d to k n s2 d2 → Reached inst q call s d to2 k2 n2 s3 d3 → SameReach to to2 k k2 n n2 s2 s3 d2 d3
reach_same {inst} {q} {k} {k2} {n} {n2} {call} {s} {s2} {s3} {d} {d2} {d3} {to} {to2} (by_steps {first = a} {c = c} f x lq lf stop) (by_steps {first = b} {c = c2} g y lq2 lf2 stop2) =
    let first = first_same inst call s d f g in
    let z : After inst a n2 c2 = subst (λ w. After inst w n2 c2) (sym first.1) y in
    ⊎_elim
    (λ (e : n ≡ n2).
    let same : c ≡ c2 = one_after inst n2 a c c2 (subst (λ i. After inst a i c) e x) z in
    record {
      pieces = first.0;
      charges = e;
      stop = stop_same (subst (λ i. StopsAt inst q call i c to s2 d2) e stop) (subst (λ w. StopsAt inst q call n2 w to2 s3 d3) (sym same) stop2);
    })
    (λ h. absurd (⊎_elim
    (λ (v : (j : ℕ) × (n + suc j ≡ n2)). let e = v.1 in not_less v.0 stop (further_on n (suc v.0) n2 x z e) (omega (arith, e, lq2)) (omega (arith, e, lf2)))
    (λ (v : (j : ℕ) × (n2 + suc j ≡ n)). let e = v.1 in not_less v.0 stop2 (further_on n2 (suc v.0) n z x e) (omega (arith, e, lq)) (omega (arith, e, lf)))
    h))
    (apart_by n n2)
reach_same {inst} {q} {call = call} {s = s} {d = d} (by_steps {k = k} {first = c} f x lq lf stop) (by_pieces {ps = ps} e none) = absurd (never_begins inst call s d k c ps e none f)
reach_same {inst} {q} {call = call} {s = s} {d = d} (by_pieces {ps = ps} e none) (by_steps {k = k} {first = c} f x lq lf stop) = absurd (never_begins inst call s d k c ps e none f)
reach_same {s = s} (by_pieces {ps = ps} e none) (by_pieces {ps = qs} e2 none2) = search rules
