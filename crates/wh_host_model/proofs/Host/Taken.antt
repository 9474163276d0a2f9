-- A step that is ready is taken.
use Rattle.std.proofs.Common.{◌≡◌, ◌≢◌, ℕ, zero, suc, ◌+◌, ◌<◌, ◌≤◌, List, [], ◌∷◌, ◌++◌, length, slice_get, Some, refl, sym, ap, subst, ◌∙◌, arith, append_assoc, rules}
use Rattle.wh_model.specs.declared.memory.Need.{Need}
use Rattle.wh_model.specs.Execution.Store.{Instance}
use Rattle.wh_model.specs.Execution.{Term, Config, config, After, IsNext, Asks, Piece, Call, Writes, wrote_all, Takes, took_all, took}
use Rattle.wh_model.specs.Execution.Memory.{writing}
use Rattle.wh_model.proofs.Chains.{one_after}
use Rattle.wh_space_model.specs.{Space, view}
use Rattle.wh_space_model.specs.Ready.{Ready}
use Rattle.wh_host_model.specs.Host.{StepsAlone, Rest, Doing, has_left, computing, Tenant, journal, store_with, Opens, by_invocation, as_it_was, Computes, Upshot, Proceeds, returns, traps, writes_all, uses_fuel, waits, waits_to_write, has_had_its_turn, gone_further, ended_by, Closes, faces_next, is_dead, is_idle, has_ended, has_no_fuel, has_no_frame, can_go_on, keeps_its_fault, IsStepReady, piece_is_ready, charge_is_ready, HasGoneOn, ReadyStepsAreTaken}
use Rattle.wh_host_model.specs.{Entry}
use Rattle.wh_host_model.proofs.Host.Stopping.{done_has_no_next, trap_has_no_next}

-- ---- the present call

head_there : (e f : Entry) (es fs : List Entry) → e ∷ es ≡ f ∷ fs → e ≡ f
head_there e f es fs h = cc h

nothing_open : (xs es : List Entry) (e : Entry) → xs ≡ [] → xs ≡ e ∷ es → ⊥
nothing_open xs es e a b = let no : [] ≡ e ∷ es = sym a ∙ b in cc no

pieces_there : (ps qs : List Piece) → has_left ps ≡ has_left qs → ps ≡ qs
pieces_there ps qs e = cc e

term_there : (t u : Term) → computing t ≡ computing u → t ≡ u
term_there t u e = cc e

never_both : (ps : List Piece) (t : Term) → has_left ps ≢ computing t
never_both ps t e = cc e

at_seam : (xs ys : List Entry) (e : Entry) → slice_get (xs ++ e ∷ ys) (length xs) ≡ Some e
at_seam [] ys e = refl
at_seam (x ∷ xs) ys e = at_seam xs ys e

-- ---- pieces

one_is_written : (p : Piece) (ps qs : List Piece) → qs ≡ p ∷ ps → 1 ≤ length qs
one_is_written p ps qs e = let n = ap length e in omega (arith, n)

-- what waits isn't the first piece, where that is ready
writes_some : {M : Type 0} {bytes : M → List ℕ} {ready : M → Need → Type 0} {keeps : M → M → Type 0} {m m2 : M} (ps qs more : List Piece) (p r : Piece)
    → Writes bytes ready keeps m qs m2 → p ∷ ps ≡ qs ++ r ∷ more → ready m (writing p.at (length p.items)) → ¬ (ready m2 (writing r.at (length r.items))) → 1 ≤ length qs
writes_some {ready = ready} {m = m} ps [] more p r wrote_all e now never = search rules
writes_some ps (x ∷ qs) more p r w e now never = omega arith

opens_some : {M : Type 0} {bytes : M → List ℕ} {ready : M → Need → Type 0} {keeps : M → M → Type 0} {inst : Instance} {call : Call} {k : ℕ} {m m2 : M} {r : Rest} {d : Doing} {c : Config} (p : Piece) (ps : List Piece)
    → d ≡ has_left (p ∷ ps) → Opens bytes ready keeps inst call m r d k m2 c → 1 ≤ k
opens_some p ps e (by_invocation {ps = qs} w i a) = one_is_written p ps qs (pieces_there qs (p ∷ ps) e)
opens_some p ps e (as_it_was {term = term} a) = absurd (never_both (p ∷ ps) term (sym e))

pieces_taken : {M : Type 0} {bytes : M → List ℕ} {ready : M → Need → Type 0} {keeps : M → M → Type 0} {inst : Instance} {q k n : ℕ} {call : Call} {m m2 : M} {r r2 : Rest} {d d2 : Doing} {to : Upshot} (p : Piece) (ps : List Piece)
    → d ≡ has_left (p ∷ ps) → ready m (writing p.at (length p.items)) → Proceeds bytes ready keeps inst q call m r d to k n m2 r2 d2 → 1 ≤ k + n
pieces_taken p ps e now (returns x y) = let k = opens_some p ps e x.opens in omega (arith, k)
pieces_taken p ps e now (traps x) = let k = opens_some p ps e x.opens in omega (arith, k)
pieces_taken p ps e now (writes_all {ps = qs} d f w) = let k = one_is_written p ps qs (pieces_there qs (p ∷ ps) (sym d ∙ e)) in omega (arith, k)
pieces_taken p ps e now (uses_fuel x n u) = let k = opens_some p ps e x.opens in omega (arith, k)
pieces_taken p ps e now (waits x n u a v) = let k = opens_some p ps e x.opens in omega (arith, k)
pieces_taken p ps e now (waits_to_write {ps = qs} {more = more} {p = x} d w v) = let k = writes_some ps qs more p x w (pieces_there (p ∷ ps) (qs ++ x ∷ more) (sym e ∙ d)) now v in omega (arith, k)
pieces_taken p ps e now (has_had_its_turn x n u v y) = let k = opens_some p ps e x.opens in omega (arith, k)

-- ---- charges

-- where it is after no charge
record Unmoved {M : Type 0} (m m2 : M) (c c2 : Config) : Type 0 where
  memory : m2 ≡ m
  there : c2 ≡ c

takes_none : {M : Type 0} {bytes : M → List ℕ} {ready : M → Need → Type 0} {keeps : M → M → Type 0} {inst : Instance} {m m2 : M} {c c2 : Config} {n : ℕ} → Takes bytes ready keeps inst m c n m2 c2 → n ≡ 0 → Unmoved m m2 c c2
takes_none took_all e = record { memory = refl; there = refl }
takes_none (took now one new steps rest) e = absurd (omega (arith, e))

opens_there : {M : Type 0} {bytes : M → List ℕ} {ready : M → Need → Type 0} {keeps : M → M → Type 0} {inst : Instance} {call : Call} {k : ℕ} {m m2 : M} {r : Rest} {d : Doing} {c c2 : Config} (term : Term)
    → d ≡ computing term → After inst (config (store_with (bytes m) r) [] term) 0 c2 → Opens bytes ready keeps inst call m r d k m2 c → Unmoved m m2 c2 c
opens_there term e after (by_invocation {ps = ps} w i a) = absurd (never_both ps term e)
opens_there {bytes = bytes} {inst = inst} {m = m} {r = r} {c = c} {c2 = c2} term e after (as_it_was {term = u} a) =
    search (rules, term_there, one_after)

unmoved : {M : Type 0} {bytes : M → List ℕ} {ready : M → Need → Type 0} {keeps : M → M → Type 0} {inst : Instance} {call : Call} {q k n : ℕ} {m m2 : M} {r : Rest} {d : Doing} {c c2 : Config} (term : Term)
    → d ≡ computing term → After inst (config (store_with (bytes m) r) [] term) 0 c2 → Computes bytes ready keeps inst q call m r d k n m2 c → n ≡ 0 → Unmoved m m2 c2 c
unmoved term e after x none = search (rules, opens_there, takes_none)

some_taken : (n : ℕ) → (n ≡ 0 → ⊥) → 1 ≤ n
some_taken zero never = absurd (never refl)
some_taken (suc n) never = omega arith

charges_taken : {M : Type 0} {bytes : M → List ℕ} {ready : M → Need → Type 0} {keeps : M → M → Type 0} {inst : Instance} {q k n : ℕ} {call : Call} {m m2 : M} {r r2 : Rest} {d d2 : Doing} {to : Upshot} (term : Term) (c : Config)
    → d ≡ computing term → After inst (config (store_with (bytes m) r) [] term) 0 c → IsNext inst c → call.charges < call.fuel → 1 ≤ q → ((need : Need) → Asks inst c need → ready m need)
    → Proceeds bytes ready keeps inst q call m r d to k n m2 r2 d2 → 1 ≤ k + n
charges_taken {inst = inst} {n = n} term c e after next fuel turn now (returns {vs = vs} x y) =
    let some = some_taken n (λ none. (let u = unmoved term e after x none in done_has_no_next _ _ refl (subst (IsNext inst) (sym u.there) next))) in omega (arith, some)
charges_taken {inst = inst} {n = n} term c e after next fuel turn now (traps x) =
    let some = some_taken n (λ none. (let u = unmoved term e after x none in trap_has_no_next _ _ refl (subst (IsNext inst) (sym u.there) next))) in omega (arith, some)
charges_taken term c e after next fuel turn now (writes_all {ps = ps} d f w) = absurd (never_both ps term (sym d ∙ e))
charges_taken {n = n} term c e after next fuel turn now (uses_fuel x y u) = let some = some_taken n (λ none. omega (arith, none, u, fuel)) in omega (arith, some)
charges_taken {ready = ready} {inst = inst} {n = n} term c e after next fuel turn now (waits {need = need} x y u a v) =
    let some = some_taken n (λ none. (let h = unmoved term e after x none in v (subst (λ z. ready z need) (sym h.memory) (now need (subst (λ z. Asks inst z need) h.there a))))) in omega (arith, some)
charges_taken term c e after next fuel turn now (waits_to_write {ps = qs} {more = more} {p = p} d w v) = absurd (never_both (qs ++ p ∷ more) term (sym d ∙ e))
charges_taken {n = n} term c e after next fuel turn now (has_had_its_turn x y u v z) = omega (arith, u, turn)

-- ---- a turn

proceeds_some : {q k n : ℕ} {s s2 : Space} {r : Rest} {d : Doing} {to : Upshot} (t : Tenant) (e : Entry) → IsStepReady q s t e
    → Proceeds (λ x. view x t.place) (λ x. Ready x t.place) (StepsAlone t.place) t.inst q e.call s t.rest t.doing to k n s2 r d → 1 ≤ k + n
proceeds_some t e (piece_is_ready {p = p} {ps = ps} there now) g = pieces_taken p ps there now g
proceeds_some t e (charge_is_ready {term = term} {c = c} there after next fuel turn now) g = charges_taken term c there after next fuel turn now g

further : (e : Entry) (k n : ℕ) → 1 ≤ k + n → e.call.fragments + e.call.charges < (gone_further e k n).call.fragments + (gone_further e k n).call.charges
further e k n some = omega (arith, some)

closed_on : {s : Space} {t t2 : Tenant} {e2 : Entry} {es : List Entry} {r : Rest} → Closes s t e2 es r t2 → slice_get (journal t2) (length t.ended) ≡ Some e2
closed_on {t = t} {e2 = e2} {es = es} (faces_next a f) = ap (λ xs. slice_get xs (length t.ended)) (append_assoc t.ended (e2 ∷ []) es) ∙ at_seam t.ended es e2
closed_on {t = t} {e2 = e2} {es = es} (is_dead d) = search rules

step_ready_of : {q : ℕ} {s : Space} {t : Tenant} {e f : Entry} → e ≡ f → IsStepReady q s t e → IsStepReady q s t f
step_ready_of {q = q} {s = s} {t = t} same r = subst (IsStepReady q s t) same r

gone_from : (t t2 : Tenant) {e f : Entry} → e ≡ f → HasGoneOn t t2 f → HasGoneOn t t2 e
gone_from t t2 same h = subst (HasGoneOn t t2) (sym same) h

pub ready_steps_are_taken : ReadyStepsAreTaken
ready_steps_are_taken q s s2 t t2 answer e es open_call ready (is_idle none) = absurd (nothing_open t.open_calls es e none open_call)
ready_steps_are_taken q s s2 t t2 answer e es open_call ready (has_ended {e = f} {es = fs} {o = o} {k = k} {n = n} there g leaves pins c) =
    let same = head_there e f es fs (sym open_call ∙ there) in
    gone_from t t2 same (ended_by (gone_further f k n) o, closed_on c, further f k n (proceeds_some t f (step_ready_of same ready) g))
ready_steps_are_taken q s s2 t t2 answer e es open_call ready (has_no_fuel {e = f} {es = fs} {k = k} {n = n} there g leaves pins) =
    let same = head_there e f es fs (sym open_call ∙ there) in
    gone_from t t2 same (gone_further f k n, at_seam t.ended fs (gone_further f k n), further f k n (proceeds_some t f (step_ready_of same ready) g))
ready_steps_are_taken q s s2 t t2 answer e es open_call ready (has_no_frame {e = f} {es = fs} {k = k} {n = n} there g leaves pins) =
    let same = head_there e f es fs (sym open_call ∙ there) in
    gone_from t t2 same (gone_further f k n, at_seam t.ended fs (gone_further f k n), further f k n (proceeds_some t f (step_ready_of same ready) g))
ready_steps_are_taken q s s2 t t2 answer e es open_call ready (can_go_on {e = f} {es = fs} {k = k} {n = n} there g leaves pins fault) =
    let same = head_there e f es fs (sym open_call ∙ there) in
    gone_from t t2 same (gone_further f k n, at_seam t.ended fs (gone_further f k n), further f k n (proceeds_some t f (step_ready_of same ready) g))
ready_steps_are_taken q s s2 t t2 answer e es open_call (piece_is_ready {p = p} {ps = ps} d now) (keeps_its_fault {term = term} there stands doing none next fuel ready) = absurd (never_both (p ∷ ps) term (sym d ∙ doing))
ready_steps_are_taken q s s2 t t2 answer e es open_call (charge_is_ready d after step fuel turn now) (keeps_its_fault there stands doing none next fuel2 ready) = absurd (omega (arith, none, turn))
