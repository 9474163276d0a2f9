-- A turn that isn't answered Frame is determined.
use Rattle.std.proofs.Common.{◌≡◌, ◌≢◌, ℕ, ◌+◌, ◌<◌, true, false, List, [], ◌∷◌, ◌++◌, Option, Some, None, refl, sym, ap, subst, ◌∙◌, arith, rules}
use Rattle.wh_model.specs.Execution.Store.{Store}
use Rattle.wh_model.specs.Execution.{Term, config, stays, IsNext, Outcome}
use Rattle.wh_host_model.specs.declared.plain.TurnEnd.{TurnEnd}
use Rattle.wh_host_model.specs.declared.plain.TurnEnd.TheVariants.{Again, Fuel, Frame, Ended}
use Rattle.wh_space_model.specs.{Space, view}
use Rattle.wh_host_model.specs.Host.{Rest, Doing, computing, Suspension, for_fuel, Tenant, store_with, store_in, Upshot, to_end, out_of_fuel, to_go_on, gone_further, ended_by, gone_on, Closes, faces_next, is_dead, Turn, is_idle, has_ended, has_no_fuel, has_no_frame, can_go_on, keeps_its_fault, rest_of, SameTurn, OneTurn}
use Rattle.wh_host_model.specs.{Entry}
use Rattle.wh_host_model.proofs.Host.Stopping.{Reached, by_steps, at_turn, is_settled, reached, SameReach, reach_same}

-- ---- the present call

head_same : (e e2 : Entry) (es es2 : List Entry) → e ∷ es ≡ e2 ∷ es2 → e ≡ e2
head_same e e2 es es2 h = cc h

tail_same : (e e2 : Entry) (es es2 : List Entry) → e ∷ es ≡ e2 ∷ es2 → es ≡ es2
tail_same e e2 es es2 h = cc h

-- both turns, of one call
reaches : {q k k2 n n2 : ℕ} (s : Space) (t : Tenant) {e e2 : Entry} {es es2 : List Entry} {to to2 : Upshot} {s2 s3 : Store} {d2 d3 : Doing} → t.open_calls ≡ e ∷ es → t.open_calls ≡ e2 ∷ es2
    → Reached t.inst q e.call (store_in s t) t.doing to k n s2 d2 → Reached t.inst q e2.call (store_in s t) t.doing to2 k2 n2 s3 d3 → SameReach to to2 k k2 n n2 s2 s3 d2 d3
reaches {q} {k2 = k2} {n2 = n2} s t {e = e} {e2 = e2} {es = es} {es2 = es2} {to2 = to2} {s3 = s3} {d3 = d3} x y g h =
    search (rules, head_same, reach_same)

-- a call that keeps its device fault reaches what it was at
kept_reach : (q : ℕ) (s : Space) (t : Tenant) (e : Entry) (term : Term) → t.doing ≡ computing term → q ≡ 0 → IsNext t.inst (config (store_in s t) [] term) → e.call.charges < e.call.fuel
    → Reached t.inst q e.call (store_in s t) t.doing to_go_on 0 0 (store_in s t) (computing term)
kept_reach q s t e term doing none next fuel =
    let at : Reached t.inst q e.call (store_in s t) (computing term) to_go_on 0 0 (store_in s t) (computing term) =
    by_steps (refl, refl) (stays, is_settled next) (omega arith) (omega (arith, fuel)) (at_turn refl next (sym none) (omega (arith, fuel))) in
    subst (λ d. Reached t.inst q e.call (store_in s t) d to_go_on 0 0 (store_in s t) (computing term)) (sym doing) at

-- ---- what is left

rest_same : (b b2 : List ℕ) (r r2 : Rest) → store_with b r ≡ store_with b2 r2 → r ≡ r2
rest_same b b2 r r2 e = ap rest_of e

bytes_same : (b b2 : List ℕ) (r r2 : Rest) → store_with b r ≡ store_with b2 r2 → b ≡ b2
bytes_same b b2 r r2 e = ap (λ (s : Store). s.bytes) e

term_there : (s s2 : Store) (x y : Term) → config s [] x ≡ config s2 [] y → x ≡ y
term_there s s2 x y e = cc e

closes_same : {s s2 : Space} {t t2 t3 : Tenant} {e : Entry} {es : List Entry} {r : Rest} → view s t.place ≡ view s2 t.place → Closes s t e es r t2 → Closes s2 t e es r t3 → t2 ≡ t3
closes_same {s = s} {s2 = s2} {t = t} {e = e} {es = es} {r = r} v (faces_next alive f) (faces_next alive2 g) = search rules
closes_same v (faces_next alive f) (is_dead died) = absurd (let no : false ≡ true = sym alive ∙ died in cc no)
closes_same v (is_dead died) (faces_next alive f) = absurd (let no : false ≡ true = sym alive ∙ died in cc no)
closes_same v (is_dead died) (is_dead died2) = refl

closes_place : {s : Space} {t t2 : Tenant} {e : Entry} {es : List Entry} {r : Rest} → Closes s t e es r t2 → t2.place ≡ t.place
closes_place (faces_next a f) = refl
closes_place (is_dead d) = refl

-- ---- each two answers

outcome_same : (o o2 : Outcome) → to_end o ≡ to_end o2 → o ≡ o2
outcome_same o o2 e = cc e

entry_same : {e e2 : Entry} {k k2 n n2 : ℕ} → e ≡ e2 → k ≡ k2 → n ≡ n2 → gone_further e k n ≡ gone_further e2 k2 n2
entry_same a b c = rw (a, b, c) refl

gone_same : (t : Tenant) (o : Option Suspension) {e e2 : Entry} {es es2 : List Entry} {r r2 : Rest} {d d2 : Doing} → e ≡ e2 → es ≡ es2 → r ≡ r2 → d ≡ d2 → gone_on t e es r d o ≡ gone_on t e2 es2 r2 d2 o
gone_same t o a b c d = rw (a, b, c, d) refl

-- two ends
ends_same : {q k k2 n n2 : ℕ} (s s2 s3 s4 s5 : Space) (t : Tenant) {t2 t3 : Tenant} {e e2 : Entry} {es es2 : List Entry} (o o2 : Outcome) {r r2 : Rest} {d d2 : Doing} → t.open_calls ≡ e ∷ es → t.open_calls ≡ e2 ∷ es2
    → Reached t.inst q e.call (store_in s t) t.doing (to_end o) k n (store_with (view s2 t.place) r) d → Reached t.inst q e2.call (store_in s t) t.doing (to_end o2) k2 n2 (store_with (view s3 t.place) r2) d2
    → view s4 t.place ≡ view s2 t.place → view s5 t.place ≡ view s3 t.place
    → Closes s4 t (ended_by (gone_further e k n) o) es r t2 → Closes s5 t (ended_by (gone_further e2 k2 n2) o2) es2 r2 t3 → SameTurn Ended Ended t2 t3 s4 s5
ends_same {k = k} {k2 = k2} {n = n} {n2 = n2} s s2 s3 s4 s5 t {t2 = t2} {t3 = t3} {e = e} {e2 = e2} {es = es} {es2 = es2} o o2 {r = r} {r2 = r2} x y g h v w c c2 =
    let both = reaches s t x y g h in
    let stop = both.stop in
    let eq = sym x ∙ y in
    let entry : ended_by (gone_further e k n) o ≡ ended_by (gone_further e2 k2 n2) o2 = search (rules, entry_same, head_same, outcome_same) in
    let rests : r ≡ r2 = rest_same (view s2 t.place) (view s3 t.place) r r2 stop.stores in
    let seen : view s4 t.place ≡ view s5 t.place = v ∙ bytes_same (view s2 t.place) (view s3 t.place) r r2 stop.stores ∙ sym w in
    let c3 : Closes s5 t (ended_by (gone_further e k n) o) es r t3 = search (rules, tail_same) in
    record {
      answers = refl;
      tenants = closes_same seen c c3;
      views = ap (view s4) (closes_place c) ∙ seen ∙ sym (ap (view s5) (closes_place c2));
    }

-- two that go on
on_same : {q k k2 n n2 : ℕ} (a : TurnEnd) (s s2 s3 s4 s5 : Space) (t : Tenant) (to : Upshot) (stands : Option Suspension) {e e2 : Entry} {es es2 : List Entry} {r r2 : Rest} {d d2 : Doing} → t.open_calls ≡ e ∷ es → t.open_calls ≡ e2 ∷ es2
    → Reached t.inst q e.call (store_in s t) t.doing to k n (store_with (view s2 t.place) r) d → Reached t.inst q e2.call (store_in s t) t.doing to k2 n2 (store_with (view s3 t.place) r2) d2
    → view s4 t.place ≡ view s2 t.place → view s5 t.place ≡ view s3 t.place
    → SameTurn a a (gone_on t (gone_further e k n) es r d stands) (gone_on t (gone_further e2 k2 n2) es2 r2 d2 stands) s4 s5
on_same a s s2 s3 s4 s5 t to stands {e = e} {e2 = e2} {es = es} {es2 = es2} {r = r} {r2 = r2} x y g h v w =
    let both = reaches s t x y g h in
    let stop = both.stop in
    let eq = sym x ∙ y in
    record {
      answers = refl;
      tenants = gone_same t stands (entry_same (head_same e e2 es es2 eq) both.pieces both.charges) (tail_same e e2 es es2 eq) (rest_same (view s2 t.place) (view s3 t.place) r r2 stop.stores) stop.doings;
      views = v ∙ bytes_same (view s2 t.place) (view s3 t.place) r r2 stop.stores ∙ sym w;
    }

ended_not_fuel : (o : Outcome) → to_end o ≡ out_of_fuel → ⊥
ended_not_fuel o e = cc e

ended_not_on : (o : Outcome) → to_end o ≡ to_go_on → ⊥
ended_not_on o e = cc e

fuel_not_on : out_of_fuel ≡ to_go_on → ⊥
fuel_not_on e = cc e

no_call : (es fs : List Entry) (e : Entry) → es ≡ [] → es ≡ e ∷ fs → ⊥
no_call es fs e a b = let no : [] ≡ e ∷ fs = sym a ∙ b in cc no

-- it neither keeps a device fault nor goes on without it
fault_stays : {q k n : ℕ} (s s2 : Space) (t : Tenant) {e e2 : Entry} {es es2 : List Entry} {r : Rest} {d : Doing} (term : Term) → t.open_calls ≡ e ∷ es → t.open_calls ≡ e2 ∷ es2
    → t.doing ≡ computing term → q ≡ 0 → IsNext t.inst (config (store_in s t) [] term) → e.call.charges < e.call.fuel
    → Reached t.inst q e2.call (store_in s t) t.doing to_go_on k n (store_with (view s2 t.place) r) d → k + n ≡ 0
fault_stays {q} s s2 t {e = e} term x y doing none next fuel h = search rules

turns_agree : {q : ℕ} {s s2 s3 : Space} {t t2 t3 : Tenant} {a b : TurnEnd} → Turn q s t a s2 t2 → Turn q s t b s3 t3 → a ≢ Frame → b ≢ Frame → SameTurn a b t2 t3 s2 s3
turns_agree {q} {s = s} {t = t} (is_idle a1) (is_idle a2) na nb = record { answers = refl; tenants = refl; views = refl }
turns_agree {q} {s = s} {t = t} (is_idle a1) (has_ended {o = o2} {s2 = u2} {s3 = w2} x2 g2 l2 p2 c2) na nb = absurd (no_call t.open_calls _ _ a1 x2)
turns_agree {q} {s = s} {t = t} (is_idle a1) (has_no_fuel {s2 = u2} {s3 = w2} x2 g2 l2 p2) na nb = absurd (no_call t.open_calls _ _ a1 x2)
turns_agree (is_idle a1) (has_no_frame x2 g2 l2 p2) na nb = absurd (nb refl)
turns_agree {q} {s = s} {t = t} (is_idle a1) (can_go_on {s2 = u2} {s3 = w2} x2 g2 l2 p2 k2) na nb = absurd (no_call t.open_calls _ _ a1 x2)
turns_agree {q} {s = s} {t = t} (is_idle a1) (keeps_its_fault {e = e2} {term = m2} x2 f2 d2 z2 n2 b2 r2) na nb = absurd (no_call t.open_calls _ _ a1 x2)
turns_agree {q} {s = s} {t = t} (has_ended {o = o1} {s2 = u1} {s3 = w1} x1 g1 l1 p1 c1) (is_idle a2) na nb = absurd (no_call t.open_calls _ _ a2 x1)
turns_agree {q} {s = s} {t = t} (has_ended {o = o1} {s2 = u1} {s3 = w1} x1 g1 l1 p1 c1) (has_ended {o = o2} {s2 = u2} {s3 = w2} x2 g2 l2 p2 c2) na nb = ends_same s u1 u2 w1 w2 t o1 o2 x1 x2 (reached tt g1) (reached tt g2) l1.view l2.view c1 c2
turns_agree {q} {s = s} {t = t} (has_ended {o = o1} {s2 = u1} {s3 = w1} x1 g1 l1 p1 c1) (has_no_fuel {s2 = u2} {s3 = w2} x2 g2 l2 p2) na nb = let both = reaches s t x1 x2 (reached tt g1) (reached tt g2) in let stop = both.stop in absurd (ended_not_fuel o1 stop.upshots)
turns_agree (has_ended {o = o1} {s2 = u1} {s3 = w1} x1 g1 l1 p1 c1) (has_no_frame x2 g2 l2 p2) na nb = absurd (nb refl)
turns_agree {q} {s = s} {t = t} (has_ended {o = o1} {s2 = u1} {s3 = w1} x1 g1 l1 p1 c1) (can_go_on {s2 = u2} {s3 = w2} x2 g2 l2 p2 k2) na nb = let both = reaches s t x1 x2 (reached tt g1) (reached tt g2) in let stop = both.stop in absurd (ended_not_on o1 stop.upshots)
turns_agree {q} {s = s} {t = t} (has_ended {o = o1} {s2 = u1} {s3 = w1} x1 g1 l1 p1 c1) (keeps_its_fault {e = e2} {term = m2} x2 f2 d2 z2 n2 b2 r2) na nb = let both = reaches s t x1 x2 (reached tt g1) (kept_reach q s t e2 m2 d2 z2 n2 b2) in let stop = both.stop in absurd (ended_not_on o1 stop.upshots)
turns_agree {q} {s = s} {t = t} (has_no_fuel {s2 = u1} {s3 = w1} x1 g1 l1 p1) (is_idle a2) na nb = absurd (no_call t.open_calls _ _ a2 x1)
turns_agree {q} {s = s} {t = t} (has_no_fuel {s2 = u1} {s3 = w1} x1 g1 l1 p1) (has_ended {o = o2} {s2 = u2} {s3 = w2} x2 g2 l2 p2 c2) na nb = let both = reaches s t x1 x2 (reached tt g1) (reached tt g2) in let stop = both.stop in absurd (ended_not_fuel o2 (sym stop.upshots))
turns_agree {q} {s = s} {t = t} (has_no_fuel {s2 = u1} {s3 = w1} x1 g1 l1 p1) (has_no_fuel {s2 = u2} {s3 = w2} x2 g2 l2 p2) na nb = on_same Fuel s u1 u2 w1 w2 t out_of_fuel (Some for_fuel) x1 x2 (reached tt g1) (reached tt g2) l1.view l2.view
turns_agree (has_no_fuel {s2 = u1} {s3 = w1} x1 g1 l1 p1) (has_no_frame x2 g2 l2 p2) na nb = absurd (nb refl)
turns_agree {q} {s = s} {t = t} (has_no_fuel {s2 = u1} {s3 = w1} x1 g1 l1 p1) (can_go_on {s2 = u2} {s3 = w2} x2 g2 l2 p2 k2) na nb = let both = reaches s t x1 x2 (reached tt g1) (reached tt g2) in let stop = both.stop in absurd (fuel_not_on stop.upshots)
turns_agree {q} {s = s} {t = t} (has_no_fuel {s2 = u1} {s3 = w1} x1 g1 l1 p1) (keeps_its_fault {e = e2} {term = m2} x2 f2 d2 z2 n2 b2 r2) na nb = let both = reaches s t x1 x2 (reached tt g1) (kept_reach q s t e2 m2 d2 z2 n2 b2) in let stop = both.stop in absurd (fuel_not_on stop.upshots)
turns_agree (has_no_frame x1 g1 l1 p1) other na nb = absurd (na refl)
turns_agree {q} {s = s} {t = t} (can_go_on {s2 = u1} {s3 = w1} x1 g1 l1 p1 k1) (is_idle a2) na nb = absurd (no_call t.open_calls _ _ a2 x1)
turns_agree {q} {s = s} {t = t} (can_go_on {s2 = u1} {s3 = w1} x1 g1 l1 p1 k1) (has_ended {o = o2} {s2 = u2} {s3 = w2} x2 g2 l2 p2 c2) na nb = let both = reaches s t x1 x2 (reached tt g1) (reached tt g2) in let stop = both.stop in absurd (ended_not_on o2 (sym stop.upshots))
turns_agree {q} {s = s} {t = t} (can_go_on {s2 = u1} {s3 = w1} x1 g1 l1 p1 k1) (has_no_fuel {s2 = u2} {s3 = w2} x2 g2 l2 p2) na nb = let both = reaches s t x1 x2 (reached tt g1) (reached tt g2) in let stop = both.stop in absurd (fuel_not_on (sym stop.upshots))
turns_agree (can_go_on {s2 = u1} {s3 = w1} x1 g1 l1 p1 k1) (has_no_frame x2 g2 l2 p2) na nb = absurd (nb refl)
turns_agree {q} {s = s} {t = t} (can_go_on {s2 = u1} {s3 = w1} x1 g1 l1 p1 k1) (can_go_on {s2 = u2} {s3 = w2} x2 g2 l2 p2 k2) na nb = on_same Again s u1 u2 w1 w2 t to_go_on None x1 x2 (reached tt g1) (reached tt g2) l1.view l2.view
turns_agree {q} {s = s} {t = t} (can_go_on {s2 = u1} {s3 = w1} x1 g1 l1 p1 k1) (keeps_its_fault {e = e2} {term = m2} x2 f2 d2 z2 n2 b2 r2) na nb = absurd (k1 (fault_stays s u1 t m2 x2 x1 d2 z2 n2 b2 (reached tt g1)) _ f2)
turns_agree {q} {s = s} {t = t} (keeps_its_fault {e = e1} {term = m1} x1 f1 d1 z1 n1 b1 r1) (is_idle a2) na nb = absurd (no_call t.open_calls _ _ a2 x1)
turns_agree {q} {s = s} {t = t} (keeps_its_fault {e = e1} {term = m1} x1 f1 d1 z1 n1 b1 r1) (has_ended {o = o2} {s2 = u2} {s3 = w2} x2 g2 l2 p2 c2) na nb = let both = reaches s t x1 x2 (kept_reach q s t e1 m1 d1 z1 n1 b1) (reached tt g2) in let stop = both.stop in absurd (ended_not_on o2 (sym stop.upshots))
turns_agree {q} {s = s} {t = t} (keeps_its_fault {e = e1} {term = m1} x1 f1 d1 z1 n1 b1 r1) (has_no_fuel {s2 = u2} {s3 = w2} x2 g2 l2 p2) na nb = let both = reaches s t x1 x2 (kept_reach q s t e1 m1 d1 z1 n1 b1) (reached tt g2) in let stop = both.stop in absurd (fuel_not_on (sym stop.upshots))
turns_agree (keeps_its_fault {e = e1} {term = m1} x1 f1 d1 z1 n1 b1 r1) (has_no_frame x2 g2 l2 p2) na nb = absurd (nb refl)
turns_agree {q} {s = s} {t = t} (keeps_its_fault {e = e1} {term = m1} x1 f1 d1 z1 n1 b1 r1) (can_go_on {s2 = u2} {s3 = w2} x2 g2 l2 p2 k2) na nb = absurd (k2 (fault_stays s u2 t m1 x1 x2 d1 z1 n1 b1 (reached tt g2)) _ f1)
turns_agree {q} {s = s} {t = t} (keeps_its_fault {e = e1} {term = m1} x1 f1 d1 z1 n1 b1 r1) (keeps_its_fault {e = e2} {term = m2} x2 f2 d2 z2 n2 b2 r2) na nb = record { answers = refl; tenants = refl; views = refl }

pub one_turn : OneTurn
one_turn q s s2 s3 t t2 t3 a b x y na nb = turns_agree x y na nb
