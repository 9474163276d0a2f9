-- What each event makes of the charges of a host, and of the book that fits them.
use Rattle.std.proofs.Common.{◌≡◌, ℕ, zero, suc, ◌+◌, ◌≤◌, List, [], ◌∷◌, ◌++◌, drop, take, length, map, get_or, slice_set, Option, Some, None, refl, sym, ap, subst, ◌∙◌, arith, length-append}
use Rattle.std.specs.List.{sum_by}
use Rattle.std.proofs.lemmas.List.Sums.{sum_by-cons, sum_by-append}
use Rattle.std.proofs.lemmas.List.{get_or-set_same}
use Rattle.wh_model.specs.Execution.{dead}
use Rattle.wh_space_model.specs.declared.plain.InstId.{InstId}
use Rattle.wh_host_model.specs.declared.plain.TurnEnd.{TurnEnd}
use Rattle.wh_space_model.specs.{Space}
use Rattle.wh_host_model.specs.Host.{IsLive, IsTurn, of_none, of_one, Rest, Tenant, World, journal, own_calls, tenant, with_tenant, ended_by, Closes, faces_next, is_dead, Turn, is_idle, has_ended, has_no_fuel, has_no_frame, can_go_on, keeps_its_fault, live_count}
use Rattle.wh_host_model.specs.{Entry}
use Rattle.wh_host.specs.Series.{HasSpent, Spends, charges_each}
use Rattle.wh_host.proofs.Hosts.{some_within, turn_stays}
use Rattle.wh_cell.specs.Charging.{charges_in, charges_by, FitsBook, HasTaken}

abbrev pub charges_at : Entry → ℕ
charges_at e = e.call.charges

-- ---- journals

-- a call in the middle of a journal
middle : (xs ys : List Entry) (e : Entry) → charges_in (xs ++ e ∷ ys) ≡ charges_in xs + e.call.charges + charges_in ys
middle xs ys e = omega (arith, sum_by-append charges_at xs (e ∷ ys), sum_by-cons charges_at e ys)

-- ---- an instance's own calls

own_part : (k : ℕ) (xs ys : List Entry) → k ≤ length xs → charges_in (drop k (xs ++ ys)) + charges_in (take k xs) ≡ charges_in (xs ++ ys)
own_part zero xs ys few = omega arith
own_part (suc k) [] ys few = absurd (omega (arith, few))
own_part (suc k) (x ∷ xs) ys few =
    omega (arith, own_part k xs ys (omega (arith, few)), sum_by-cons charges_at x (take k xs), sum_by-cons charges_at x (xs ++ ys))

-- where the calls that had ended stay, as many more charges are its own as there are in all
pub own_more : (t t2 : Tenant) (n : ℕ) (rest : List Entry) → t2.copied ≡ t.copied → t.copied ≤ length t.ended → journal t2 ≡ t.ended ++ rest → charges_in (journal t2) ≡ charges_in (journal t) + n
    → charges_in (own_calls t2) ≡ charges_in (own_calls t) + n
own_more t t2 n rest same few now more =
    let was = own_part t.copied t.ended t.open_calls few in
    let is = own_part t.copied t.ended rest few in
    let own : charges_in (own_calls t2) ≡ charges_in (drop t.copied (t.ended ++ rest)) = ap (λ k. charges_in (drop k (journal t2))) same ∙ ap (λ (xs : List Entry). charges_in (drop t.copied xs)) now in
    omega (arith, was, is, own, more, ap charges_in now)

none_dropped : (xs ys : List Entry) → drop (length xs) (xs ++ ys) ≡ ys
none_dropped [] ys = refl
none_dropped (x ∷ xs) ys = none_dropped xs ys

-- all calls of a copy are copied
pub copy_has_none : (ended open_calls : List Entry) → open_calls ≡ [] → charges_in (drop (length ended) (ended ++ open_calls)) ≡ 0
copy_has_none ended open_calls none = ap charges_in (none_dropped ended open_calls ∙ none)

-- ---- a turn

same_sum : (xs ys : List Entry) → charges_each xs ≡ charges_each ys → charges_in xs ≡ charges_in ys
same_sum [] [] same = refl
same_sum [] (y ∷ ys) same = absurd (cc same)
same_sum (x ∷ xs) [] same = absurd (cc same)
same_sum (x ∷ xs) (y ∷ ys) same =
    let first : x.call.charges ≡ y.call.charges = cc same in
    let others : charges_each xs ≡ charges_each ys = cc same in
    omega (arith, first, same_sum xs ys others, sum_by-cons charges_at x xs, sum_by-cons charges_at y ys)

-- what a turn took its own calls took
pub own_spent : (n : ℕ) (t t2 : Tenant) → Spends n t t2 → t2.copied ≡ t.copied → t.copied ≤ length t.ended → charges_in (own_calls t2) ≡ charges_in (own_calls t) + n
own_spent n t t2 spends same few = by_calls t.open_calls refl where
  by_calls : (es : List Entry) → t.open_calls ≡ es → charges_in (own_calls t2) ≡ charges_in (own_calls t) + n
  by_calls [] none =
      let (nothing, journals) = spends.idle none in
      let own : charges_in (own_calls t2) ≡ charges_in (own_calls t) = ap (λ k. charges_in (drop k (journal t2))) same ∙ ap (λ (xs : List Entry). charges_in (drop t.copied xs)) journals in
      omega (arith, own, nothing)
  by_calls (e ∷ es) there =
      let (f, fs, now, more, rest) = spends.present e es there in
      let was : charges_in (journal t) ≡ charges_in (t.ended ++ e ∷ es) = ap (λ (xs : List Entry). charges_in (t.ended ++ xs)) there in
      let is : charges_in (journal t2) ≡ charges_in (t.ended ++ f ∷ fs) = ap charges_in now in
      own_more t t2 n (f ∷ fs) same few now (omega (arith, was, is, more, same_sum fs es rest, middle t.ended es e, middle t.ended fs f))

pub closed_copied : {s : Space} {t t2 : Tenant} {e : Entry} {es : List Entry} {r : Rest} → Closes s t e es r t2 → t2.copied ≡ t.copied
closed_copied (faces_next alive f) = refl
closed_copied (is_dead died) = refl

-- the calls that were copied with an instance have ended still
more_ended : (n : ℕ) (es fs : List Entry) → n ≤ length es → n ≤ length (es ++ fs)
more_ended n es fs few = let l = length-append es fs in omega (arith, few, l)

closed_lasts : {s : Space} {t t2 : Tenant} {e : Entry} {es : List Entry} {r : Rest} → Closes s t e es r t2 → t.copied ≤ length t.ended → t2.copied ≤ length t2.ended
closed_lasts {t = t} {e = e} (faces_next alive f) few = more_ended t.copied t.ended (e ∷ []) few
closed_lasts {t = t} {e = e} {es = es} (is_dead died) few = more_ended t.copied t.ended (e ∷ map (λ (w : Entry). ended_by w dead) es) few

pub turn_lasts : (q : ℕ) (s s2 : Space) (t t2 : Tenant) (answer : TurnEnd) → Turn q s t answer s2 t2 → t.copied ≤ length t.ended → t2.copied ≤ length t2.ended
turn_lasts q s s2 t t2 answer (is_idle none) few = few
turn_lasts q s s2 t t2 answer (has_ended there g leaves pins c) few = closed_lasts c few
turn_lasts q s s2 t t2 answer (has_no_fuel there g leaves pins) few = few
turn_lasts q s s2 t t2 answer (has_no_frame there g leaves pins) few = few
turn_lasts q s s2 t t2 answer (can_go_on there g leaves pins fault) few = few
turn_lasts q s s2 t t2 answer (keeps_its_fault there stands doing none next fuel ready) few = few

-- ---- the instances of a host

-- one of them changes, or goes
set_charges : (ts : List (Option Tenant)) (i : ℕ) (t : Tenant) (o : Option Tenant) → get_or ts i None ≡ Some t
    → sum_by charges_by (slice_set ts i o) + charges_by (Some t) ≡ sum_by charges_by ts + charges_by o
set_charges [] i t o there = absurd (cc there)
set_charges (x ∷ ts) zero t o there =
    let same : charges_by x ≡ charges_by (Some t) = ap charges_by there in
    omega (arith, same, sum_by-cons charges_by x ts, sum_by-cons charges_by o ts)
set_charges (x ∷ ts) (suc i) t o there =
    omega (arith, set_charges ts i t o there, sum_by-cons charges_by x ts, sum_by-cons charges_by x (slice_set ts i o))

set_length : (ts : List (Option Tenant)) (i : ℕ) (o : Option Tenant) → length (slice_set ts i o) ≡ length ts
set_length [] i o = refl
set_length (x ∷ ts) zero o = refl
set_length (x ∷ ts) (suc i) o = ap suc (set_length ts i o)

set_live : (ts : List (Option Tenant)) (i : ℕ) (t t2 : Tenant) → get_or ts i None ≡ Some t → live_count (slice_set ts i (Some t2)) ≡ live_count ts
set_live [] i t t2 there = absurd (cc there)
set_live (None ∷ ts) zero t t2 there = absurd (cc there)
set_live (Some u ∷ ts) zero t t2 there = refl
set_live (None ∷ ts) (suc i) t t2 there = set_live ts i t t2 there
set_live (Some u ∷ ts) (suc i) t t2 there = ap (λ n. 1 + n) (set_live ts i t t2 there)

gone_live : (ts : List (Option Tenant)) (i : ℕ) (t : Tenant) → get_or ts i None ≡ Some t → live_count ts ≡ 1 + live_count (slice_set ts i None)
gone_live [] i t there = absurd (cc there)
gone_live (None ∷ ts) zero t there = absurd (cc there)
gone_live (Some u ∷ ts) zero t there = refl
gone_live (None ∷ ts) (suc i) t there = gone_live ts i t there
gone_live (Some u ∷ ts) (suc i) t there = ap (λ n. 1 + n) (gone_live ts i t there)

new_live : (ts : List (Option Tenant)) (t : Tenant) → live_count (ts ++ Some t ∷ []) ≡ 1 + live_count ts
new_live [] t = refl
new_live (None ∷ ts) t = new_live ts t
new_live (Some u ∷ ts) t = ap (λ n. 1 + n) (new_live ts t)

-- no more are live than were admitted
pub live_most : (ts : List (Option Tenant)) → live_count ts ≤ length ts
live_most [] = omega arith
live_most (None ∷ ts) = let few = live_most ts in omega (arith, few)
live_most (Some t ∷ ts) = let few = live_most ts in omega (arith, few)

-- ---- hosts

pub taken_none : (w : World) → HasTaken w 0 w
taken_none w = record { charges = omega arith; live = refl; admitted = refl }

-- one instance has taken n more
pub taken_by_one : (w : World) (i n : ℕ) (t t2 : Tenant) (s : Space) → tenant w i ≡ Some t → charges_in (own_calls t2) ≡ charges_in (own_calls t) + n
    → HasTaken w n (with_tenant w i (Some t2) s)
taken_by_one w i n t t2 s there more = record {
  charges = omega (arith, set_charges w.tenants i t (Some t2) there, more);
  live = set_live w.tenants i t t2 there;
  admitted = set_length w.tenants i (Some t2);
}

-- a turn has taken what it spent
pub turn_taken : (w w2 : World) (id : InstId) (q n : ℕ) (end : TurnEnd) → IsTurn w id q end w2 → HasSpent w id n w2 → ((t : Tenant) → IsLive w id t → t.copied ≤ length t.ended) → HasTaken w n w2
turn_taken w w2 id q n end (of_none none) spent had = let nothing = spent.0 none in subst (λ i. HasTaken w i w) (sym nothing) (taken_none w)
turn_taken w w2 id q n end (of_one {t = t} {t2 = t2} {s2 = s2} live turn) spent had =
    let stays = turn_stays q w.space s2 t t2 end turn in
    let within = some_within w.tenants id.number t live.0 in
    let live2 : IsLive (with_tenant w id.number (Some t2) s2) id t2 = (get_or-set_same w.tenants id.number (Some t2) None within, stays.place ∙ live.1) in
    taken_by_one w id.number n t t2 s2 live.0 (own_spent n t t2 (spent.1 t t2 live live2) stays.copied (had t live))

pub fits_taken : (w w2 : World) (n total : ℕ) → HasTaken w n w2 → FitsBook w total → FitsBook w2 (total + n)
fits_taken w w2 n total h f = record {
  least = omega (arith, h.charges, f.least);
  whole = λ all.
      let was = f.whole (sym h.live ∙ all ∙ h.admitted) in
      omega (arith, was, h.charges);
}

-- an instance comes that has taken none
pub fits_new : (w : World) (t : Tenant) (s : Space) (total : ℕ) → charges_in (own_calls t) ≡ 0 → FitsBook w total
    → FitsBook (record w { tenants = w.tenants ++ Some t ∷ []; space = s }) total
fits_new w t s total none f =
    let sums = sum_by-append charges_by w.tenants (Some t ∷ []) in
    let one = sum_by-cons charges_by (Some t) [] in
    record {
      least = omega (arith, sums, one, none, f.least);
      whole = λ all.
          let live = new_live w.tenants t in
          let admitted = length-append w.tenants (Some t ∷ []) in
          let was = f.whole (omega (arith, all, live, admitted)) in
          omega (arith, was, sums, one, none);
    }

-- one goes
pub fits_gone : (w : World) (i total : ℕ) (t : Tenant) (s : Space) → tenant w i ≡ Some t → FitsBook w total → FitsBook (with_tenant w i None s) total
fits_gone w i total t s there f =
    let sums = set_charges w.tenants i t None there in
    record {
      least = omega (arith, sums, f.least);
      whole = λ all.
          let live = gone_live w.tenants i t there in
          let admitted = set_length w.tenants i None in
          let most = live_most w.tenants in
          absurd (omega (arith, all, live, admitted, most));
    }
