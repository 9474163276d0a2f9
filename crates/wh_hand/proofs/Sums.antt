-- What a turn makes of the charges of an instance and of a host.
use Rattle.std.proofs.Common.{◌≡◌, ℕ, zero, suc, ◌+◌, List, [], ◌∷◌, ◌++◌, length, map, get_or, slice_get, slice_set, Option, Some, None, refl, sym, ap, subst, ◌∙◌, arith}
use Rattle.std.specs.List.{sum_by}
use Rattle.std.proofs.lemmas.List.Sums.{sum_by-cons, sum_by-append}
use Rattle.std.proofs.lemmas.List.{get_or-set_same}
use Rattle.wh_space_model.specs.declared.plain.InstId.{InstId}
use Rattle.wh_host_model.specs.declared.plain.TurnEnd.{TurnEnd}
use Rattle.wh_space_model.specs.{Space}
use Rattle.wh_host_model.specs.Host.{Tenant, World, journal, tenant, with_tenant, IsLive, IsTurn, of_none, of_one, live_count}
use Rattle.wh_host_model.specs.{Entry}
use Rattle.wh_host.specs.Series.{HasSpent, Spends, charges_each}
use Rattle.wh_host.proofs.Hosts.{some_within, turn_stays}
use Rattle.wh_hand.specs.ChargesTaken.{charges_of_calls, charges_of_one, charges_of_all}
use Rattle.wh_hand.specs.Running.{place_of_tenant}

abbrev pub charges_at : Entry → ℕ
charges_at e = e.call.charges

-- ---- journals

-- a call in the middle of a journal
middle : (xs ys : List Entry) (e : Entry) → charges_of_calls (xs ++ e ∷ ys) ≡ charges_of_calls xs + e.call.charges + charges_of_calls ys
middle xs ys e = omega (arith, sum_by-append charges_at xs (e ∷ ys), sum_by-cons charges_at e ys)

pub at_seam : (xs ys : List Entry) (e : Entry) → slice_get (xs ++ e ∷ ys) (length xs) ≡ Some e
at_seam [] ys e = refl
at_seam (x ∷ xs) ys e = at_seam xs ys e

-- ---- a turn

same_sum : (xs ys : List Entry) → charges_each xs ≡ charges_each ys → charges_of_calls xs ≡ charges_of_calls ys
same_sum [] [] same = refl
same_sum [] (y ∷ ys) same = absurd (cc same)
same_sum (x ∷ xs) [] same = absurd (cc same)
same_sum (x ∷ xs) (y ∷ ys) same =
    let first : x.call.charges ≡ y.call.charges = cc same in
    let others : charges_each xs ≡ charges_each ys = cc same in
    omega (arith, first, same_sum xs ys others, sum_by-cons charges_at x xs, sum_by-cons charges_at y ys)

-- what the present call spent all calls have spent
all_spent : (n : ℕ) (t t2 : Tenant) → Spends n t t2 → charges_of_calls (journal t2) ≡ charges_of_calls (journal t) + n
all_spent n t t2 spends = by_calls t.open_calls refl where
  by_calls : (es : List Entry) → t.open_calls ≡ es → charges_of_calls (journal t2) ≡ charges_of_calls (journal t) + n
  by_calls [] none =
      let (nothing, journals) = spends.idle none in
      let same = ap charges_of_calls journals in
      omega (arith, same, nothing)
  by_calls (e ∷ es) there =
      let (f, fs, now, more, rest) = spends.present e es there in
      let was : charges_of_calls (journal t) ≡ charges_of_calls (t.ended ++ e ∷ es) = ap (λ (xs : List Entry). charges_of_calls (t.ended ++ xs)) there in
      let is : charges_of_calls (journal t2) ≡ charges_of_calls (t.ended ++ f ∷ fs) = ap charges_of_calls now in
      omega (arith, was, is, more, same_sum fs es rest, middle t.ended es e, middle t.ended fs f)

-- ---- the instances of a host

set_charges : (ts : List (Option Tenant)) (i : ℕ) (t : Tenant) (o : Option Tenant) → get_or ts i None ≡ Some t
    → sum_by charges_of_one (slice_set ts i o) + charges_of_one (Some t) ≡ sum_by charges_of_one ts + charges_of_one o
set_charges [] i t o there = absurd (cc there)
set_charges (x ∷ ts) zero t o there =
    let same : charges_of_one x ≡ charges_of_one (Some t) = ap charges_of_one there in
    omega (arith, same, sum_by-cons charges_of_one x ts, sum_by-cons charges_of_one o ts)
set_charges (x ∷ ts) (suc i) t o there =
    omega (arith, set_charges ts i t o there, sum_by-cons charges_of_one x ts, sum_by-cons charges_of_one x (slice_set ts i o))

set_place : (ts : List (Option Tenant)) (i : ℕ) (t t2 : Tenant) → get_or ts i None ≡ Some t → t2.place ≡ t.place
    → map place_of_tenant (slice_set ts i (Some t2)) ≡ map place_of_tenant ts
set_place [] i t t2 there same = refl
set_place (x ∷ ts) zero t t2 there same =
    let was : place_of_tenant x ≡ Some t.place = ap place_of_tenant there in
    ap (λ (p : Option ℕ). p ∷ map place_of_tenant ts) (ap (λ (p : ℕ). Some p) same ∙ sym was)
set_place (x ∷ ts) (suc i) t t2 there same = ap (λ (ps : List (Option ℕ)). place_of_tenant x ∷ ps) (set_place ts i t t2 there same)

heads_are : (x y : Option ℕ) (xs ys : List (Option ℕ)) → x ∷ xs ≡ y ∷ ys → x ≡ y
heads_are x y xs ys h = cc h

rests_are : (x y : Option ℕ) (xs ys : List (Option ℕ)) → x ∷ xs ≡ y ∷ ys → xs ≡ ys
rests_are x y xs ys h = cc h

-- as many are live where each has its place
pub live_by_places : (ts us : List (Option Tenant)) → map place_of_tenant ts ≡ map place_of_tenant us → live_count ts ≡ live_count us
live_by_places [] [] same = refl
live_by_places [] (u ∷ us) same = absurd (cc same)
live_by_places (t ∷ ts) [] same = absurd (cc same)
live_by_places (None ∷ ts) (None ∷ us) same = live_by_places ts us (rests_are None None (map place_of_tenant ts) (map place_of_tenant us) same)
live_by_places (None ∷ ts) (Some u ∷ us) same = absurd (let h = heads_are None (Some u.place) (map place_of_tenant ts) (map place_of_tenant us) same in cc h)
live_by_places (Some t ∷ ts) (None ∷ us) same = absurd (let h = heads_are (Some t.place) None (map place_of_tenant ts) (map place_of_tenant us) same in cc h)
live_by_places (Some t ∷ ts) (Some u ∷ us) same =
    ap (λ n. 1 + n) (live_by_places ts us (rests_are (Some t.place) (Some u.place) (map place_of_tenant ts) (map place_of_tenant us) same))

-- n charges were taken, and each has its place
pub record HasTaken (w : World) (taken : ℕ) (w2 : World) : Type 0 where
  pub charges : charges_of_all w2 ≡ charges_of_all w + taken
  pub modules : w2.modules ≡ w.modules
  pub places : map place_of_tenant w2.tenants ≡ map place_of_tenant w.tenants

pub taken_none : (w : World) → HasTaken w 0 w
taken_none w = record { charges = omega arith; modules = refl; places = refl }

-- one instance has taken n more
pub taken_by_one : (w : World) (i n : ℕ) (t t2 : Tenant) (s : Space) → tenant w i ≡ Some t → t2.place ≡ t.place
    → charges_of_calls (journal t2) ≡ charges_of_calls (journal t) + n → HasTaken w n (with_tenant w i (Some t2) s)
taken_by_one w i n t t2 s there place more = record {
  charges = omega (arith, set_charges w.tenants i t (Some t2) there, more);
  modules = refl;
  places = set_place w.tenants i t t2 there place;
}

-- a turn has taken what it spent
pub turn_taken : (w w2 : World) (id : InstId) (q n : ℕ) (answer : TurnEnd) → IsTurn w id q answer w2 → HasSpent w id n w2 → HasTaken w n w2
turn_taken w w2 id q n answer (of_none none) spent = let nothing = spent.0 none in subst (λ i. HasTaken w i w) (sym nothing) (taken_none w)
turn_taken w w2 id q n answer (of_one {t = t} {t2 = t2} {s2 = s2} live turn) spent =
    let stays = turn_stays q w.space s2 t t2 answer turn in
    let within = some_within w.tenants id.number t live.0 in
    let live2 : IsLive (with_tenant w id.number (Some t2) s2) id t2 = (get_or-set_same w.tenants id.number (Some t2) None within, stays.place ∙ live.1) in
    taken_by_one w id.number n t t2 s2 live.0 stays.place (all_spent n t t2 (spent.1 t t2 live live2))
