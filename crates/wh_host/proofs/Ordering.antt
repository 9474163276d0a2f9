-- The instances that are live, by number, from their places.
use Rattle.std.proofs.Common.{◌≡◌, ◌≢◌, ℕ, zero, suc, ◌+◌, ◌<◌, ◌≤◌, inl, inr, Option, Some, None, List, [], ◌∷◌, ◌++◌, map, get_or, refl, sym, ap, subst, ◌∙◌, arith, rules}
use Rattle.std.specs.List.{All, AllByRecursion, sum_by}
use Rattle.std.specs.List.Sorted.{IsNonDecreasingBy, IsPermutation}
use Rattle.std.proofs.lemmas.Bool.{cases_lt}
use Rattle.std.proofs.lemmas.List.Sorted.{All-permutation, sum_by-IsPermutation}
use Rattle.std.proofs.lemmas.List.Sums.{sum_by-append, sum_by-cons}
use Rattle.wh_space_model.specs.{one_if, tally}
use Rattle.wh_host_model.specs.Host.{Tenant}
use Rattle.wh_space_model.proofs.Tally.{one_other, one_same}
use Rattle.wh_space_model.specs.declared.plain.InstId.{InstId}
use Rattle.wh_host.specs.InstanceRefs.{ref_at, refs_below, refs_by}

-- ---- two lists in order that have the same numbers equally often are the same

-- each is at least this one, and at most those behind it
abbrev Rises : ℕ → List ℕ → Type 0
Rises low [] = Unit {0}
Rises low (x ∷ xs) = (low ≤ x) × Rises x xs

abbrev AsOften : List ℕ → List ℕ → Type 0
AsOften xs ys = (n : ℕ) → tally (one_if n) xs ≡ tally (one_if n) ys

less_never : (n low : ℕ) (xs : List ℕ) → Rises low xs → n < low → tally (one_if n) xs ≡ 0
less_never n low [] up less = refl
less_never n low (x ∷ xs) up less =
    let first = up.0 in
    let a = one_other n x (λ e. absurd (omega (arith, e, first, less))) in
    omega (arith, a, less_never n x xs up.1 (omega (arith, first, less)))

same_heads : (x y : ℕ) (xs ys : List ℕ) → Rises x xs → Rises y ys → AsOften (x ∷ xs) (y ∷ ys) → x ≡ y
same_heads x y xs ys up up2 often = elim (cases_lt x y) [ inl less ↦ absurd (lower x y xs ys less up2 often) | inr more ↦ elim (cases_lt y x) [ inl less ↦ absurd (lower y x ys xs less up (λ n. sym (often n))) | inr same ↦ omega arith ] ] where
  lower : (a b : ℕ) (more bs : List ℕ) → a < b → Rises b bs → AsOften (a ∷ more) (b ∷ bs) → ⊥
  lower a b more bs less high same =
      let first = one_other a b (λ e. absurd (omega (arith, e, less))) in
      absurd (omega (arith, one_same a a refl, first, less_never a b bs high less, same a))

same_lists : (low low2 : ℕ) (xs ys : List ℕ) → Rises low xs → Rises low2 ys → AsOften xs ys → xs ≡ ys
same_lists low low2 [] [] up up2 often = refl
same_lists low low2 [] (y ∷ ys) up up2 often = absurd (let a = often y in let b = one_same y y refl in omega (arith, a, b))
same_lists low low2 (x ∷ xs) [] up up2 often = absurd (let a = often x in let b = one_same x x refl in omega (arith, a, b))
same_lists low low2 (x ∷ xs) (y ∷ ys) up up2 often =
    let head = same_heads x y xs ys up.1 up2.1 often in
    let rest : AsOften xs ys = λ n. (let a = often n in let b = ap (one_if n) head in omega (arith, a, b)) in
    rw head (rw (same_lists x y xs ys up.1 up2.1 rest) refl)

-- ---- lists of numbers, by their order

from_sorted : (x : InstId) (xs : List InstId) → IsNonDecreasingBy (λ (s : InstId). s.number) (x ∷ xs) → Rises x.number (map (λ (s : InstId). s.number) xs)
from_sorted x [] up = tt
from_sorted x (y ∷ ys) up = (up 0 1 x (omega arith) (omega arith), from_sorted y ys (λ i j d low high. up (suc i) (suc j) d (omega (arith, low)) (omega (arith, high))))

rises_all : (xs : List InstId) → IsNonDecreasingBy (λ (s : InstId). s.number) xs → Rises 0 (map (λ (s : InstId). s.number) xs)
rises_all [] up = tt
rises_all (x ∷ xs) up = (omega arith, from_sorted x xs up)

lower_still : (low low2 : ℕ) (xs : List ℕ) → low ≤ low2 → Rises low2 xs → Rises low xs
lower_still low low2 [] less up = tt
lower_still low low2 (x ∷ xs) less up = (let a = up.0 in omega (arith, a, less), up.1)

by_rises : (i : ℕ) (ts : List (Option Tenant)) → Rises i (map (λ (s : InstId). s.number) (refs_by i ts))
by_rises i [] = tt
by_rises i (None ∷ ts) = lower_still i (i + 1) _ (omega arith) (by_rises (i + 1) ts)
by_rises i (Some t ∷ ts) = (omega arith, lower_still i (i + 1) _ (omega arith) (by_rises (i + 1) ts))

-- ---- how often a number stands in them

abbrev number_times : ℕ → List InstId → ℕ
number_times n xs = sum_by (λ (s : InstId). one_if n s.number) xs

abbrev numbers_of : List InstId → List ℕ
numbers_of xs = map (λ (s : InstId). s.number) xs

times_of : (n : ℕ) (xs : List InstId) → number_times n xs ≡ tally (one_if n) (numbers_of xs)
times_of n [] = refl
times_of n (x ∷ xs) = let a = sum_by-cons (λ (s : InstId). one_if n s.number) x xs in let b = times_of n xs in omega (arith, a, b)

-- by place

seat_never : (n : ℕ) (who : Option ℕ) (p : ℕ) → who ≢ Some n → number_times n (ref_at who p) ≡ 0
seat_never n None p other = refl
seat_never n (Some m) p other = let e = one_other n m (λ e. other (ap Some (sym e))) in omega (arith, e)

seat_once : (n : ℕ) (who : Option ℕ) (p : ℕ) → who ≡ Some n → number_times n (ref_at who p) ≡ 1
seat_once n None p is = absurd (cc is)
seat_once n (Some m) p is = let same : n ≡ m = cc is in let e = one_same n m same in omega (arith, e)

one_below_more : (n : ℕ) (who : ℕ → Option ℕ) (k : ℕ) → number_times n (refs_below who (suc k)) ≡ number_times n (refs_below who k) + number_times n (ref_at (who k) k)
one_below_more n who k = sum_by-append (λ (s : InstId). one_if n s.number) (refs_below who k) (ref_at (who k) k)

never_below : (n : ℕ) (who : ℕ → Option ℕ) (k : ℕ) → ((p : ℕ) → p < k → who p ≢ Some n) → number_times n (refs_below who k) ≡ 0
never_below n who zero other = refl
never_below n who (suc k) other =
    let b = never_below n who k (λ p less. other p (omega (arith, less))) in
    omega (arith, one_below_more n who k, b, seat_never n (who k) k (other k (omega arith)))

once_below : (n : ℕ) (who : ℕ → Option ℕ) (at k : ℕ) → at < k → who at ≡ Some n → ((p : ℕ) → who p ≡ Some n → p ≡ at) → number_times n (refs_below who k) ≡ 1
once_below n who at zero less is only = absurd (omega arith)
once_below n who at (suc k) less is only =
    elim (cases_lt at k) [
      | inl below ↦
          (let a = one_below_more n who k in
          let c = seat_never n (who k) k (λ e. let same = only k e in absurd (omega (arith, below, same))) in
          omega (arith, a, once_below n who at k below is only, c))
      | inr last ↦
          (let a = one_below_more n who k in
          let same : at ≡ k = omega (arith, less, last) in
          let b = never_below n who k (λ p lower e. let here = only p e in absurd (omega (arith, lower, here, same))) in
          omega (arith, a, b, seat_once n (who k) k (ap who (sym same) ∙ is)))
    ]

-- by number

abbrev one_if_some : Option Tenant → ℕ
one_if_some None = 0
one_if_some (Some t) = 1

by_times : (i k : ℕ) (ts : List (Option Tenant)) → tally (one_if (i + k)) (numbers_of (refs_by i ts)) ≡ one_if_some (get_or ts k None)
by_times i k [] = refl
by_times i zero (None ∷ ts) = less_never (i + 0) (i + 1) (numbers_of (refs_by (i + 1) ts)) (by_rises (i + 1) ts) (omega arith)
by_times i (suc k) (None ∷ ts) = let at : i + suc k ≡ (i + 1) + k = omega arith in rw at (by_times (i + 1) k ts)
by_times i zero (Some t ∷ ts) =
    let b = less_never (i + 0) (i + 1) (numbers_of (refs_by (i + 1) ts)) (by_rises (i + 1) ts) (omega arith) in
    omega (arith, one_same (i + 0) i (omega arith), b)
by_times i (suc k) (Some t ∷ ts) =
    let at : i + suc k ≡ (i + 1) + k = omega arith in
    let a = one_other (i + suc k) i (λ e. absurd (omega (arith, e))) in
    let c = ap (λ n. tally (one_if n) (numbers_of (refs_by (i + 1) ts))) at in
    omega (arith, a, by_times (i + 1) k ts, c)

-- ---- each is who is live

abbrev pub IsSeatOf : List (Option Tenant) → InstId → Type 0
IsSeatOf ts s = (t : Tenant) × (get_or ts s.number None ≡ Some t) × (t.place ≡ s.place)

pub all_also : {X : Type 0} (P Q : X → Type 0) → ((x : X) → P x → Q x) → (xs : List X) → AllByRecursion P xs → AllByRecursion Q xs
all_also P Q also [] h = tt
all_also P Q also (x ∷ xs) h = (also x h.0, all_also P Q also xs h.1)

pub to_all : {X : Type 0} (P : X → Type 0) (xs : List X) → AllByRecursion P xs → All P xs
to_all P [] h k d less = absurd (omega (arith, less))
to_all P (x ∷ xs) h zero d less = h.0
to_all P (x ∷ xs) h (suc k) d less = to_all P xs h.1 k d (omega (arith, less))

from_all : {X : Type 0} (P : X → Type 0) (xs : List X) → All P xs → AllByRecursion P xs
from_all P [] h = tt
from_all P (x ∷ xs) h = (h 0 x (omega arith), from_all P xs (λ k d less. h (suc k) d (omega (arith, less))))

all_append : {X : Type 0} (P : X → Type 0) (xs ys : List X) → AllByRecursion P xs → AllByRecursion P ys → AllByRecursion P (xs ++ ys)
all_append P [] ys h more = more
all_append P (x ∷ xs) ys h more = (h.0, all_append P xs ys h.1 more)

abbrev IsSeatFrom : ℕ → List (Option Tenant) → InstId → Type 0
IsSeatFrom i ts s = (k : ℕ) × (t : Tenant) × (s.number ≡ i + k) × (get_or ts k None ≡ Some t) × (t.place ≡ s.place)

by_seats : (i : ℕ) (ts : List (Option Tenant)) → AllByRecursion (IsSeatFrom i ts) (refs_by i ts)
by_seats i [] = tt
by_seats i (None ∷ ts) = all_also (IsSeatFrom (i + 1) ts) (IsSeatFrom i (None ∷ ts)) (λ s h. (suc h.0, h.1, (let e = h.2 in omega (arith, e)), h.3, h.4)) (refs_by (i + 1) ts) (by_seats (i + 1) ts)
by_seats i (Some t ∷ ts) =
    ((0, t, omega arith, refl, refl), all_also (IsSeatFrom (i + 1) ts) (IsSeatFrom i (Some t ∷ ts)) (λ s h. (suc h.0, h.1, (let e = h.2 in omega (arith, e)), h.3, h.4)) (refs_by (i + 1) ts) (by_seats (i + 1) ts))

pub all_by : (ts : List (Option Tenant)) → AllByRecursion (IsSeatOf ts) (refs_by 0 ts)
all_by ts = all_also (IsSeatFrom 0 ts) (IsSeatOf ts) (λ s h. (h.1, (let at : s.number ≡ h.0 = (let e = h.2 in omega (arith, e)) in rw at h.3), h.4)) (refs_by 0 ts) (by_seats 0 ts)

same_seat : (s z : InstId) → s.number ≡ z.number → s.place ≡ z.place → s ≡ z
same_seat s z number place = search rules

one_tenant : (t u : Tenant) → Some t ≡ Some u → t ≡ u
one_tenant t u e = cc e

same_by_numbers : (ts : List (Option Tenant)) (xs ys : List InstId) → numbers_of xs ≡ numbers_of ys → AllByRecursion (IsSeatOf ts) xs → AllByRecursion (IsSeatOf ts) ys → xs ≡ ys
same_by_numbers ts [] [] e h g = refl
same_by_numbers ts [] (y ∷ ys) e h g = absurd (cc e)
same_by_numbers ts (x ∷ xs) [] e h g = absurd (cc e)
same_by_numbers ts (x ∷ xs) (y ∷ ys) e h g =
    let number : x.number ≡ y.number = cc e in
    let rest : numbers_of xs ≡ numbers_of ys = cc e in
    let one = h.0 in
    let two = g.0 in
    let t = one_tenant one.0 two.0 (sym one.1 ∙ ap (λ n. get_or ts n None) number ∙ two.1) in
    let place : x.place ≡ y.place = sym one.2 ∙ ap (λ (z : Tenant). z.place) t ∙ two.2 in
    rw (same_seat x y number place) (rw (same_by_numbers ts xs ys rest h.1 g.1) refl)

-- ---- who is live, by place and by number

-- these numbers are found at the places below n, and nobody else
pub record AreSeated (who : ℕ → Option ℕ) (n : ℕ) (ts : List (Option Tenant)) : Type 0 where
  pub there : (i : ℕ) (t : Tenant) → get_or ts i None ≡ Some t → (who t.place ≡ Some i) × (t.place < n)
  pub all : (place i : ℕ) → who place ≡ Some i → (t : Tenant) × (get_or ts i None ≡ Some t) × (t.place ≡ place)

times_below : (who : ℕ → Option ℕ) (n : ℕ) (ts : List (Option Tenant)) → AreSeated who n ts → (i : ℕ) (o : Option Tenant) → get_or ts i None ≡ o → number_times i (refs_below who n) ≡ one_if_some o
times_below who n ts are i None is = never_below i who n (λ p less e. let a = are.all p i e in absurd (let bad : None ≡ Some a.0 = sym is ∙ a.1 in cc bad))
times_below who n ts are i (Some t) is =
    let a = are.there i t is in
    once_below i who t.place n a.1 a.0 (λ p e. let b = are.all p i e in sym b.2 ∙ ap (λ (z : Tenant). z.place) (one_tenant b.0 t (sym b.1 ∙ is)))

all_below : (who : ℕ → Option ℕ) (n : ℕ) (ts : List (Option Tenant)) → ((place i : ℕ) → who place ≡ Some i → (t : Tenant) × (get_or ts i None ≡ Some t) × (t.place ≡ place)) → AllByRecursion (IsSeatOf ts) (refs_below who n)
all_below who zero ts all = tt
all_below who (suc n) ts all = all_append (IsSeatOf ts) (refs_below who n) (ref_at (who n) n) (all_below who n ts all) (here (who n) refl) where
  here : (o : Option ℕ) → who n ≡ o → AllByRecursion (IsSeatOf ts) (ref_at o n)
  here None is = tt
  here (Some i) is = (all n i is, tt)

-- in order they are the instances by number
pub in_order : (who : ℕ → Option ℕ) (n : ℕ) (ts : List (Option Tenant)) (xs : List InstId) → AreSeated who n ts → IsPermutation (refs_below who n) xs → IsNonDecreasingBy (λ (s : InstId). s.number) xs → xs ≡ refs_by 0 ts
in_order who n ts xs are moved up =
    let often : AsOften (numbers_of xs) (numbers_of (refs_by 0 ts)) = λ i. sym (times_of i xs) ∙ sum_by-IsPermutation (λ (s : InstId). one_if i s.number) (refs_below who n) xs moved ∙ times_below who n ts are i (get_or ts i None) refl ∙ sym (by_zero i) in
    let numbers = same_lists 0 0 (numbers_of xs) (numbers_of (refs_by 0 ts)) (rises_all xs up) (by_rises 0 ts) often in
    let all = from_all (IsSeatOf ts) xs (All-permutation (IsSeatOf ts) (refs_below who n) xs moved (to_all (IsSeatOf ts) (refs_below who n) (all_below who n ts are.all))) in
    same_by_numbers ts xs (refs_by 0 ts) numbers all (all_by ts)
  where
    by_zero : (i : ℕ) → tally (one_if i) (numbers_of (refs_by 0 ts)) ≡ one_if_some (get_or ts i None)
    by_zero i = let at : 0 + i ≡ i = omega arith in subst (λ n. tally (one_if n) (numbers_of (refs_by 0 ts)) ≡ one_if_some (get_or ts i None)) at (by_times 0 i ts)
