-- A copy leaves the one that pays.
use Rattle.std.proofs.Common.{◌≡◌, ◌≢◌, ℕ, ◌*◌, ◌+◌, ◌<◌, ◌≤◌, inl, inr, replicate, List, [], Option, Some, None, length, slice_get, get_or, zero, suc, refl, sym, ap, ◌∙◌, subst, arith, rules}
use Rattle.wh_space_model.specs.{tally, one_if, IsChargedFor, charged_of, occupant_number, stands_on, HasLess, IsPayer, MayPay, stays, weight_of, Copies, CopiesLeavePayer, LendsFirst, LendsPage, Claimed, Occupant, Pins, Space, occupant_at, of_occupant, pinned_by, IsFreePlace, newcomer, with_row, IsSound, at, page_at, put}
use Rattle.wh_space_model.specs.declared.states.Page.{Page}
use Rattle.wh_space_model.specs.declared.states.Page.TheVariants.{Untouched, Private, Shared, Leaving, LeavingShared, Coming, Swapped}
use Rattle.wh_space_model.proofs.Begun.{at_same}
use Rattle.wh_space_model.proofs.Breaking.{elsewhere}
use Rattle.wh_space_model.proofs.Entered.{enters_soundly, free_within}
use Rattle.wh_space_model.proofs.Forked.{IsKept, entered_row, lent_first}
use Rattle.wh_space_model.proofs.ForkedCharges.{comes, copies_are_free}
use Rattle.wh_space_model.proofs.Living.{page_is_live}
use Rattle.wh_space_model.proofs.Putting.{get_or_is, here_or, put_other_row, put_this, there_of}
use Rattle.wh_space_model.proofs.Rows.{row_other, row_same, same_there}

-- ---- page by page

-- a kind that doesn't tell whether a page is alone on its frame
abbrev IsBlind : (Page → ℕ) → Type 0
IsBlind w = (f : ℕ) → w (Shared f) ≡ w (Private f)

away_same : (w : Page → ℕ) (t : List (List Page)) (j p k q : ℕ) (x : Page) → k ≢ j → at w (page_at (put t j p x) k q) ≡ at w (page_at t k q)
away_same w t j p k q x away = ap (λ xs. at w (slice_get xs q)) (put_other_row t j p k x away)

lent_kind : (w : Page → ℕ) → IsBlind w → (s : Space) (i j p : ℕ) (page : Page) (s2 : Space) → page_at s.tables i p ≡ Some page → LendsPage s i j p page s2 → (k q : ℕ) → k ≢ j → at w (page_at s2.tables k q) ≡ at w (page_at s.tables k q)
lent_kind w blind s i j p Untouched s2 was is k q away = ap (λ (a : Space). at w (page_at a.tables k q)) is
lent_kind w blind s i j p (Private f) s2 was is k q away = search (rules, away_same, at_same)
lent_kind w blind s i j p (Shared f) s2 was is k q away = ap (λ (a : Space). at w (page_at a.tables k q)) is ∙ away_same w s.tables j p k q (Shared f) away
lent_kind w blind s i j p (Leaving f) s2 was is k q away = absurd is
lent_kind w blind s i j p (LeavingShared f) s2 was is k q away = absurd is
lent_kind w blind s i j p (Coming n) s2 was is k q away = absurd is
lent_kind w blind s i j p (Swapped n) s2 was is k q away = absurd is

all_kinds : (w : Page → ℕ) → IsBlind w → (s : Space) (i j n : ℕ) (s2 : Space) → LendsFirst s i j n s2 → (k q : ℕ) → k ≢ j → at w (page_at s2.tables k q) ≡ at w (page_at s.tables k q)
all_kinds w blind s i j zero s2 is k q away = ap (λ (a : Space). at w (page_at a.tables k q)) is
all_kinds w blind s i j (suc n) s2 (mid, before, l) k q away = lent_kind w blind mid i j n l.page s2 l.was l.lends k q away ∙ all_kinds w blind s i j n mid before k q away

-- where a page of the copy stands on a frame, so does that of the other one
abbrev Follows : Space → ℕ → ℕ → Type 0
Follows s i j = (f q : ℕ) → at (stands_on f) (page_at s.tables j q) ≡ 1 → at (stands_on f) (page_at s.tables i q) ≡ 1

stands_blind : (f : ℕ) → IsBlind (stands_on f)
stands_blind f g = omega arith

put_follows : (t : List (List Page)) (i j p g : ℕ) (x y : Page) → j ≢ i → page_at t i p ≡ Some x → page_at t j p ≡ Some y → ((f : ℕ) → stands_on f x ≡ one_if f g) → ((f q : ℕ) → at (stands_on f) (page_at t j q) ≡ 1 → at (stands_on f) (page_at t i q) ≡ 1)
    → (f q : ℕ) → at (stands_on f) (page_at (put t j p (Shared g)) j q) ≡ 1 → at (stands_on f) (page_at (put t j p (Shared g)) i q) ≡ 1
put_follows t i j p g x y apart was onto on old f q is = search (rules, away_same, elsewhere, put_this)

lent_follows : (s : Space) (i j p : ℕ) (page : Page) (s2 : Space) → j ≢ i → page_at s.tables i p ≡ Some page → page_at s.tables j p ≡ Some Untouched → LendsPage s i j p page s2 → Follows s i j → Follows s2 i j
lent_follows s i j p Untouched s2 apart was onto is old = subst (λ (a : Space). Follows a i j) (sym is) old
lent_follows s i j p (Private g) s2 apart was onto is old =
    let t : List (List Page) = put s.tables i p (Shared g) in
    let there : page_at t j p ≡ Some Untouched = ap (λ xs. slice_get xs p) (put_other_row s.tables i p j (Shared g) apart) ∙ onto in
    let mid : (f q : ℕ) → at (stands_on f) (page_at t j q) ≡ 1 → at (stands_on f) (page_at t i q) ≡ 1 = λ f q e.
    at_same (stands_on f) s.tables i p i q (Private g) (Shared g) was (stands_blind f g) ∙ old f q (sym (away_same (stands_on f) s.tables i p j q (Shared g) apart) ∙ e) in
    subst (λ (a : Space). Follows a i j) (sym is) (put_follows t i j p g (Shared g) Untouched apart (put_this s.tables i p (Private g) (Shared g) was) there (λ f. omega arith) mid)
lent_follows s i j p (Shared g) s2 apart was onto is old = subst (λ (a : Space). Follows a i j) (sym is) (put_follows s.tables i j p g (Shared g) Untouched apart was onto (λ f. omega arith) old)
lent_follows s i j p (Leaving f) s2 apart was onto is old = absurd is
lent_follows s i j p (LeavingShared f) s2 apart was onto is old = absurd is
lent_follows s i j p (Coming n) s2 apart was onto is old = absurd is
lent_follows s i j p (Swapped n) s2 apart was onto is old = absurd is

all_follow : (s : Space) (i j n : ℕ) (s2 : Space) → j ≢ i → LendsFirst s i j n s2 → Follows s i j → Follows s2 i j
all_follow s i j zero s2 apart is old = subst (λ (a : Space). Follows a i j) (sym is) old
all_follow s i j (suc n) s2 apart (mid, before, l) old = lent_follows mid i j n l.page s2 apart l.was l.onto l.lends (all_follow s i j n mid apart before old)

none_stand : (n f q : ℕ) → at (stands_on f) (slice_get (replicate n Untouched) q) ≡ 0
none_stand zero f q = refl
none_stand (suc n) f zero = refl
none_stand (suc n) f (suc q) = none_stand n f q

-- ---- what a copy leaves of the others

record Leaves (s : Space) (i j : ℕ) (c : Claimed) (s2 : Space) : Type 0 where
  stand : (f k q : ℕ) → k ≢ j → at (stands_on f) (page_at s2.tables k q) ≡ at (stands_on f) (page_at s.tables k q)
  stay : (k q : ℕ) → k ≢ j → at stays (page_at s2.tables k q) ≡ at stays (page_at s.tables k q)
  follows : Follows s2 i j
  empty : get_or s.tables j [] ≡ []
  entry : (k : ℕ) → k ≢ j → slice_get s2.occupants k ≡ slice_get s.occupants k
  number : (k : ℕ) → k ≢ j → occupant_number s2 k ≡ occupant_number s k
  mine : occupant_number s2 j ≡ c.number
  pins : s2.pins ≡ s.pins

leaves_of : (s : Space) (i j : ℕ) (c : Claimed) (s2 : Space) → IsSound s → Copies s i j c s2 → Leaves s i j c s2
leaves_of s i j c s2 sound copies =
    let mid : Space = copies.mid in
    let size : ℕ = copies.size in
    let enters = copies.enters in
    let come = comes s i j c size mid sound copies.apart enters in
    let lent = lent_first mid i j (16 * size) s2 (enters_soundly s j c size mid sound enters) copies.apart copies.lends in
    let keeps : IsKept mid s2 = lent.keeps in
    let rows = entered_row s i j c size mid sound copies.apart enters in
    let occupied : s2.occupants ≡ with_row s.occupants j (Some (newcomer c)) = keeps.occupants ∙ ap (λ (a : Space). a.occupants) enters.leaves in
    let most : j ≤ length s.occupants = free_within s j enters.free in
    let entry : (k : ℕ) → k ≢ j → slice_get s2.occupants k ≡ slice_get s.occupants k = λ k away. ap (λ xs. slice_get xs k) occupied ∙ row_other s.occupants j k (Some (newcomer c)) most away in
    let kind : (w : Page → ℕ) → IsBlind w → (k q : ℕ) → k ≢ j → at w (page_at s2.tables k q) ≡ at w (page_at s.tables k q) = λ w blind k q away. all_kinds w blind mid i j (16 * size) s2 copies.lends k q away ∙ ap (λ xs. at w (slice_get xs q)) (come.rows k away) in
    record {
      stand = λ f k q away. kind (stands_on f) (stands_blind f) k q away;
      stay = λ k q away. kind stays (λ f. refl) k q away;
      follows = all_follow mid i j (16 * size) s2 copies.apart copies.lends (λ f q is. absurd (let z = ap (λ xs. at (stands_on f) (slice_get xs q)) rows.1 ∙ none_stand (16 * size) f q in omega (arith, is, z)));
      empty = come.empty;
      entry = entry;
      number = λ k away. ap (of_occupant (λ t. t.number)) (same_there s2.occupants s.occupants k None (entry k away));
      mine = ap (of_occupant (λ t. t.number)) (get_or_is s2.occupants j (Some (newcomer c)) None (ap (λ xs. slice_get xs j) occupied ∙ row_same s.occupants j (Some (newcomer c)) most));
      pins = keeps.pins ∙ ap (λ (a : Space). a.pins) enters.leaves;
    }

-- a page that stands on a frame
standing_page : (o : Option Page) (f : ℕ) → at (stands_on f) o ≡ 1 → (x : Page) × (o ≡ Some x)
standing_page None f is = absurd (omega (arith, is))
standing_page (Some x) f is = (x, refl)

charged_before : (s : Space) (i j : ℕ) (c : Claimed) (s2 : Space) → Leaves s i j c s2 → (k p f : ℕ) → k ≢ j → IsChargedFor s2 k p f → IsChargedFor s k p f
charged_before s i j c s2 l k p f away is = search rules

charged_after : (s : Space) (i j : ℕ) (c : Claimed) (s2 : Space) → IsSound s → j ≢ i → ((k : ℕ) (t : Occupant) → occupant_at s k t → t.number < c.number) → Leaves s i j c s2 → (k p f : ℕ) → k ≢ j → IsChargedFor s k p f → IsChargedFor s2 k p f
charged_after s i j c s2 sound apart last l k p f away is = search (rules, here_or, standing_page, page_is_live, get_or_is)

nobody_there : (s : Space) (j : ℕ) (t : Occupant) → IsFreePlace s j → occupant_at s j t → ⊥
nobody_there s j t (inl free) is = (let both : Some None ≡ Some (Some t) = sym free ∙ is in cc both)
nobody_there s j t (inr past) is = (let a = there_of s.occupants j (Some t) is in omega (arith, a, past))

pub copies_leave_payer : CopiesLeavePayer
copies_leave_payer s i j c s2 sound copies last k =
    let l = leaves_of s i j c s2 sound copies in
    let free = copies_are_free s i j c s2 sound copies last in
    let before : (m : ℕ) (t : Occupant) → m ≢ j → occupant_at s2 m t → occupant_at s m t = λ m t away is. sym (l.entry m away) ∙ is in
    let after : (m : ℕ) (t : Occupant) → m ≢ j → occupant_at s m t → occupant_at s2 m t = λ m t away is. l.entry m away ∙ is in
    let not_copy : (m : ℕ) → MayPay s2 m → m ≢ j = λ m may e. (let low = may.0.2 in let z : charged_of s2 m ≡ 0 = ap (charged_of s2) e ∙ free.0 in omega (arith, low, z)) in
    let not_free : (m : ℕ) → MayPay s m → m ≢ j = λ m may e. nobody_there s j may.0.0 copies.enters.free (subst (λ z. occupant_at s z may.0.0) e may.0.1) in
    let may_before : (m : ℕ) → MayPay s2 m → MayPay s m = λ m may.
    (let away = not_copy m may in
    let t = may.0.0 in
    let p = may.1.0 in
    let can = may.1.1.0 in
    let charged = may.1.1.1 in
    let less : t.min < charged_of s m = (let low = may.0.2 in let e = (free.1 m away).0 in omega (arith, low, e)) in (
      (t, before m t away may.0.1, less),
      (
        p,
        (
          (sym (l.stay m p away) ∙ can.0, sym (ap (λ (o : Option Pins). tally (one_if p) (pinned_by o m)) l.pins) ∙ can.1, (can.2.0, before m can.2.0 away can.2.1, can.2.2)),
          (charged.0, charged_before s i j c s2 l m p charged.0 away charged.1),
        ),
      ),
    )) in
    let may_after : (m : ℕ) → MayPay s m → MayPay s2 m = λ m may.
    (let away = not_free m may in
    let t = may.0.0 in
    let p = may.1.0 in
    let can = may.1.1.0 in
    let charged = may.1.1.1 in
    let less : t.min < charged_of s2 m = (let low = may.0.2 in let e = (free.1 m away).0 in omega (arith, low, e)) in (
      (t, after m t away may.0.1, less),
      (
        p,
        (
          (l.stay m p away ∙ can.0, ap (λ (o : Option Pins). tally (one_if p) (pinned_by o m)) l.pins ∙ can.1, (can.2.0, after m can.2.0 away can.2.1, can.2.2)),
          (charged.0, charged_after s i j c s2 sound copies.apart last l m p charged.0 away charged.1),
        ),
      ),
    )) in
    let less_before : (a b : ℕ) → a ≢ j → b ≢ j → HasLess s2 a b → HasLess s a b = λ a b x y h t u at_a at_b.
    subst (λ n. t.shares * n < u.shares * weight_of s a) (free.1 b y).1 (subst (λ n. t.shares * weight_of s2 b < u.shares * n) (free.1 a x).1 (h t u (after a t x at_a) (after b u y at_b))) in
    let less_after : (a b : ℕ) → a ≢ j → b ≢ j → HasLess s a b → HasLess s2 a b = λ a b x y h t u at_a at_b.
    subst (λ n. t.shares * n < u.shares * weight_of s2 a) (sym (free.1 b y).1) (subst (λ n. t.shares * weight_of s b < u.shares * n) (sym (free.1 a x).1) (h t u (before a t x at_a) (before b u y at_b))) in (
      λ (pays : IsPayer s2 k).
          (let here = not_copy k pays.may_pay in
          record {
            may_pay = may_before k pays.may_pay;
            least = λ m may less. pays.least m (may_after m may) (less_after m k (not_free m may) here less);
            first = λ m may earlier. less_before k m here (not_free m may) (pays.first m (may_after m may) (λ t u at_m at_k. earlier t u (before m t (not_free m may) at_m) (before k u here at_k)));
          }),
      λ (pays : IsPayer s k).
          (let here = not_free k pays.may_pay in
          record {
            may_pay = may_after k pays.may_pay;
            least = λ m may less. pays.least m (may_before m may) (less_before m k (not_copy m may) here less);
            first = λ m may earlier. less_after k m here (not_copy m may) (pays.first m (may_before m may) (λ t u at_m at_k. earlier t u (after m t (not_copy m may) at_m) (after k u here at_k)));
          }),
    )
