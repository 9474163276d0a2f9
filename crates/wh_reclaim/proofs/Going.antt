-- How a step comes nearer, move by move.
use Rattle.std.proofs.Common.{◌≡◌, ◌≢◌, ◌∙◌, ◌⊎◌, inl, inr, ℕ, ◌+◌, ◌<◌, ◌≤◌, cond, nat_eq, true, false, Bool, List, [], ◌∷◌, Option, Some, None, length, slice_get, refl, sym, ap, subst, arith}
use Rattle.wh_model.specs.declared.memory.Need.{Need}
use Rattle.wh_space_model.specs.{one_if, tally, Earmarks, IsFirstSwapped, pinned, residents, unpinned, Space, kept, pinned_by, GivesUp, IsOnTheWay, IsServed, IsServing, IsTrueTo, MovesOn, comes, far, goes, frames_to_write, pages_of_need, IsSound, at, count, page_at, resident, swapped, WaitsForBytes}
use Rattle.wh_space_model.specs.declared.states.Page.{Page}
use Rattle.wh_space_model.specs.declared.states.Page.TheVariants.{Untouched, Private, Shared, Leaving, LeavingShared, Coming, Swapped}
use Rattle.wh_space_model.proofs.Tally.{one_other, one_same}
use Rattle.wh_space_model.proofs.Putting.{here_or, pinned_here}
use Rattle.wh_space_model.proofs.Serving.{evict_on, fetch_on}
use Rattle.wh_space_model.proofs.Slotting.{slot_taken}
use Rattle.wh_space_model.proofs.Wanting.{OneOrTwo, few_pages, kinds_of}
use Rattle.wh_reclaim.specs.Providing.{GoesOn, LosesSlot}
use Rattle.wh_reclaim.specs.declared.ready.MoveOutcome.{MoveOutcome}
use Rattle.wh_reclaim.specs.declared.ready.MoveOutcome.TheVariants.{Done, Came, Left}

-- ---- pages that are pinned stand once

residents_of : (s : Space) (i q : ℕ) (ps : List ℕ) → tally (one_if q) (residents s i ps) ≤ tally (one_if q) ps
residents_of s i q [] = omega arith
residents_of s i q (p ∷ ps) = go (nat_eq (at resident (page_at s.tables i p)) 1) (residents_of s i q ps) where
  go : (b : Bool) → tally (one_if q) (residents s i ps) ≤ tally (one_if q) ps → tally (one_if q) (cond b (p ∷ residents s i ps) (residents s i ps)) ≤ one_if q p + tally (one_if q) ps
  go true rest = omega arith
  go false rest = omega arith

one_most : (q p : ℕ) → one_if q p ≤ 1
one_most q p = elim (here_or q p) [ inl same ↦ (let o = one_same q p (sym same) in omega arith) | inr other ↦ (let o = one_other q p (λ e. other (sym e)) in omega arith) ]

pages_once : (ps : List ℕ) (q : ℕ) → OneOrTwo ps → tally (one_if q) ps ≤ 1
unfolding OneOrTwo
pages_once ps q (inl e) = rw e (omega arith)
pages_once ps q (inr (inl (p, e))) = rw e (let o = one_most q p in omega arith)
pages_once ps q (inr (inr (p, e))) = rw e (elim (here_or q p) [
  | inl same ↦ (let o = one_most q p in let n = one_other q (p + 1) (λ z. omega arith) in omega arith)
  | inr other ↦ (let o = one_other q p (λ z. other (sym z)) in let n = one_most q (p + 1) in omega arith)
])

pub pinned_once : (s : Space) (i : ℕ) (need : Need) (q : ℕ) → tally (one_if q) (pinned_by (pinned s i need).pins i) ≤ 1
pinned_once s i need q =
    rw (pinned_here i (residents s i (pages_of_need need)) []) (let a = residents_of s i q (pages_of_need need) in let b = pages_once (pages_of_need need) q (few_pages need) in omega arith)

not_both : (x : Option Page) → at swapped x ≡ 1 → at resident x ≡ 1 → ⊥
not_both None a b = omega arith
not_both (Some Untouched) a b = omega arith
not_both (Some (Private f)) a b = omega arith
not_both (Some (Shared f)) a b = omega arith
not_both (Some (Leaving f)) a b = omega arith
not_both (Some (LeavingShared f)) a b = omega arith
not_both (Some (Coming f)) a b = omega arith
not_both (Some (Swapped f)) a b = omega arith

-- a swapped page isn't pinned
pub swapped_free : (s : Space) (i p : ℕ) → IsSound s → at swapped (page_at s.tables i p) ≡ 1 → tally (one_if p) (pinned_by s.pins i) ≡ 0
swapped_free s i p sound away =
    let not : ¬ (1 ≤ tally (one_if p) (pinned_by s.pins i)) = λ some. not_both (page_at s.tables i p) away (sound.pins.there i p some) in
    omega (arith, not)

first_in : (x : ℕ) (xs : List ℕ) → 1 ≤ tally (one_if x) (x ∷ xs)
first_in x xs = let o = one_same x x refl in omega arith

one_of : (x a : ℕ) → 1 ≤ tally (one_if x) (a ∷ []) → x ≡ a
one_of x a some = elim (here_or a x) [ inl same ↦ same | inr other ↦ absurd (let o = one_other x a (λ e. other e) in omega arith) ]

one_of_two : (x a b : ℕ) → 1 ≤ tally (one_if x) (a ∷ b ∷ []) → (x ≡ a) ⊎ (x ≡ b)
one_of_two x a b some = elim (here_or a x) [ inl same ↦ inl same | inr other ↦ inr (one_of x b (let o = one_other x a (λ e. other e) in omega arith)) ]

-- the other page of the step at most is pinned, while one of them is swapped
few_by : (ps : List ℕ) (p : ℕ) (xs : List ℕ) → OneOrTwo ps → 1 ≤ tally (one_if p) ps → ((q : ℕ) → tally (one_if q) xs ≤ 1) → ((q : ℕ) → 1 ≤ tally (one_if q) xs → 1 ≤ tally (one_if q) ps) → tally (one_if p) xs ≡ 0 → length xs ≤ 1
unfolding OneOrTwo
few_by ps p [] few some once only none = omega arith
few_by ps p (x ∷ []) few some once only none = omega arith
few_by ps p (x ∷ y ∷ xs) few some once only none = absurd (go few) where
  in_x : 1 ≤ tally (one_if x) ps
  in_x = only x (first_in x (y ∷ xs))

  in_y : 1 ≤ tally (one_if y) ps
  in_y = only y (let o = first_in y xs in omega arith)

  not_x : x ≢ p
  not_x e = let o = one_same p x (sym e) in omega arith

  not_y : y ≢ p
  not_y e = let o = one_same p y (sym e) in omega arith

  apart : x ≢ y
  apart e = let o = one_same x x refl in let n = one_same x y e in let k = once x in omega arith

  go : OneOrTwo ps → ⊥
  go (inl e) = let k : 1 ≤ tally (one_if p) [] = rw e at some in omega arith
  go (inr (inl (a, e))) =
      let here = one_of p a (rw e at some) in
      let there = one_of x a (rw e at in_x) in
      not_x (there ∙ sym here)
  go (inr (inr (a, e))) =
      elim (one_of_two p a (a + 1) (rw e at some)) [
        | inl here ↦
            elim (one_of_two x a (a + 1) (rw e at in_x)) [
              | inl same ↦ not_x (same ∙ sym here)
              | inr next ↦ elim (one_of_two y a (a + 1) (rw e at in_y)) [ inl same ↦ not_y (same ∙ sym here) | inr also ↦ apart (next ∙ sym also) ]
            ]
        | inr here ↦
            elim (one_of_two x a (a + 1) (rw e at in_x)) [
              | inr same ↦ not_x (same ∙ sym here)
              | inl next ↦ elim (one_of_two y a (a + 1) (rw e at in_y)) [ inr same ↦ not_y (same ∙ sym here) | inl also ↦ apart (next ∙ sym also) ]
            ]
      ]

pub few_pinned : (s : Space) (i : ℕ) (need : Need) (p : ℕ) → IsSound s → IsServing s i need → ((q : ℕ) → tally (one_if q) (pinned_by s.pins i) ≤ 1) → IsFirstSwapped s i need p → length (pinned_by s.pins i) ≤ 1
few_pinned s i need p sound serving once first =
    few_by (pages_of_need need) p (pinned_by s.pins i) (few_pages need) first.0 once serving.only (swapped_free s i p sound first.1)

-- ---- what a move leaves of it

pub came_once : (s : Space) (i : ℕ) (need : Need) (bytes : List ℕ) (s2 : Space) → IsSound s → ((q : ℕ) → tally (one_if q) (pinned_by s.pins i) ≤ 1) → MovesOn s i need (comes bytes) s2 → (q : ℕ) → tally (one_if q) (pinned_by s2.pins i) ≤ 1
came_once s i need bytes s2 sound once (p, first, fetches) q =
    let pages : pinned_by s2.pins i ≡ p ∷ pinned_by s.pins i = ap (λ (z : Space). pinned_by z.pins i) fetches.leaves ∙ pinned_here i (p ∷ pinned_by s.pins i) (kept s.pins) in
    let free = swapped_free s i p sound first.1 in
    rw pages (elim (here_or q p) [
      | inl same ↦ rw same (let o = one_most q q in let f : tally (one_if q) (pinned_by s.pins i) ≡ 0 = rw (← same) free in omega arith)
      | inr other ↦ (let o = one_other q p (λ e. other (sym e)) in let k = once q in omega arith)
    ])

pub left_once : (s : Space) (i : ℕ) (need : Need) (s2 : Space) → ((q : ℕ) → tally (one_if q) (pinned_by s.pins i) ≤ 1) → MovesOn s i need goes s2 → (q : ℕ) → tally (one_if q) (pinned_by s2.pins i) ≤ 1
left_once s i need s2 once (lacks, (j, p, must, evicts)) q =
    let pages : pinned_by s2.pins i ≡ pinned_by s.pins i = ap (λ (z : Space). pinned_by z.pins i) evicts.leaves in
    rw pages (once q)

pub came_nearer : (s0 : Space) (i : ℕ) (need : Need) (n : ℕ) (s : Space) (bytes : List ℕ) (s2 : Space) → IsSound s → IsOnTheWay s0 i need n s → MovesOn s i need (comes bytes) s2 → far s2 i need < far s i need
came_nearer s0 i need n s bytes s2 sound way (p, first, fetches) = (fetch_on s0 i need n s p bytes s2 sound.frames way first.0 fetches (λ k there. slot_taken s i p k sound.slots there)).1

pub left_nearer : (s0 : Space) (i : ℕ) (need : Need) (n : ℕ) (s : Space) (s2 : Space) → IsSound s → IsOnTheWay s0 i need n s → MovesOn s i need goes s2 → far s2 i need < far s i need
left_nearer s0 i need n s s2 sound way (lacks, (j, p, must, evicts)) = (evict_on s0 i need n s j p s2 sound way must evicts).1

-- ---- what was made of a move

pub goes_done : (honest : Type 0) (s : Space) (i : ℕ) (need : Need) (made : MoveOutcome) (s2 : Space) → made ≡ Done → GoesOn honest s i need made s2 → IsServed s i need × (s2 ≡ s)
goes_done honest s i need made s2 is on = subst (λ m. GoesOn honest s i need m s2) is on

pub goes_came : (honest : Type 0) (s : Space) (i : ℕ) (need : Need) (made : MoveOutcome) (s2 : Space) → made ≡ Came → GoesOn honest s i need made s2
    → (bytes : List ℕ) × MovesOn s i need (comes bytes) s2 × (honest → IsTrueTo s i need (comes bytes))
goes_came honest s i need made s2 is on = subst (λ m. GoesOn honest s i need m s2) is on

pub goes_left : (honest : Type 0) (s : Space) (i : ℕ) (need : Need) (made : MoveOutcome) (s2 : Space) → made ≡ Left → GoesOn honest s i need made s2 → MovesOn s i need goes s2
goes_left honest s i need made s2 is on = subst (λ m. GoesOn honest s i need m s2) is on

-- frames are earmarked at last, or all is given up
pub earmarked : (s mid : Space) (i : ℕ) (need : Need) (n : ℕ) (s2 : Space) → s ≡ mid → n ≡ frames_to_write s i need → Earmarks s i n s2 → Earmarks mid i (frames_to_write mid i need) s2
earmarked s mid i need n s2 same count earmarks = subst (λ z. Earmarks z i (frames_to_write z i need) s2) same (subst (λ m. Earmarks s i m s2) count earmarks)

pub gives_up : (mid s s2 : Space) → LosesSlot mid s → s2 ≡ unpinned s → GivesUp mid s2
gives_up mid s s2 (inl same) is = inl (is ∙ ap unpinned same)
gives_up mid s s2 (inr (k, vacant, same)) is = inr (k, vacant, is ∙ ap unpinned same)

-- who stood for the frame does so still
pub stands_still : (s0 : Space) (i : ℕ) (need : Need) (s : Space) → s.occupants ≡ s0.occupants → WaitsForBytes s0 i need → WaitsForBytes s i need
stands_still s0 i need s same (t, there, live, stands) = (t, ap (λ xs. slice_get xs i) same ∙ there, live, stands)

pub none_kept : (s : Space) → length (kept s.pins) ≡ 0 → kept s.pins ≡ []
none_kept s none = go (kept s.pins) none where
  go : (xs : List ℕ) → length xs ≡ 0 → xs ≡ []
  go [] none = refl
  go (x ∷ xs) none = absurd (omega arith)

-- ---- how far it is

pub far_at_first : (s : Space) (i : ℕ) (need : Need) → far (pinned s i need) i need ≤ count resident s.tables + 4
far_at_first s i need = let two = kinds_of (pinned s i need) i (pages_of_need need) (few_pages need) in omega arith
