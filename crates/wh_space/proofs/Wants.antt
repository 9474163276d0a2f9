-- How many frames the writes to one page want, and to two.
use Rattle.std.proofs.Common.{◌≡◌, ◌≢◌, ℕ, ◌+◌, ◌<◌, ◌≤◌, inl, inr, List, [], ◌∷◌, Option, Some, None, refl, sym, ◌∙◌, ap, arith}
use Rattle.std.proofs.lemmas.Bool.Decides.{nat_tests}
use Rattle.wh_space_model.specs.{IsTaken, Space, sharers, copies, frames_for, IsSound, at, page_at, shares, untouched}
use Rattle.wh_space_model.specs.declared.states.Page.{Page}
use Rattle.wh_space_model.specs.declared.states.Page.TheVariants.{Untouched, Private, Shared, Leaving, LeavingShared, Coming, Swapped}
use Rattle.wh_space_model.proofs.Tally.{one_same}
use Rattle.wh_space_model.proofs.Counting.{double, frames_one_page, frames_two_pages, shared_frame, single}
use Rattle.wh_space_model.proofs.Filling.{other_cond, same_cond}
use Rattle.wh_space_model.proofs.Putting.{here_or}
use Rattle.wh_space_model.proofs.Wanting.{OneOrTwo, among_all}
use Rattle.wh_space.specs.Steps.{SharesAlone, frame_shared}
use Rattle.wh_space.proofs.Owning.{is_sharer}

same_shared : (x : Page) → shared_frame x ≡ frame_shared x
unfolding shared_frame
same_shared Untouched = refl
same_shared (Private f) = refl
same_shared (Shared f) = refl
same_shared (Leaving f) = refl
same_shared (LeavingShared f) = refl
same_shared (Coming k) = refl
same_shared (Swapped k) = refl

pub shares_frame : (x : Page) (f : ℕ) → frame_shared x ≡ Some f → (shares f x ≡ 1) × (untouched x ≡ 0)
shares_frame Untouched f is = absurd (cc is)
shares_frame (Private g) f is = absurd (cc is)
shares_frame (Shared g) f is = let e : g ≡ f = cc in (one_same f g (sym e), refl)
shares_frame (Leaving g) f is = absurd (cc is)
shares_frame (LeavingShared g) f is = let e : g ≡ f = cc in (one_same f g (sym e), refl)
shares_frame (Coming k) f is = absurd (cc is)
shares_frame (Swapped k) f is = absurd (cc is)

-- ---- one page

one_page : (s : Space) (i p : ℕ) (x : Page) → IsSound s → page_at s.tables i p ≡ Some x → frames_for s i (p ∷ []) ≡ untouched x + single s (frame_shared x)
one_page s i p x sound there = frames_one_page s i p x sound.frames there ∙ ap (λ o. untouched x + single s o) (same_shared x)

some_copies : (n : ℕ) → 1 < n → copies 1 n ≡ 1
some_copies n more = grind (arith, nat_tests)

no_copies : (n : ℕ) → n ≤ 1 → copies 1 n ≡ 0
no_copies n few = grind (arith, nat_tests)

pub wants_copy : (s : Space) (i p f : ℕ) (x : Page) → IsSound s → page_at s.tables i p ≡ Some x → frame_shared x ≡ Some f → 1 < sharers s f → frames_for s i (p ∷ []) ≡ 1
unfolding single
wants_copy s i p f x sound there shared more =
    (one_page s i p x sound there) ∙ (let e = some_copies (sharers s f) more in rw ((shares_frame x f shared).1, shared, e) refl)

pub wants_none_of : (s : Space) (i p f : ℕ) (x : Page) → IsSound s → page_at s.tables i p ≡ Some x → frame_shared x ≡ Some f → sharers s f ≤ 1 → frames_for s i (p ∷ []) ≡ 0
unfolding single
wants_none_of s i p f x sound there shared few =
    (one_page s i p x sound there) ∙ (let e = no_copies (sharers s f) few in rw ((shares_frame x f shared).1, shared, e) refl)

pub wants_zeros : (s : Space) (i p : ℕ) → IsSound s → page_at s.tables i p ≡ Some Untouched → frames_for s i (p ∷ []) ≡ 1
unfolding single
wants_zeros s i p sound there = one_page s i p Untouched sound there

untouched_or : (x : Page) → (x ≡ Untouched → ⊥) → untouched x ≡ 0
untouched_or Untouched other = absurd (other refl)
untouched_or (Private f) other = refl
untouched_or (Shared f) other = refl
untouched_or (Leaving f) other = refl
untouched_or (LeavingShared f) other = refl
untouched_or (Coming k) other = refl
untouched_or (Swapped k) other = refl

pub wants_none : (s : Space) (i p : ℕ) (x : Page) → IsSound s → page_at s.tables i p ≡ Some x → frame_shared x ≡ None → (x ≡ Untouched → ⊥) → frames_for s i (p ∷ []) ≡ 0
unfolding single
wants_none s i p x sound there alone other = one_page s i p x sound there ∙ (let e = untouched_or x other in rw (alone, e) refl)

-- ---- two pages

two_sharers : (s : Space) (i p f : ℕ) (x y : Page) → page_at s.tables i p ≡ Some x → page_at s.tables i (p + 1) ≡ Some y → frame_shared x ≡ Some f → frame_shared y ≡ Some f → 2 ≤ sharers s f
unfolding OneOrTwo
two_sharers s i p f x y there also shared too =
    let all = among_all (shares f) s i (p ∷ (p + 1) ∷ []) (inr (inr (p, refl))) in
    let a : at (shares f) (page_at s.tables i p) ≡ 1 = rw there ((shares_frame x f shared).0) in
    let b : at (shares f) (page_at s.tables i (p + 1)) ≡ 1 = rw also ((shares_frame y f too).0) in
    omega arith

two_of_more : (n : ℕ) → 2 < n → copies 2 n ≡ copies 1 n + copies 1 n
two_of_more n more = grind (arith, nat_tests)

same_double : (s : Space) (f : ℕ) → double s (Some f) (Some f) ≡ copies 2 (sharers s f)
unfolding double single
same_double s f = same_cond f f (copies 2 (sharers s f)) (copies 1 (sharers s f) + copies 1 (sharers s f)) refl

single_some : (s : Space) (f : ℕ) → single s (Some f) ≡ copies 1 (sharers s f)
unfolding single
single_some s f = refl

sum_of : (s : Space) (i p : ℕ) (x y : Page) → IsSound s → page_at s.tables i p ≡ Some x → page_at s.tables i (p + 1) ≡ Some y
    → (frames_for s i (p ∷ []) + frames_for s i ((p + 1) ∷ [])) + double s (frame_shared x) (frame_shared y)
    ≡ frames_for s i (p ∷ (p + 1) ∷ []) + (single s (frame_shared x) + single s (frame_shared y))
sum_of s i p x y sound there also =
    let a = one_page s i p x sound there in
    let b = one_page s i (p + 1) y sound also in
    let c = frames_two_pages s i p (p + 1) x y sound.frames there also ∙ ap (λ o. (untouched x + untouched y) + double s o (shared_frame y)) (same_shared x) ∙ ap (λ o. (untouched x + untouched y) + double s (frame_shared x) o) (same_shared y) in
    omega arith

pub both_alone : (s : Space) (i p : ℕ) → IsSound s → SharesAlone s i p (p + 1) → frames_for s i (p ∷ (p + 1) ∷ []) + 1 ≡ frames_for s i (p ∷ []) + frames_for s i ((p + 1) ∷ [])
both_alone s i p sound a =
    let sum = sum_of s i p a.first a.second sound a.here a.there in
    let d : double s (frame_shared a.first) (frame_shared a.second) ≡ copies 2 (sharers s a.frame) = rw (a.shared, a.also) (same_double s a.frame) in
    let x : single s (frame_shared a.first) ≡ copies 1 (sharers s a.frame) = rw a.shared (single_some s a.frame) in
    let y : single s (frame_shared a.second) ≡ copies 1 (sharers s a.frame) = rw a.also (single_some s a.frame) in
    let n : sharers s a.frame ≡ 2 = a.alone in
    let d2 : copies 2 (sharers s a.frame) ≡ 1 = rw n refl in
    let x2 : copies 1 (sharers s a.frame) ≡ 1 = rw n refl in
    omega arith

pub both_apart : (s : Space) (i p : ℕ) (x y : Page) → IsSound s → page_at s.tables i p ≡ Some x → page_at s.tables i (p + 1) ≡ Some y → ¬ SharesAlone s i p (p + 1)
    → frames_for s i (p ∷ (p + 1) ∷ []) ≡ frames_for s i (p ∷ []) + frames_for s i ((p + 1) ∷ [])
unfolding double single
both_apart s i p x y sound there also apart = go (frame_shared x) refl (frame_shared y) refl where
  sum : (frames_for s i (p ∷ []) + frames_for s i ((p + 1) ∷ [])) + double s (frame_shared x) (frame_shared y) ≡ frames_for s i (p ∷ (p + 1) ∷ []) + (single s (frame_shared x) + single s (frame_shared y))
  sum = sum_of s i p x y sound there also

  go : (o : Option ℕ) → frame_shared x ≡ o → (q : Option ℕ) → frame_shared y ≡ q → frames_for s i (p ∷ (p + 1) ∷ []) ≡ frames_for s i (p ∷ []) + frames_for s i ((p + 1) ∷ [])
  go None e q e2 = let k = rw (e, e2) at sum in omega arith
  go (Some f) e None e2 = let k = rw (e, e2) at sum in omega arith
  go (Some f) e (Some g) e2 =
      elim (here_or f g) [
        | inl same ↦
            (let also2 : frame_shared y ≡ Some f = e2 ∙ ap Some same in
            let most = two_sharers s i p f x y there also e also2 in
            let not_two : sharers s f ≢ 2 = λ two. apart (record { frame = f; first = x; second = y; here = there; there = also; shared = e; also = also2; alone = two }) in
            let d = same_double s f in
            let more = two_of_more (sharers s f) (omega arith) in
            let k = rw (e, also2) at sum in
            omega arith)
        | inr other ↦
            (let c = other_cond f g (copies 2 (sharers s f)) (copies 1 (sharers s f) + copies 1 (sharers s g)) (λ e. other (sym e)) in
            let k = rw (e, e2) at sum in
            omega arith)
      ]

-- ---- frames of these pages

pub shared_taken_by : (s : Space) (i p f : ℕ) (x : Page) → IsSound s → page_at s.tables i p ≡ Some x → frame_shared x ≡ Some f → IsTaken s.pool f
shared_taken_by s i p f x sound there shared = (is_sharer s i p f sound (rw there ((shares_frame x f shared).0))).taken

pub same_page : (tables : List (List Page)) (i p : ℕ) (x y : Page) → page_at tables i p ≡ Some x → page_at tables i p ≡ Some y → x ≡ y
same_page tables i p x y here there = let both : Some x ≡ Some y = sym here ∙ there in cc
