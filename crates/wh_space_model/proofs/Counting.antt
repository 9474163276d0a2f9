-- What a step wants, from its one or two pages alone.
use Rattle.std.proofs.Common.{◌≡◌, ◌≢◌, ℕ, ◌+◌, ◌<◌, ◌==◌, inl, inr, cond, [], ◌∷◌, Option, Some, None, length, zero, suc, refl, sym, ap, ◌∙◌, arith}
use Rattle.std.proofs.lemmas.Bool.Decides.{nat_tests}
use Rattle.std.proofs.lemmas.Bool.{cases_lt}
use Rattle.wh_space_model.specs.{one_if, Space, sharers, below, copies, frames_for, FramesAreSound, at, page_at, shares, untouched}
use Rattle.wh_space_model.proofs.Tally.{one_same, one_other}
use Rattle.wh_space_model.specs.declared.states.Page.{Page}
use Rattle.wh_space_model.specs.declared.states.Page.TheVariants.{Untouched, Private, Shared, Leaving, LeavingShared, Coming, Swapped}
use Rattle.wh_space_model.proofs.Putting.{here_or, get_pages}
use Rattle.wh_space_model.proofs.Sums.{below_zero}

below_same : (n : ℕ) (v w : ℕ → ℕ) → ((k : ℕ) → k < n → v k ≡ w k) → below n v ≡ below n w
below_same zero v w each = refl
below_same (suc n) v w each = let rest = below_same n v w (λ k less. each k (omega arith)) in let one = each n (omega arith) in omega arith

-- a sum in which one number counts
pub below_at : (n g : ℕ) (w : ℕ → ℕ) → g < n → ((k : ℕ) → k ≢ g → w k ≡ 0) → below n w ≡ w g
below_at zero g w less none = absurd (omega arith)
below_at (suc n) g w less none =
    elim (cases_lt g n) [
      | inl before ↦ let rest = below_at n g w before none in let last = none n (λ e. omega arith) in omega arith
      | inr most ↦
          (let e : n ≡ g = omega arith in
          let zeros = below_same n w (λ k. 0) (λ k below_n. none k (λ q. omega arith)) in
          let z = below_zero n in
          let last : w n ≡ w g = ap w e in
          omega arith)
    ]

-- a sum in which two do
pub below_two : (n g h : ℕ) (w : ℕ → ℕ) → g < n → h < n → g ≢ h → ((k : ℕ) → k ≢ g → k ≢ h → w k ≡ 0) → below n w ≡ w g + w h
below_two zero g h w less less2 apart none = absurd (omega arith)
below_two (suc n) g h w less less2 apart none =
    elim (cases_lt g n) [
      | inl before ↦
          elim (cases_lt h n) [
            | inl before2 ↦ (let rest = below_two n g h w before before2 apart none in let last = none n (λ e. omega arith) (λ e. omega arith) in omega arith)
            | inr most2 ↦
                (let e : n ≡ h = omega arith in
                let rest = below_front n g w before (λ k less3 other. none k other (λ q. omega arith)) in
                let last : w n ≡ w h = ap w e in omega arith)
          ]
      | inr most ↦
          (let e : n ≡ g = omega arith in
          let rest = below_front n h w (let a : h ≢ g = λ q. apart (sym q) in omega (arith, a)) (λ k less3 other. none k (λ q. omega arith) other) in
          let last : w n ≡ w g = ap w e in omega arith)
    ] where
      below_front : (n g : ℕ) (w : ℕ → ℕ) → g < n → ((k : ℕ) → k < n → k ≢ g → w k ≡ 0) → below n w ≡ w g
      below_front zero g w less none = absurd (omega arith)
      below_front (suc n) g w less none =
          elim (cases_lt g n) [
            | inl before ↦ let rest = below_front n g w before (λ k b other. none k (omega arith) other) in let last = none n (omega arith) (λ e. omega arith) in omega arith
            | inr most ↦
                (let e : n ≡ g = omega arith in
                let zeros = below_same n w (λ k. 0) (λ k below_n. none k (omega arith) (λ q. omega arith)) in
                let z = below_zero n in
                let last : w n ≡ w g = ap w e in
                omega arith)
          ]

-- the frame that a page shares
unfoldable pub shared_frame : Page → Option ℕ
shared_frame Untouched = None
shared_frame (Private f) = None
shared_frame (Shared f) = Some f
shared_frame (Leaving f) = None
shared_frame (LeavingShared f) = Some f
shared_frame (Coming k) = None
shared_frame (Swapped k) = None

-- copies of what one page shares, and of what two do
unfoldable pub single : Space → Option ℕ → ℕ
single s None = 0
single s (Some f) = copies 1 (sharers s f)

unfoldable pub double : Space → Option ℕ → Option ℕ → ℕ
double s None y = single s y
double s (Some f) None = single s (Some f)
double s (Some f) (Some g) = cond (f == g) (copies 2 (sharers s f)) (copies 1 (sharers s f) + copies 1 (sharers s g))

count_one : Option ℕ → ℕ → ℕ
count_one None f = 0
count_one (Some g) f = one_if f g

shares_by : (f : ℕ) (x : Page) → shares f x ≡ count_one (shared_frame x) f
unfolding count_one shared_frame
shares_by f Untouched = refl
shares_by f (Private g) = refl
shares_by f (Shared g) = refl
shares_by f (Leaving g) = refl
shares_by f (LeavingShared g) = refl
shares_by f (Coming k) = refl
shares_by f (Swapped k) = refl

pub no_copies : (sharing : ℕ) → copies 0 sharing ≡ 0
no_copies sharing = grind (arith, nat_tests)

-- for one page
one_sum : (s : Space) (n : ℕ) (o : Option ℕ) → ((f : ℕ) → o ≡ Some f → f < n) → below n (λ f. copies (count_one o f + 0) (sharers s f)) ≡ single s o
unfolding count_one single
one_sum s n None within = below_same n (λ f. copies 0 (sharers s f)) (λ f. 0) (λ f less. no_copies (sharers s f)) ∙ below_zero n
one_sum s n (Some g) within =
    below_at n g (λ f. copies (one_if f g + 0) (sharers s f)) (within g refl) (λ f other. (let o = one_other f g other in rw o (no_copies (sharers s f))))
    ∙ (let o = one_same g g refl in rw o refl)

shared_within : (s : Space) (i p : ℕ) (x : Page) → FramesAreSound s → page_at s.tables i p ≡ Some x → (f : ℕ) → shared_frame x ≡ Some f → f < length s.pool.frames
unfolding count_one
shared_within s i p x sound there f is =
    let some = get_pages (shares f) s.tables i p x there in
    let by : shares f x ≡ count_one (shared_frame x) f = shares_by f x in
    let one : count_one (shared_frame x) f ≡ 1 = rw is (one_same f f refl) in
    elim (cases_lt f (length s.pool.frames)) [ inl within ↦ within | inr past ↦ absurd (let z = sound.none f past in omega arith) ]

pub frames_one_page : (s : Space) (i p : ℕ) (x : Page) → FramesAreSound s → page_at s.tables i p ≡ Some x → frames_for s i (p ∷ []) ≡ untouched x + single s (shared_frame x)
frames_one_page s i p x sound there =
    let n = length s.pool.frames in
    let same = below_same n (λ f. copies (at (shares f) (page_at s.tables i p) + 0) (sharers s f)) (λ f. copies (count_one (shared_frame x) f + 0) (sharers s f))
    (λ f less. (let by = shares_by f x in rw (there, by) refl)) in
    let sum = one_sum s n (shared_frame x) (shared_within s i p x sound there) in
    let zeros : at untouched (page_at s.tables i p) ≡ untouched x = rw there refl in
    omega arith

-- for two
two_sum : (s : Space) (n : ℕ) (o q : Option ℕ) → ((f : ℕ) → o ≡ Some f → f < n) → ((f : ℕ) → q ≡ Some f → f < n) → below n (λ f. copies (count_one o f + (count_one q f + 0)) (sharers s f)) ≡ double s o q
unfolding count_one single double one_sum
two_sum s n None q within within2 = below_same n (λ f. copies (0 + (count_one q f + 0)) (sharers s f)) (λ f. copies (count_one q f + 0) (sharers s f)) (λ f less. (let e : 0 + (count_one q f + 0) ≡ count_one q f + 0 = omega arith in ap (λ z. copies z (sharers s f)) e)) ∙ one_sum s n q within2
two_sum s n (Some g) None within within2 = below_same n (λ f. copies (one_if f g + (0 + 0)) (sharers s f)) (λ f. copies (one_if f g + 0) (sharers s f)) (λ f less. refl) ∙ one_sum s n (Some g) within
two_sum s n (Some g) (Some h) within within2 =
    elim (here_or g h) [
      | inl same ↦
          (let o = one_same g g refl in
          let sum = below_at n g (λ f. copies (one_if f g + (one_if f g + 0)) (sharers s f)) (within g refl) (λ f other. (let z = one_other f g other in rw z (no_copies (sharers s f)))) in
          let here : copies (one_if g g + (one_if g g + 0)) (sharers s g) ≡ copies 2 (sharers s g) = rw o refl in
          rw same (rw (cond_here g (copies 2 (sharers s g)) (copies 1 (sharers s g) + copies 1 (sharers s g))) (sum ∙ here)))
      | inr other ↦
          (let a = one_same g g refl in let b = one_same h h refl in
          let c = one_other g h (λ e. other (sym e)) in let d = one_other h g other in
          let sum = below_two n g h (λ f. copies (one_if f g + (one_if f h + 0)) (sharers s f)) (within g refl) (within2 h refl) (λ e. other (sym e))
          (λ f u v. (let x = one_other f g u in let y = one_other f h v in rw (x, y) (no_copies (sharers s f)))) in
          let left_one : copies (one_if g g + (one_if g h + 0)) (sharers s g) ≡ copies 1 (sharers s g) = rw (a, c) refl in
          let right_one : copies (one_if h g + (one_if h h + 0)) (sharers s h) ≡ copies 1 (sharers s h) = rw (d, b) refl in
          rw (cond_other g h (copies 2 (sharers s g)) (copies 1 (sharers s g) + copies 1 (sharers s h)) (λ e. other e)) (omega arith))
    ] where
      cond_here : (g a b : ℕ) → cond (g == g) a b ≡ a
      cond_here g a b = grind (arith, nat_tests)

      cond_other : (g h a b : ℕ) → h ≢ g → cond (g == h) a b ≡ b
      cond_other g h a b other = grind (arith, nat_tests)

pub frames_two_pages : (s : Space) (i p q : ℕ) (x y : Page) → FramesAreSound s → page_at s.tables i p ≡ Some x → page_at s.tables i q ≡ Some y
    → frames_for s i (p ∷ q ∷ []) ≡ (untouched x + untouched y) + double s (shared_frame x) (shared_frame y)
frames_two_pages s i p q x y sound there also =
    let n = length s.pool.frames in
    let same = below_same n (λ f. copies (at (shares f) (page_at s.tables i p) + (at (shares f) (page_at s.tables i q) + 0)) (sharers s f)) (λ f. copies (count_one (shared_frame x) f + (count_one (shared_frame y) f + 0)) (sharers s f))
    (λ f less. (let by = shares_by f x in let by2 = shares_by f y in rw (there, also, by, by2) refl)) in
    let sum = two_sum s n (shared_frame x) (shared_frame y) (shared_within s i p x sound there) (shared_within s i q y sound also) in
    let a : at untouched (page_at s.tables i p) ≡ untouched x = rw there refl in
    let b : at untouched (page_at s.tables i q) ≡ untouched y = rw also refl in
    omega arith
