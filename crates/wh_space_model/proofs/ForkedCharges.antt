-- A copy is charged nothing, and takes nothing from others that was ready for them.
use Rattle.std.proofs.Common.{◌≡◌, ◌≢◌, ◌⊎◌, ℕ, ◌+◌, ◌-◌, ◌*◌, ◌<◌, ◌≤◌, ◌==◌, inl, inr, cond, min, nat_lt, replicate, Bool, true, false, List, [], ◌∷◌, Option, Some, None, length, slice_get, slice_set, get_or, zero, suc, refl, sym, ap, ◌∙◌, subst, arith, length-set, length-append, rules}
use Rattle.std.proofs.lemmas.Bool.{cases_lt}
use Rattle.std.proofs.lemmas.Bool.Decides.{nat_tests}
use Rattle.std.specs.List.{All}
use Rattle.wh_space_model.specs.{Pool, tally, one_if, active_of, before_in, charged_of, frame_charge, occupant_number, standing_at, stands_on, touched_on, touchers, Copies, CopiesAreFree, CopiesLeaveReady, LendsFirst, LendsPage, Claimed, Occupant, Space, occupant_at, of_occupant, sharers, Enters, newcomer, with_row, among, below, copies, frames_for, may_take, pages_of_need, IsSound, count, count_of, owns, page_at, put, shares, untouched}
use Rattle.wh_space_model.proofs.Tally.{one_same, one_other}
use Rattle.wh_space_model.specs.declared.states.Page.{Page}
use Rattle.wh_space_model.specs.declared.states.Page.TheVariants.{Untouched, Private, Shared, Leaving, LeavingShared, Coming, Swapped}
use Rattle.wh_space_model.specs.Ready.{Ready}
use Rattle.wh_space_model.proofs.Changing.{below_each}
use Rattle.wh_space_model.proofs.Charging.{below_at_most, in_tables}
use Rattle.wh_space_model.proofs.Entered.{enters_soundly, free_within}
use Rattle.wh_space_model.proofs.Evicted.{other_value}
use Rattle.wh_space_model.proofs.Forked.{IsKept, lent_first}
use Rattle.wh_space_model.proofs.Living.{page_is_live}
use Rattle.wh_space_model.proofs.Putting.{get_or_is, here_or, put_other_row, row_put}
use Rattle.wh_space_model.proofs.Rooms.{get_there}
use Rattle.wh_space_model.proofs.Rows.{none_of, row_is, row_other, row_same, same_there}
use Rattle.wh_space_model.proofs.Sums.{below_zero, get_tally, put_tally, tally_plus}
use Rattle.wh_space_model.proofs.Wanting.{among_row, few_pages}

-- ---- who stands where, page by page

put_weighs : (w : Page → ℕ) (t : List (List Page)) (i p k : ℕ) (x y : Page) → page_at t i p ≡ Some x → w y ≡ w x → count_of w (put t i p y) k ≡ count_of w t k
put_weighs w t i p k x y there same = search (rules, here_or, row_put, put_other_row)

put_away : (w : Page → ℕ) (t : List (List Page)) (i p k : ℕ) (y : Page) → k ≢ i → count_of w (put t i p y) k ≡ count_of w t k
put_away w t i p k y away = ap (tally w) (put_other_row t i p k y away)

stands_here : (t : List (List Page)) (i p : ℕ) (w : Page → ℕ) (x : Page) → page_at t i p ≡ Some x → w x ≤ count_of w t i
stands_here t i p w x there = get_tally w (get_or t i []) p x there

-- a touched page stands there if it did
touched_set : (f : ℕ) (xs : List Page) (marks : List Bool) (p : ℕ) (x y : Page) → slice_get xs p ≡ Some x → stands_on f y ≡ stands_on f x → touched_on f (slice_set xs p y) marks ≡ touched_on f xs marks
touched_set f [] marks p x y there same = refl
touched_set f (z ∷ xs) [] zero x y there same = refl
touched_set f (z ∷ xs) [] (suc p) x y there same = refl
touched_set f (z ∷ xs) (m ∷ marks) zero x y there same = let e : z ≡ x = cc in ap (λ n. cond m n 0 + touched_on f xs marks) (same ∙ ap (stands_on f) (sym e))
touched_set f (z ∷ xs) (m ∷ marks) (suc p) x y there same = ap (λ n. cond m (stands_on f z) 0 + n) (touched_set f xs marks p x y there same)

touched_put : (f : ℕ) (t : List (List Page)) (marks : List Bool) (i p k : ℕ) (x y : Page) → page_at t i p ≡ Some x → stands_on f y ≡ stands_on f x → touched_on f (get_or (put t i p y) k []) marks ≡ touched_on f (get_or t k []) marks
touched_put f [] marks i p k x y there same = refl
touched_put f (xs ∷ t) marks zero p zero x y there same = touched_set f xs marks p x y there same
touched_put f (xs ∷ t) marks zero p (suc k) x y there same = refl
touched_put f (xs ∷ t) marks (suc i) p zero x y there same = refl
touched_put f (xs ∷ t) marks (suc i) p (suc k) x y there same = touched_put f t marks i p k x y there same

touched_none : (f : ℕ) (xs : List Page) (n : ℕ) → touched_on f xs (replicate n false) ≡ 0
touched_none f [] n = refl
touched_none f (x ∷ xs) zero = refl
touched_none f (x ∷ xs) (suc n) = let rest = touched_none f xs n in omega (arith, rest)

-- what lending the first n pages leaves of this
pub record Stand (s : Space) (i j : ℕ) (s2 : Space) : Type 0 where
  pub same : (k f : ℕ) → k ≢ j → standing_at s2.tables k f ≡ standing_at s.tables k f
  pub only : (f : ℕ) → 1 ≤ standing_at s2.tables j f → 1 ≤ standing_at s.tables i f
  pub more : (f : ℕ) → sharers s f ≤ sharers s2 f
  pub when : (f : ℕ) → (sharers s2 f ≡ sharers s f) ⊎ (1 ≤ standing_at s.tables i f)
  pub rows : (k : ℕ) → k ≢ j → k ≢ i → get_or s2.tables k [] ≡ get_or s.tables k []
  pub touch : (k f : ℕ) (marks : List Bool) → k ≢ j → touched_on f (get_or s2.tables k []) marks ≡ touched_on f (get_or s.tables k []) marks

stand_on : (s mid : Space) (i j p : ℕ) (page : Page) (s2 : Space) → j ≢ i → page_at mid.tables i p ≡ Some page → page_at mid.tables j p ≡ Some Untouched → LendsPage mid i j p page s2 → Stand s i j mid → Stand s i j s2
stand_on s mid i j p Untouched s2 apart was onto is old = subst (Stand s i j) (sym is) old
stand_on s mid i j p (Private f) s2 apart was onto is old =
    let first : List (List Page) = put mid.tables i p (Shared f) in
    let tables : List (List Page) = put first j p (Shared f) in
    let there : page_at first j p ≡ Some Untouched = other_value mid.tables i p j p (Private f) (Shared f) Untouched was (λ e. (let bad : Private f ≡ Untouched = e in cc)) onto in
    let share1 : (h : ℕ) → count (shares h) first + 0 ≡ sharers mid h + one_if h f = λ h. put_tally (shares h) mid.tables i p (Private f) (Shared f) was in
    let share2 : (h : ℕ) → count (shares h) tables + 0 ≡ count (shares h) first + one_if h f = λ h. put_tally (shares h) first j p Untouched (Shared f) there in
    let stood : (h : ℕ) → one_if h f ≤ standing_at s.tables i h = λ h. (let a = stands_here mid.tables i p (stands_on h) (Private f) was in let b = old.same i h (λ e. apart (sym e)) in omega (arith, a, b)) in
    subst (Stand s i j) (sym is) (record {
      same = λ k h other. put_away (stands_on h) first j p k (Shared f) other ∙ (put_weighs (stands_on h) mid.tables i p k (Private f) (Shared f) was (omega arith) ∙ old.same k h other);
      only = search (rules, row_put, put_weighs);
      more = λ h. (let a = share1 h in let b = share2 h in let c = old.more h in omega (arith, a, b, c));
      when = search (rules, here_or, one_same, one_other);
      rows = λ k other away. put_other_row first j p k (Shared f) other ∙ (put_other_row mid.tables i p k (Shared f) away ∙ old.rows k other away);
      touch = λ k h marks other. ap (λ xs. touched_on h xs marks) (put_other_row first j p k (Shared f) other) ∙ (touched_put h mid.tables marks i p k (Private f) (Shared f) was (omega arith) ∙ old.touch k h marks other);
    })
stand_on s mid i j p (Shared f) s2 apart was onto is old =
    let tables : List (List Page) = put mid.tables j p (Shared f) in
    let share : (h : ℕ) → count (shares h) tables + 0 ≡ sharers mid h + one_if h f = λ h. put_tally (shares h) mid.tables j p Untouched (Shared f) onto in
    let stood : (h : ℕ) → one_if h f ≤ standing_at s.tables i h = λ h. (let a = stands_here mid.tables i p (stands_on h) (Shared f) was in let b = old.same i h (λ e. apart (sym e)) in omega (arith, a, b)) in
    subst (Stand s i j) (sym is) (record {
      same = λ k h other. put_away (stands_on h) mid.tables j p k (Shared f) other ∙ old.same k h other;
      only = search (rules, row_put);
      more = λ h. (let a = share h in let c = old.more h in omega (arith, a, c));
      when = search (rules, here_or, one_same, one_other);
      rows = λ k other away. put_other_row mid.tables j p k (Shared f) other ∙ old.rows k other away;
      touch = λ k h marks other. ap (λ xs. touched_on h xs marks) (put_other_row mid.tables j p k (Shared f) other) ∙ old.touch k h marks other;
    })
stand_on s mid i j p (Leaving f) s2 apart was onto is old = absurd is
stand_on s mid i j p (LeavingShared f) s2 apart was onto is old = absurd is
stand_on s mid i j p (Coming k) s2 apart was onto is old = absurd is
stand_on s mid i j p (Swapped k) s2 apart was onto is old = absurd is

stand_first : (s : Space) (i j n : ℕ) (s2 : Space) → j ≢ i → ((f : ℕ) → standing_at s.tables j f ≡ 0) → LendsFirst s i j n s2 → Stand s i j s2
stand_first s i j zero s2 apart none is = search rules
stand_first s i j (suc n) s2 apart none (mid, before, l) = stand_on s mid i j n l.page s2 apart l.was l.onto l.lends (stand_first s i j n mid apart none before)

-- ---- the one that comes stands nowhere

pub record Comes (s : Space) (j size : ℕ) (mid : Space) : Type 0 where
  pub same : (k f : ℕ) → k ≢ j → standing_at mid.tables k f ≡ standing_at s.tables k f
  pub none : (f : ℕ) → standing_at mid.tables j f ≡ 0
  pub was : (f : ℕ) → standing_at s.tables j f ≡ 0
  pub sharing : (f : ℕ) → sharers mid f ≡ sharers s f
  pub rows : (k : ℕ) → k ≢ j → get_or mid.tables k [] ≡ get_or s.tables k []
  pub empty : get_or s.tables j [] ≡ []
  pub untouched_row : get_or mid.touched j [] ≡ replicate (16 * size) false
  pub touched_rows : (k : ℕ) → k ≢ j → get_or mid.touched k [] ≡ get_or s.touched k []
  pub long : (length mid.tables ≡ length s.tables) ⊎ ((j ≡ length s.tables) × (length mid.tables ≡ length s.tables + 1))
  pub within : j < length mid.tables

pub comes : (s : Space) (i j : ℕ) (c : Claimed) (size : ℕ) (mid : Space) → IsSound s → j ≢ i → Enters s j c size mid → Comes s j size mid
comes s i j c size mid sound apart enters =
    let row : List Page = replicate (16 * size) Untouched in
    let tables : List (List Page) = with_row s.tables j row in
    let most : j ≤ length s.tables = (let a = free_within s j enters.free in let b = sound.occupants.tables in omega arith) in
    let now : mid.tables ≡ tables = ap (λ (a : Space). a.tables) enters.leaves in
    let pool : mid.pool ≡ s.pool = ap (λ (a : Space). a.pool) enters.leaves in
    let other : (k : ℕ) → k ≢ j → get_or mid.tables k [] ≡ get_or s.tables k [] = λ k away. ap (λ t. get_or t k []) now ∙ same_there tables s.tables k [] (row_other s.tables j k row most away) in
    let mine : get_or mid.tables j [] ≡ row = ap (λ t. get_or t j []) now ∙ get_or_is tables j row [] (row_same s.tables j row most) in
    let empty : get_or s.tables j [] ≡ [] = no_pages s j sound enters.free in
    let fresh : List Bool = replicate (16 * size) false in
    let marked : mid.touched ≡ with_row s.touched j fresh = ap (λ (a : Space). a.touched) enters.leaves in
    let most_marks : j ≤ length s.touched = (let a = free_within s j enters.free in let b = sound.occupants.touched in omega arith) in
    record {
      same = λ k f away. ap (tally (stands_on f)) (other k away);
      none = λ f. ap (tally (stands_on f)) mine ∙ none_of (stands_on f) (16 * size) refl;
      was = λ f. ap (tally (stands_on f)) empty;
      sharing = λ f. ap (count (shares f)) now ∙ (let a = Rattle.wh_space_model.proofs.Rows.row_tally (tally (shares f)) s.tables j row most (λ old is. (let g = sym (get_or_is s.tables j old [] is) ∙ empty in ap (tally (shares f)) g)) in let z = none_of (shares f) (16 * size) refl in omega (arith, a, z));
      rows = other;
      empty = empty;
      untouched_row = ap (λ t. get_or t j []) marked ∙ get_or_is (with_row s.touched j fresh) j fresh [] (row_same s.touched j fresh most_marks);
      touched_rows = λ k away. ap (λ t. get_or t k []) marked ∙ same_there (with_row s.touched j fresh) s.touched k [] (row_other s.touched j k fresh most_marks away);
      long = search (rules, row_is, length-set, length-append);
      within = search (rules, row_is, length-set, length-append);
    } where
      no_pages : (s : Space) (j : ℕ) → IsSound s → Rattle.wh_space_model.specs.Places.IsFreePlace s j → get_or s.tables j [] ≡ []
      no_pages s j sound (inl e) = sound.occupants.have j None e
      no_pages s j sound (inr e) = Rattle.wh_space_model.proofs.Rows.past_there s.tables j (let l = sound.occupants.tables in omega (arith, l, e))

-- ---- numbers

not_before : (a b : ℕ) (x : ℕ) → b ≤ a → cond (nat_lt a b) x 0 ≡ 0
not_before a b x most = grind (arith, nat_tests)

before : (a b : ℕ) (x : ℕ) → a < b → cond (nat_lt a b) x 0 ≡ x
before a b x less = grind (arith, nat_tests)

no_charge : (n m : ℕ) → (1 ≤ m → 1 ≤ n) → cond (n == 0) (min 1 m) 0 ≡ 0
no_charge zero zero some = refl
no_charge zero (suc m) some = absurd (let bad = some (omega arith) in omega (arith, bad))
no_charge (suc n) m some = grind (arith, nat_tests)

longer : (n : ℕ) (w : ℕ → ℕ) → w n ≡ 0 → below (n + 1) w ≡ below n w
longer n w none = let e : n + 1 ≡ suc n = omega arith in ap (λ m. below m w) e ∙ (let z = none in omega (arith, z))

-- frame by frame: who it is charged to, and how many touched pages stand on it
record SameCharges (s : Space) (j : ℕ) (s2 : Space) : Type 0 where
  mine : (f : ℕ) → frame_charge s2 j f ≡ 0
  others : (k f : ℕ) → k ≢ j → frame_charge s2 k f ≡ frame_charge s k f
  touched : (f : ℕ) → touchers s2 f ≡ touchers s f
  frames : length s2.pool.frames ≡ length s.pool.frames
  tax : s2.tax ≡ s.tax

copies_charge : (s : Space) (i j : ℕ) (c : Claimed) (s2 : Space) → IsSound s → Copies s i j c s2 → ((k : ℕ) (t : Occupant) → occupant_at s k t → t.number < c.number) → SameCharges s j s2
copies_charge s i j c s2 sound copies last =
    let mid : Space = copies.mid in
    let size : ℕ = copies.size in
    let come = comes s i j c size mid sound copies.apart copies.enters in
    let stand = stand_first mid i j (16 * size) s2 copies.apart come.none copies.lends in
    let lent = lent_first mid i j (16 * size) s2 (enters_soundly s j c size mid sound copies.enters) copies.apart copies.lends in
    let keeps : IsKept mid s2 = lent.keeps in
    let pool : s2.pool ≡ s.pool = keeps.pool ∙ ap (λ (a : Space). a.pool) copies.enters.leaves in
    let occupied : s2.occupants ≡ with_row s.occupants j (Some (newcomer c)) = keeps.occupants ∙ ap (λ (a : Space). a.occupants) copies.enters.leaves in
    let most : j ≤ length s.occupants = free_within s j copies.enters.free in
    let mine : occupant_number s2 j ≡ c.number = ap (λ xs. of_occupant (λ t. t.number) (get_or xs j None)) occupied ∙ ap (of_occupant (λ t. t.number)) (get_or_is (with_row s.occupants j (Some (newcomer c))) j (Some (newcomer c)) None (row_same s.occupants j (Some (newcomer c)) most)) in
    let others : (k : ℕ) → k ≢ j → occupant_number s2 k ≡ occupant_number s k = λ k away. ap (λ xs. of_occupant (λ t. t.number) (get_or xs k None)) occupied ∙ ap (of_occupant (λ t. t.number)) (same_there (with_row s.occupants j (Some (newcomer c))) s.occupants k None (row_other s.occupants j k (Some (newcomer c)) most away)) in
    let stands : (k f : ℕ) → k ≢ j → standing_at s2.tables k f ≡ standing_at s.tables k f = λ k f away. stand.same k f away ∙ come.same k f away in
    let many : length s2.tables ≡ length mid.tables = lent.sound.occupants.tables ∙ (ap length keeps.occupants ∙ sym (let m = enters_soundly s j c size mid sound copies.enters in m.occupants.tables)) in
    let sums : (w2 w : ℕ → ℕ) → w2 j ≡ 0 → w j ≡ 0 → ((z : ℕ) → z ≢ j → w2 z ≡ w z) → below (length s2.tables) w2 ≡ below (length s.tables) w =
    search (rules, ℕ, here_or, below_each, longer) in
    let marks : s2.touched ≡ mid.touched = keeps.touched in
    record {
      mine = λ f. no_charge (before_in (λ k. occupant_number s2 k) s2.tables j f) (standing_at s2.tables j f)
          (λ some.
          (let parent = stand.only f some in
          let parent2 : 1 ≤ standing_at s2.tables i f = (let e = stand.same i f (λ e. copies.apart (sym e)) in omega (arith, parent, e)) in
          let low : occupant_number s i < c.number = parent_number f (let e = come.same i f (λ e. copies.apart (sym e)) in omega (arith, parent, e)) in
          let less : occupant_number s2 i < occupant_number s2 j = (let a = others i (λ e. copies.apart (sym e)) in omega (arith, low, a, mine)) in
          let there : i < length s2.tables = (let p = standing_within s2.tables i f parent2 in p) in
          let part = below_at_most (length s2.tables) i (λ k. cond (nat_lt (occupant_number s2 k) (occupant_number s2 j)) (standing_at s2.tables k f) 0) there in
          let whole = before (occupant_number s2 i) (occupant_number s2 j) (standing_at s2.tables i f) less in
          omega (arith, part, whole, parent2)));
      others = λ k f away.
          (let w2 : ℕ → ℕ = λ z. cond (nat_lt (occupant_number s2 z) (occupant_number s2 k)) (standing_at s2.tables z f) 0 in
          let w : ℕ → ℕ = λ z. cond (nat_lt (occupant_number s z) (occupant_number s k)) (standing_at s.tables z f) 0 in
          let here : w2 j ≡ 0 = not_before (occupant_number s2 j) (occupant_number s2 k) (standing_at s2.tables j f) (let a = others k away in let b = number_low k in omega (arith, a, b, mine)) in
          let gone : w j ≡ 0 = (let z = come.was f in cond_zero (nat_lt (occupant_number s j) (occupant_number s k)) (standing_at s.tables j f) z) in
          let each : (z : ℕ) → z ≢ j → w2 z ≡ w z = λ z other. (let a = others z other in let b = others k away in let d = stands z f other in rw (a, b, d) refl) in
          let a : before_in (λ z. occupant_number s2 z) s2.tables k f ≡ before_in (λ z. occupant_number s z) s.tables k f = sums w2 w here gone each in
          let b = stands k f away in
          rw (a, b) refl);
      touched = search (rules, ℕ, touched_none);
      frames = ap (λ (a : Pool). length a.frames) pool;
      tax = keeps.tax ∙ ap (λ (a : Space). a.tax) copies.enters.leaves;
    } where
      cond_zero : (b : Bool) (n : ℕ) → n ≡ 0 → cond b n 0 ≡ 0
      cond_zero true n e = e
      cond_zero false n e = refl

      number_of : (o : Option Occupant) → ((t : Occupant) → o ≡ Some t → t.number < c.number) → of_occupant (λ t. t.number) o ≤ c.number
      number_of None low = omega arith
      number_of (Some t) low = (let l = low t refl in omega (arith, l))

      there : (k : ℕ) (t : Occupant) → get_or s.occupants k None ≡ Some t → occupant_at s k t
      there k t is = elim (cases_lt k (length s.occupants)) [
        | inl less ↦ (let x = get_there s.occupants k less in let e = get_or_is s.occupants k x.0 None x.1 in x.1 ∙ ap Some (sym e ∙ is))
        | inr past ↦ absurd (let z : get_or s.occupants k None ≡ None = none_past s.occupants k past in let bad : None ≡ Some t = sym z ∙ is in cc bad)
      ] where
        none_past : (xs : List (Option Occupant)) (k : ℕ) → length xs ≤ k → get_or xs k None ≡ None
        none_past [] k past = refl
        none_past (x ∷ xs) zero past = absurd (omega (arith, past))
        none_past (x ∷ xs) (suc k) past = none_past xs k (omega (arith, past))

      number_low : (k : ℕ) → occupant_number s k ≤ c.number
      number_low k = number_of (get_or s.occupants k None) (λ t is. last k t (there k t is))

      standing_within : (t : List (List Page)) (k f : ℕ) → 1 ≤ standing_at t k f → k < length t
      standing_within [] k f some = absurd (omega (arith, some))
      standing_within (x ∷ t) zero f some = omega arith
      standing_within (x ∷ t) (suc k) f some = (let r = standing_within t k f some in omega (arith, r))

      some_page : (xs : List Page) (f : ℕ) → 1 ≤ tally (stands_on f) xs → (p : ℕ) × (x : Page) × (slice_get xs p ≡ Some x)
      some_page [] f some = absurd (omega (arith, some))
      some_page (x ∷ xs) f some = (0, x, refl)

      parent_number : (f : ℕ) → 1 ≤ standing_at s.tables i f → occupant_number s i < c.number
      parent_number f some =
          let page = some_page (get_or s.tables i []) f some in
          let who = page_is_live s i page.0 page.1 sound.occupants page.2 in
          let low = last i who.0 who.1 in
          let e = get_or_is s.occupants i (Some who.0) None who.1 in
          subst (λ o. of_occupant (λ t. t.number) o < c.number) (sym e) low

pub copies_are_free : CopiesAreFree
copies_are_free s i j c s2 sound copies last =
    let same = copies_charge s i j c s2 sound copies last in
    let n : ℕ = length s.pool.frames in
    let active : ℕ → ℕ → ℕ = λ k f. cond (touchers s f == 0) 0 (frame_charge s k f) in
    let active2 : ℕ → ℕ → ℕ = λ k f. cond (touchers s2 f == 0) 0 (frame_charge s2 k f) in
    let charged : (k : ℕ) → k ≢ j → charged_of s2 k ≡ charged_of s k = λ k away. ap (λ n. below n (frame_charge s2 k)) same.frames ∙ below_each n (frame_charge s k) (frame_charge s2 k) (λ f. same.others k f away) in
    let actives : (k : ℕ) → k ≢ j → active_of s2 k ≡ active_of s k = λ k away. ap (λ n. below n (active2 k)) same.frames ∙ below_each n (active k) (active2 k) (λ f. ap (λ t. cond (t == 0) 0 (frame_charge s2 k f)) (same.touched f) ∙ ap (cond (touchers s f == 0) 0) (same.others k f away)) in (
      ap (λ n. below n (frame_charge s2 j)) same.frames ∙ (below_each n (λ f. 0) (frame_charge s2 j) same.mine ∙ below_zero n),
      λ k away. (charged k away, (let a = charged k away in let b = actives k away in let t = same.tax in rw (a, b, t) refl), actives k away),
    )

-- ---- what is ready

two_rows : (w : Page → ℕ) (t : List (List Page)) (i k : ℕ) → k ≢ i → count_of w t i + count_of w t k ≤ count w t
two_rows w [] i k apart = omega arith
two_rows w (x ∷ t) zero zero apart = absurd (apart refl)
two_rows w (x ∷ t) zero (suc k) apart = let r = in_tables w t k in omega (arith, r)
two_rows w (x ∷ t) (suc i) zero apart = let r = in_tables w t i in omega (arith, r)
two_rows w (x ∷ t) (suc i) (suc k) apart = let r = two_rows w t i k (λ e. apart (ap suc e)) in omega (arith, r)

no_copies : (a b : ℕ) → copies 0 a ≡ copies 0 b
no_copies a b = search rules

all_copies : (t a : ℕ) → t < a → copies t a ≡ t
all_copies t a less = grind (arith, nat_tests)

below_within : (n : ℕ) (v w : ℕ → ℕ) → ((k : ℕ) → k < n → v k ≡ w k) → below n v ≡ below n w
below_within zero v w each = refl
below_within (suc n) v w each = let rest = below_within n v w (λ k less. each k (omega (arith, less))) in let one = each n (omega arith) in omega (arith, rest, one)

-- somebody else wants as many frames to write pages that are shared
same_copies : (s : Space) (i k f t more : ℕ) → IsSound s → f < length s.pool.frames → k ≢ i → t ≤ count_of (shares f) s.tables k → sharers s f ≤ more → 1 ≤ standing_at s.tables i f → copies t more ≡ copies t (sharers s f)
same_copies s i k f zero more sound within apart few most stands = no_copies more (sharers s f)
same_copies s i k f (suc t) more sound within apart few most stands =
    let both = tally_plus (owns f) (shares f) (get_or s.tables i []) in
    let own = in_tables (owns f) s.tables i in
    let two = two_rows (shares f) s.tables i k apart in
    let other = in_tables (shares f) s.tables k in
    let one = sound.frames.one f within in
    let less : suc t < sharers s f = grind (arith, both, own, two, other, one, few, stands) in
    all_copies (suc t) more (omega (arith, less, most)) ∙ sym (all_copies (suc t) (sharers s f) less)

pub copies_leave_ready : CopiesLeaveReady
copies_leave_ready s i j c s2 sound copied k need away off =
    let mid : Space = copied.mid in
    let size : ℕ = copied.size in
    let come = comes s i j c size mid sound copied.apart copied.enters in
    let stand = stand_first mid i j (16 * size) s2 copied.apart come.none copied.lends in
    let lent = lent_first mid i j (16 * size) s2 (enters_soundly s j c size mid sound copied.enters) copied.apart copied.lends in
    let keeps : IsKept mid s2 = lent.keeps in
    let pool : s2.pool ≡ s.pool = keeps.pool ∙ ap (λ (a : Space). a.pool) copied.enters.leaves in
    let pins : s2.pins ≡ s.pins = keeps.pins ∙ ap (λ (a : Space). a.pins) copied.enters.leaves in
    let row : get_or s2.tables k [] ≡ get_or s.tables k [] = stand.rows k away off ∙ come.rows k away in
    let ps : List ℕ = pages_of_need need in
    let frames : length s2.pool.frames ≡ length s.pool.frames = ap (λ (a : Pool). length a.frames) pool in
    let same : (kind : Page → ℕ) → among kind s2 k ps ≡ among kind s k ps = λ kind. ap (λ xs. tally (λ p. Rattle.wh_space_model.specs.States.at kind (slice_get xs p)) ps) row in
    let each : (f : ℕ) → f < length s.pool.frames → copies (among (shares f) s2 k ps) (sharers s2 f) ≡ copies (among (shares f) s k ps) (sharers s f) = λ f within.
    (let few = among_row (shares f) s k ps (few_pages need) in
    let more = stand.more f in
    let old = come.sharing f in
    ap (λ t. copies t (sharers s2 f)) (same (shares f)) ∙ elim (stand.when f) [
      | inl e ↦ ap (copies (among (shares f) s k ps)) (e ∙ old)
      | inr some ↦ same_copies s i k f (among (shares f) s k ps) (sharers s2 f) sound within off few (omega (arith, more, old)) (let e = come.same i f (λ e. copied.apart (sym e)) in omega (arith, some, e))
    ]) in
    let all : frames_for s2 k ps ≡ frames_for s k ps =
    (let a = same untouched in
    let b = ap (λ n. below n (λ f. copies (among (shares f) s2 k ps) (sharers s2 f))) frames in
    let d = below_within (length s.pool.frames) (λ f. copies (among (shares f) s2 k ps) (sharers s2 f)) (λ f. copies (among (shares f) s k ps) (sharers s f)) each in
    omega (arith, a, b, d)) in
    let wants : cond need.writes (frames_for s2 k ps) 0 ≡ cond need.writes (frames_for s k ps) 0 = ap (λ n. cond need.writes n 0) all in
    let takes : may_take s2 k ≡ may_take s k = rw (pool, pins) refl in (
      λ (h : Ready s2 k need). (subst (λ xs. All (λ p. Rattle.wh_space_model.specs.Ready.IsAtHand (slice_get xs p)) ps) row h.0, let le = h.1 in omega (arith, le, wants, takes)),
      λ (h : Ready s k need). (subst (λ xs. All (λ p. Rattle.wh_space_model.specs.Ready.IsAtHand (slice_get xs p)) ps) (sym row) h.0, let le = h.1 in omega (arith, le, wants, takes)),
    )
