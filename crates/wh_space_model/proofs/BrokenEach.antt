-- What is so after some pages were unshared, one after the other.
use Rattle.std.proofs.Common.{◌≡◌, ◌≢◌, ℕ, ◌+◌, ◌-◌, ◌≤◌, ◌⊎◌, inl, inr, nat_lt, map, true, false, Bool, List, [], ◌∷◌, Some, length, slice_get, slice_set, get_or, zero, suc, refl, sym, ap, ◌∙◌, subst, arith, length-set, rules}
use Rattle.std.proofs.lemmas.Bool.Decides.{nat_tests}
use Rattle.wh_space_model.specs.{tally, one_if, Slots, Space, all_bytes, kept_by, pinned_by, frame_bytes, IsSound, at, page_at, put, shares, among, BreaksEach, GetsFrame, LeavesSharers, fewer_sharers, standing_alone, voided, with_fewer, touching}
use Rattle.wh_space_model.proofs.Tally.{one_same, one_other}
use Rattle.wh_space_model.specs.declared.states.Page.{Page}
use Rattle.wh_space_model.specs.declared.states.Page.TheVariants.{Untouched, Private, Shared, Leaving, LeavingShared, Coming, Swapped}
use Rattle.wh_space_model.specs.declared.states.Mark.{Mark}
use Rattle.wh_space_model.specs.declared.states.Mark.TheVariants.{Plain, Hint, Sharers, Unlisted}
use Rattle.wh_space_model.specs.declared.states.Slot.{Slot}
use Rattle.wh_space_model.specs.declared.states.Slot.TheVariants.{Vacant, Taken, Evicting, EvictVoid, Fetching, FetchVoid}
use Rattle.wh_space_model.specs.Breaks.{Breaks}
use Rattle.wh_space_model.proofs.Breaking.{IsNear, broke}
use Rattle.wh_space_model.proofs.BrokenOff.{IsBroken, alone_broken, copy_broken, fresh_broken, last_broken}
use Rattle.wh_space_model.proofs.Counting.{shared_frame}
use Rattle.wh_space_model.proofs.Evicted.{row_length}
use Rattle.wh_space_model.proofs.Lending.{IsLent, lent, repooled}
use Rattle.wh_space_model.proofs.Putting.{here_or, put_other, put_other_row, put_this}
use Rattle.wh_space_model.proofs.Wanting.{OneOrTwo}

-- ---- one page

-- a page that shares a frame is unshared
sharer_broken : (s : Space) (i p f g : ℕ) (old : Page) (mid : Space) → IsSound s → page_at s.tables i p ≡ Some old → IsNear old → (old ≡ Shared f) ⊎ (old ≡ LeavingShared f)
    → LeavesSharers s i f g mid → IsBroken s i p (standing_alone mid i p g)
unfolding broke shared_frame repooled
sharer_broken s i p f g old mid sound there near which (inl (one, e, is)) =
    subst (λ z. IsBroken s i p (standing_alone mid i p z)) (sym e) (subst (λ m. IsBroken s i p (standing_alone m i p f)) (sym is) (elim which [
      | inl e2 ↦ last_broken s i p f old sound there near (λ h. rw e2 refl) (λ h. rw e2 refl) (λ b. rw e2 refl) (rw e2 refl) (rw e2 refl) one
      | inr e2 ↦ last_broken s i p f old sound there near (λ h. rw e2 refl) (λ h. rw e2 refl) (λ b. rw e2 refl) (rw e2 refl) (rw e2 refl) one
    ]))
sharer_broken s i p f g old mid sound there near which (inr (some, takes)) =
    let before : IsLent (with_fewer s f) i g (frame_bytes s f) mid = lent (with_fewer s f) i g (frame_bytes s f) mid takes in
    let s1 : Space = repooled s mid.pool mid.pins in
    let lends : IsLent s i g (frame_bytes s f) s1 = record { is = refl; frames = before.frames; sum = before.sum; free = before.free; pins = before.pins; kept = before.kept; fewer = before.fewer; takes = before.takes } in
    subst (λ m. IsBroken s i p (standing_alone m i p g)) (sym before.is) (elim which [
      | inl e2 ↦ copy_broken s i p f g old s1 sound there near (λ h. rw e2 refl) (λ h. rw e2 refl) (λ b. rw e2 refl) (rw e2 refl) (rw e2 refl) some lends
      | inr e2 ↦ copy_broken s i p f g old s1 sound there near (λ h. rw e2 refl) (λ h. rw e2 refl) (λ b. rw e2 refl) (rw e2 refl) (rw e2 refl) some lends
    ])

gets_broken : (s : Space) (i p g : ℕ) (old : Page) (mid : Space) → IsSound s → page_at s.tables i p ≡ Some old → GetsFrame s i old g mid → IsBroken s i p (standing_alone mid i p g)
unfolding broke shared_frame repooled
gets_broken s i p g Untouched mid sound there takes =
    let lends = lent s i g (Rattle.wh_space_model.specs.Pages.zero_page) mid takes in
    subst (λ m. IsBroken s i p (standing_alone m i p g)) (sym lends.is) (fresh_broken s i p g mid sound there lends)
gets_broken s i p g (Private f) mid sound there (e, is) = search (rules, alone_broken)
gets_broken s i p g (Leaving f) mid sound there (e, is) = search (rules, alone_broken)
gets_broken s i p g (Shared f) mid sound there leaves = sharer_broken s i p f g (Shared f) mid sound there (λ h. (refl, refl, λ e. (let bad : Shared f ≡ Coming h = e in cc))) (inl refl) leaves
gets_broken s i p g (LeavingShared f) mid sound there leaves = sharer_broken s i p f g (LeavingShared f) mid sound there (λ h. (refl, refl, λ e. (let bad : LeavingShared f ≡ Coming h = e in cc))) (inr refl) leaves
gets_broken s i p g (Coming k) mid sound there none = absurd none
gets_broken s i p g (Swapped k) mid sound there none = absurd none

pub broken_off : (s : Space) (i p : ℕ) (s2 : Space) → IsSound s → Breaks s i p s2 → IsBroken s i p s2
broken_off s i p s2 sound b = subst (IsBroken s i p) (sym b.after) (gets_broken s i p b.frame b.page b.mid sound b.was b.gets)

-- ---- tickets, marks of touch and entries, of several pages

voided_none : (i : ℕ) (x : Slot) → voided i [] x ≡ x
voided_none i Vacant = refl
voided_none i Taken = refl
voided_none i (EvictVoid j) = refl
voided_none i (Fetching j q f) = refl
voided_none i (FetchVoid j f) = refl
voided_none i (Evicting j q) = search rules

voided_more : (i p : ℕ) (ps : List ℕ) (x : Slot) → voided i ps (voided i (p ∷ []) x) ≡ voided i (p ∷ ps) x
voided_more i p ps Vacant = refl
voided_more i p ps Taken = refl
voided_more i p ps (EvictVoid j) = refl
voided_more i p ps (Fetching j q f) = refl
voided_more i p ps (FetchVoid j f) = refl
voided_more i p ps (Evicting j q) = search rules

pub map_voided : (i p : ℕ) (ps : List ℕ) (uses : List Slot) → map (voided i ps) (map (voided i (p ∷ [])) uses) ≡ map (voided i (p ∷ ps)) uses
map_voided i p ps [] = refl
map_voided i p ps (x ∷ uses) = let e = voided_more i p ps x in let es = map_voided i p ps uses in cc

pub map_voided_none : (i : ℕ) (uses : List Slot) → map (voided i []) uses ≡ uses
map_voided_none i [] = refl
map_voided_none i (x ∷ uses) = let e = voided_none i x in let es = map_voided_none i uses in cc

set_both : {X : Type 0} (xs : List X) (p q : ℕ) (x : X) → slice_set (slice_set xs p x) q x ≡ slice_set (slice_set xs q x) p x
set_both [] p q x = refl
set_both (y ∷ xs) zero zero x = refl
set_both (y ∷ xs) zero (suc q) x = refl
set_both (y ∷ xs) (suc p) zero x = refl
set_both (y ∷ xs) (suc p) (suc q) x = ap (λ zs. y ∷ zs) (set_both xs p q x)

put_both : {X : Type 0} (xss : List (List X)) (i p q : ℕ) (x : X) → put (put xss i p x) i q x ≡ put (put xss i q x) i p x
put_both [] i p q x = refl
put_both (xs ∷ xss) zero p q x = ap (λ zs. zs ∷ xss) (set_both xs p q x)
put_both (xs ∷ xss) (suc i) p q x = ap (λ zs. xs ∷ zs) (put_both xss i p q x)

pub touching_put : (t : List (List Bool)) (i p : ℕ) (ps : List ℕ) → touching (put t i p true) i ps ≡ put (touching t i ps) i p true
touching_put t i p [] = refl
touching_put t i p (q ∷ ps) = ap (λ z. put z i q true) (touching_put t i p ps) ∙ put_both (touching t i ps) i p q true

tests : (a b n : ℕ) → ((nat_lt a n ≡ true) × (nat_lt b (n - a) ≡ nat_lt (a + b) n) × ((n - a) - b ≡ n - (a + b))) ⊎ ((nat_lt a n ≡ false) × (nat_lt (a + b) n ≡ false))
tests a b n = grind (arith, nat_tests)

pub fewer_more : (a b : ℕ) (m : Mark) → fewer_sharers b (fewer_sharers a m) ≡ fewer_sharers (a + b) m
fewer_more a b Plain = refl
fewer_more a b (Hint x i q) = refl
fewer_more a b (Sharers x n) = search rules
fewer_more a b (Unlisted n) = search rules

-- ---- pages that are apart

pub AreApart : List ℕ → Type 0
AreApart [] = Unit {0}
AreApart (p ∷ ps) = (tally (one_if p) ps ≡ 0) × AreApart ps

pub apart_pages : (ps : List ℕ) → OneOrTwo ps → AreApart ps
unfolding AreApart OneOrTwo
apart_pages ps (inl e) = subst AreApart (sym e) tt
apart_pages ps (inr (inl (p, e))) = subst AreApart (sym e) (refl, tt)
apart_pages ps (inr (inr (p, e))) = subst AreApart (sym e) ((let o = one_other p (p + 1) (λ e. omega arith) in omega arith), (refl, tt))

among_same : (w : Page → ℕ) (s s2 : Space) (i : ℕ) (ps : List ℕ) → ((q : ℕ) → 1 ≤ tally (one_if q) ps → page_at s2.tables i q ≡ page_at s.tables i q) → among w s2 i ps ≡ among w s i ps
among_same w s s2 i [] same = refl
among_same w s s2 i (p ∷ ps) same =
    let rest = among_same w s s2 i ps (λ q some. same q (omega arith)) in
    let here = ap (at w) (same p (let o = one_same p p refl in omega arith)) in
    omega arith

pub record AreBroken (s : Space) (i : ℕ) (pages : List ℕ) (s2 : Space) : Type 0 where
  pub sound : IsSound s2
  pub bytes : all_bytes s2 ≡ all_bytes s
  pub own : (p : ℕ) → 1 ≤ tally (one_if p) pages → (f : ℕ) × (page_at s2.tables i p ≡ Some (Private f))
  pub rest : (p : ℕ) → tally (one_if p) pages ≡ 0 → page_at s2.tables i p ≡ page_at s.tables i p
  pub tables : length s2.tables ≡ length s.tables
  pub table : length (get_or s2.tables i []) ≡ length (get_or s.tables i [])
  pub other_tables : (j : ℕ) → j ≢ i → get_or s2.tables j [] ≡ get_or s.tables j []
  pub slots : s2.slots ≡ record s.slots { uses = map (voided i pages) s.slots.uses }
  pub occupants : s2.occupants ≡ s.occupants
  pub tax : s2.tax ≡ s.tax
  pub touched : s2.touched ≡ touching s.touched i pages
  pub marks : (f : ℕ) (m : Mark) → slice_get s.marks f ≡ Some m → slice_get s2.marks f ≡ Some (fewer_sharers (among (shares f) s i pages) m)
  pub frames : length s2.pool.frames ≡ length s.pool.frames
  pub free : (f : ℕ) → tally (one_if f) s2.pool.free ≤ tally (one_if f) s.pool.free
  pub pinned : (j : ℕ) → pinned_by s2.pins j ≡ pinned_by s.pins j
  pub kept : (j : ℕ) → j ≢ i → kept_by s2.pins j ≡ kept_by s.pins j
  pub fewer : (f : ℕ) → tally (one_if f) (kept_by s2.pins i) ≤ tally (one_if f) (kept_by s.pins i)

pub broken_each : (s : Space) (i : ℕ) (ps : List ℕ) (s2 : Space) → IsSound s → AreApart ps → BreaksEach s i ps s2 → AreBroken s i ps s2
unfolding AreApart broke
broken_each s i [] s2 sound apart is = subst (AreBroken s i []) (sym is) (record {
  sound = sound;
  bytes = refl;
  own = λ p some. absurd (omega arith);
  rest = λ p none. refl;
  tables = refl;
  table = refl;
  other_tables = λ j other. refl;
  slots = ap (λ us. record s.slots { uses = us }) (sym (map_voided_none i s.slots.uses));
  occupants = refl;
  tax = refl;
  touched = refl;
  marks = λ f m is. (let b = broken_marks s sound f m is in b);
  frames = refl;
  free = λ f. omega arith;
  pinned = λ j. refl;
  kept = λ j other. refl;
  fewer = λ f. omega arith;
}) where
  broken_marks : (s : Space) → IsSound s → (f : ℕ) (m : Mark) → slice_get s.marks f ≡ Some m → slice_get s.marks f ≡ Some (fewer_sharers 0 m)
  broken_marks s sound f m is = Rattle.wh_space_model.proofs.BrokenOff.marks_stay s sound.frames f m is
broken_each s i (p ∷ ps) s2 sound apart (mid, first, more) =
    let b = broken_off s i p mid sound first in
    let g : ℕ = b.frame in
    let then = broken_each mid i ps s2 b.sound apart.1 more in
    let tables : mid.tables ≡ put s.tables i p (Private g) = ap (λ (a : Space). a.tables) b.is in
    let away : (q : ℕ) → q ≢ p → page_at mid.tables i q ≡ page_at s.tables i q = λ q other. ap (λ t. page_at t i q) tables ∙ put_other s.tables i p q (Private g) other in
    record {
      sound = then.sound;
      bytes = then.bytes ∙ b.bytes;
      own = search (rules, here_or, put_this, one_other);
      rest = λ q none. (let other : q ≢ p = λ e. (let o = one_same q p e in omega arith) in then.rest q (omega arith) ∙ away q other);
      tables = then.tables ∙ (ap length tables ∙ length-set s.tables i _);
      table = then.table ∙ (ap (λ t. length (get_or t i [])) tables ∙ row_length s.tables i p (Private g) i);
      other_tables = λ j other. then.other_tables j other ∙ (ap (λ t. get_or t j []) tables ∙ put_other_row s.tables i p j (Private g) other);
      slots = then.slots ∙ (ap (λ (z : Slots). record z { uses = map (voided i ps) z.uses }) (ap (λ (a : Space). a.slots) b.is) ∙ ap (λ us. record s.slots { uses = us }) (map_voided i p ps s.slots.uses));
      occupants = then.occupants ∙ ap (λ (a : Space). a.occupants) b.is;
      tax = then.tax ∙ ap (λ (a : Space). a.tax) b.is;
      touched = then.touched ∙ (ap (λ (a : Space). touching a.touched i ps) b.is ∙ touching_put s.touched i p ps);
      marks = λ f m is.
          (let among_rest : among (shares f) mid i ps ≡ among (shares f) s i ps = among_same (shares f) s mid i ps (λ q some. away q (λ e. (let z = apart.0 in let k : tally (one_if p) ps ≡ tally (one_if q) ps = rw e refl in omega arith))) in
          let one : at (shares f) (page_at s.tables i p) ≡ shares f b.page = ap (at (shares f)) b.was in
          then.marks f (fewer_sharers (shares f b.page) m) (b.marks f m is) ∙ ap Some (fewer_more (shares f b.page) (among (shares f) mid i ps) m ∙ rw (among_rest, one) refl));
      frames = then.frames ∙ b.many;
      free = λ f. (let x = then.free f in let y = b.free f in omega arith);
      pinned = λ j. then.pinned j ∙ b.pins.pinned j;
      kept = λ j other. then.kept j other ∙ b.kept j other;
      fewer = λ f. (let x = then.fewer f in let y = b.fewer f in omega arith);
    }
