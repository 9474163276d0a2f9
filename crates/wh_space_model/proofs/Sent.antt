-- A page that is in its slot when its ticket comes back leaves everything sound.
use Rattle.std.proofs.Common.{◌≡◌, ℕ, ◌+◌, ◌≤◌, ◌==◌, ◌⊎◌, inl, inr, cond, true, false, Bool, List, [], ◌∷◌, Option, Some, None, slice_get, slice_set, get_or, zero, suc, refl, sym, ap, ◌∙◌, subst, arith, rules}
use Rattle.wh_space_model.specs.{tally, one_if, CanLeave, stays, CommitsEvictSoundly, IsSound, IsUsed, LeavesBy, PinsAreSound, Occupant, Pins, Space, frame_bytes, kept, occupant_at, pinned_by, sharers, as_before, not_sent, sent_off, unpinned_page, without, at, leaving, page_at, put, shares, evicted, frame_of}
use Rattle.wh_space_model.specs.declared.states.Page.{Page}
use Rattle.wh_space_model.specs.declared.states.Page.TheVariants.{Untouched, Private, Shared, Leaving, LeavingShared, Coming, Swapped}
use Rattle.wh_space_model.specs.declared.states.Slot.TheVariants.{Vacant, Taken, Evicting}
use Rattle.wh_space_model.proofs.Returned.{back_now, is_sound_returned, kinds_back}
use Rattle.wh_space_model.proofs.Evicted.{is_sound_evicted, stood_on}
use Rattle.wh_space_model.proofs.Reserved.{is_sound_repinned, repinned}
use Rattle.wh_space_model.proofs.Voided.{is_sound_evict_void}
use Rattle.wh_space_model.proofs.Sums.{put_tally}
use Rattle.wh_space_model.proofs.Putting.{put_this, set_same, there_of}

-- one page fewer is pinned
without_this : (p : ℕ) (qs : List ℕ) → tally (one_if p) (without p qs) ≡ 0
without_this p [] = refl
without_this p (q ∷ qs) = go (p == q) refl (without_this p qs) where
  differs : (p == q) ≡ false → one_if p q ≡ 0
  differs e = rw e refl

  go : (b : Bool) → (p == q) ≡ b → tally (one_if p) (without p qs) ≡ 0 → tally (one_if p) (cond b (without p qs) (q ∷ without p qs)) ≡ 0
  go true e rest = rest
  go false e rest = let o = differs e in omega arith

without_less : (p h : ℕ) (qs : List ℕ) → tally (one_if h) (without p qs) ≤ tally (one_if h) qs
without_less p h [] = omega arith
without_less p h (q ∷ qs) = go (p == q) (without_less p h qs) where
  go : (b : Bool) → tally (one_if h) (without p qs) ≤ tally (one_if h) qs → tally (one_if h) (cond b (without p qs) (q ∷ without p qs)) ≤ one_if h q + tally (one_if h) qs
  go true rest = omega arith
  go false rest = omega arith

kept_still : (pins : Option Pins) (j p : ℕ) → kept (unpinned_page pins j p) ≡ kept pins
kept_still None j p = refl
kept_still (Some pins) j p = refl

pinned_less : (pins : Option Pins) (j p i h : ℕ) → tally (one_if h) (pinned_by (unpinned_page pins j p) i) ≤ tally (one_if h) (pinned_by pins i)
pinned_less None j p i h = omega arith
pinned_less (Some pins) j p i h = search (rules, without_less)

pinned_none : (pins : Option Pins) (j p : ℕ) → tally (one_if p) (pinned_by (unpinned_page pins j p) j) ≡ 0
pinned_none None j p = refl
pinned_none (Some pins) j p = search (rules, without_this)

place_still : (s : Space) (j p : ℕ) (old : Option Pins) → PinsAreSound s → s.pins ≡ old → (pins : Pins) → unpinned_page old j p ≡ Some pins → (t : Occupant) × occupant_at s pins.place t × (t.live ≡ true)
place_still s j p None sound is pins at_it = absurd (let bad : None ≡ Some pins = at_it in cc)
place_still s j p (Some was) sound is pins at_it = search (rules, ℕ)

is_sound_unpinned_page : (s : Space) (j p : ℕ) → IsSound s → IsSound (repinned s (unpinned_page s.pins j p) s.pool.free)
unfolding repinned
is_sound_unpinned_page s j p sound = search (rules, is_sound_repinned, kept_still, pinned_less, place_still)

pub set_set : {X : Type 0} (xs : List X) (p : ℕ) (x y : X) → slice_set (slice_set xs p x) p y ≡ slice_set xs p y
set_set [] p x y = refl
set_set (z ∷ xs) zero x y = refl
set_set (z ∷ xs) (suc p) x y = ap (λ a. z ∷ a) (set_set xs p x y)

pub put_put : {X : Type 0} (xss : List (List X)) (j p : ℕ) (x y : X) → put (put xss j p x) j p y ≡ put xss j p y
put_put [] j p x y = refl
put_put (xs ∷ xss) zero p x y = ap (λ z. z ∷ xss) (set_set xs p x y)
put_put (xs ∷ xss) (suc j) p x y = ap (λ z. xs ∷ z) (put_put xss j p x y)

set_same_get : {X : Type 0} (xs : List X) (k : ℕ) (none x : X) → get_or xs k none ≡ x → slice_set xs k x ≡ xs
set_same_get [] k none x h = refl
set_same_get (y ∷ xs) zero none x h = ap (λ z. z ∷ xs) (sym h)
set_same_get (y ∷ xs) (suc k) none x h = ap (λ z. y ∷ z) (set_same_get xs k none x h)

-- as it was before, on which frame
stood_back : (page old : Page) (f : ℕ) → as_before page old → frame_of page ≡ Some f → (old ≡ Private f) ⊎ (old ≡ Shared f)
stood_back (Leaving g) old f e on = inl (e ∙ ap Private (let k : g ≡ f = cc in k))
stood_back (LeavingShared g) old f e on = inr (e ∙ ap Shared (let k : g ≡ f = cc in k))
stood_back Untouched old f e on = absurd e
stood_back (Private g) old f e on = absurd e
stood_back (Shared g) old f e on = absurd e
stood_back (Coming k) old f e on = absurd e
stood_back (Swapped k) old f e on = absurd e

-- the page as it was, where it is leaving
old_of : (page : Page) → leaving page ≡ 1 → (old : Page) × as_before page old
old_of (Leaving f) is = (Private f, refl)
old_of (LeavingShared f) is = (Shared f, refl)
old_of Untouched is = absurd (omega arith)
old_of (Private f) is = absurd (omega arith)
old_of (Shared f) is = absurd (omega arith)
old_of (Coming k) is = absurd (omega arith)
old_of (Swapped k) is = absurd (omega arith)

-- to be in the slot is to be as before, and then to go in one go
sent_is : (s : Space) (j p f k : ℕ) (page old : Page) → page_at s.tables j p ≡ Some page → as_before page old → get_or s.slots.held k [] ≡ frame_bytes s f
    → sent_off s j p f k ≡ evicted (repinned (not_sent s j p k old) (unpinned_page s.pins j p) s.pool.free) j p f k s.slots.vacant
unfolding repinned
sent_is s j p f k page old there as_it held =
    let share : sharers (not_sent s j p k old) f + shares f page ≡ sharers s f + shares f old = put_tally (shares f) s.tables j p page old there in
    let d = kinds_back page old f as_it in
    let same : sharers (not_sent s j p k old) f ≡ sharers s f = (let e = d.1 in omega arith) in
    let tables = put_put s.tables j p old (Swapped k) in
    let uses = set_set s.slots.uses k Vacant Taken in
    let slots = set_same_get s.slots.held k [] (frame_bytes s f) held in
    rw (same, tables, uses, slots) refl

pub is_sound_sent : (s : Space) (j p f k : ℕ) (page : Page) → IsSound s → slice_get s.slots.uses k ≡ Some (Evicting j p) → page_at s.tables j p ≡ Some page → frame_of page ≡ Some f → get_or s.slots.held k [] ≡ frame_bytes s f → IsSound (sent_off s j p f k)
unfolding repinned
is_sound_sent s j p f k page sound was there on held =
    let used : IsUsed s k (Some (Evicting j p)) = subst (IsUsed s k) was (sound.slots.used k) in
    let old = old_of page (sym (ap (at leaving) there) ∙ used.3) in
    let back = is_sound_returned s j p k page old.0 sound was there old.1 in
    let s1 : Space = repinned (not_sent s j p k old.0) (unpinned_page s.pins j p) s.pool.free in
    let sound1 : IsSound s1 = is_sound_unpinned_page (not_sent s j p k old.0) j p back in
    let mine = sound.slots.by_one j k (subst (LeavesBy j) (sym was) refl) in
    let now : page_at s1.tables j p ≡ Some old.0 = put_this s.tables j p page old.0 there in
    let can : CanLeave s1 j p = (ap (at stays) now ∙ (kinds_back page old.0 0 old.1).7, pinned_none s.pins j p, (record mine.0 { leaves = None }, back_now s j mine.0 mine.1, refl)) in
    let x = stood_on s1 j p f (elim (stood_back page old.0 f old.1 on) [ inl e ↦ inl (now ∙ ap Some e) | inr e ↦ inr (now ∙ ap Some e) ]) in
    let vacant : slice_get s1.slots.uses k ≡ Some Vacant = set_same s.slots.uses k Vacant (there_of s.slots.uses k (Evicting j p) was) in
    subst IsSound (sym (sent_is s j p f k page old.0 there old.1 held)) (is_sound_evicted s1 j p f k s.slots.vacant x.0 sound1 can x.1 x.2 vacant refl)

-- The ticket of an eviction comes back, and all is sound.
pub commits_soundly : CommitsEvictSoundly
commits_soundly s k wrote bytes end s2 sound held (inl (i, at_it, ends, is)) = subst IsSound (sym is) (is_sound_evict_void s k i sound at_it)
commits_soundly s k wrote bytes end s2 sound held (inr (i, q, f, at_it, page, there, on, inl (ok, equal, ends, is))) =
    subst IsSound (sym is) (is_sound_sent s i q f k page sound at_it there on (held ok ∙ equal))
commits_soundly s k wrote bytes end s2 sound held (inr (i, q, f, at_it, page, there, on, inr (why, old, as_it, is))) =
    subst IsSound (sym is) (is_sound_returned s i q k page old sound at_it there as_it)
