-- A page that is unshared leaves everything sound.
use Rattle.std.proofs.Common.{◌≡◌, ◌≢◌, ℕ, ◌≤◌, ◌⊎◌, inl, inr, map, true, List, [], ◌∷◌, Option, Some, None, length, slice_get, get_or, zero, suc, refl, sym, ap, ◌∙◌, subst, arith, length-set, rules}
use Rattle.std.proofs.lemmas.List.{length-map}
use Rattle.wh_space_model.specs.{Pool, tally, one_if, ticket_of, Space, Pins, kept, pinned_by, IsSound, FramesAreSound, SlotsAreSound, IsUsed, LeavesBy, page_at, put, lies_in, comes_from, leaving, count, voided}
use Rattle.wh_space_model.specs.declared.states.Page.{Page}
use Rattle.wh_space_model.specs.declared.states.Page.TheVariants.{Private, Coming}
use Rattle.wh_space_model.specs.declared.states.Mark.{Mark}
use Rattle.wh_space_model.specs.declared.states.Slot.{Slot}
use Rattle.wh_space_model.specs.declared.states.Slot.TheVariants.{Vacant, Taken, Evicting, EvictVoid, Fetching, FetchVoid}
use Rattle.wh_space_model.proofs.Putting.{here_or, put_this, put_other, put_other_row}
use Rattle.wh_space_model.proofs.Evicted.{row_length, mark_length, has_still}
use Rattle.wh_space_model.proofs.Sums.{put_tally}

-- ---- tickets that become void

-- the ticket with which the page leaves is void, and any other stays
pub void_case : (i p : ℕ) (x : Slot) → ((x ≡ Evicting i p) × (voided i (p ∷ []) x ≡ EvictVoid i)) ⊎ ((x ≢ Evicting i p) × (voided i (p ∷ []) x ≡ x))
void_case i p Vacant = inr (λ e. (let bad : Vacant ≡ Evicting i p = e in cc), refl)
void_case i p Taken = inr (λ e. (let bad : Taken ≡ Evicting i p = e in cc), refl)
void_case i p (EvictVoid j) = inr (λ e. (let bad : EvictVoid j ≡ Evicting i p = e in cc), refl)
void_case i p (Fetching j q f) = inr (λ e. (let bad : Fetching j q f ≡ Evicting i p = e in cc), refl)
void_case i p (FetchVoid j f) = inr (λ e. (let bad : FetchVoid j f ≡ Evicting i p = e in cc), refl)
void_case i p (Evicting j q) = search rules

-- what a mapped list has, and its sums
abbrev pub or_none : {X Y : Type 0} → (X → Y) → Option X → Option Y
or_none g None = None
or_none g (Some x) = Some (g x)

pub get_mapped : {X Y : Type 0} (g : X → Y) (xs : List X) (k : ℕ) → slice_get (map g xs) k ≡ or_none g (slice_get xs k)
get_mapped g [] k = refl
get_mapped g (x ∷ xs) zero = refl
get_mapped g (x ∷ xs) (suc k) = get_mapped g xs k

pub tally_mapped : {X : Type 0} (w : X → ℕ) (g : X → X) (xs : List X) → ((x : X) → w (g x) ≡ w x) → tally w (map g xs) ≡ tally w xs
tally_mapped w g [] same = refl
tally_mapped w g (x ∷ xs) same = let e = same x in let rest = tally_mapped w g xs same in omega arith

pub void_same : (w : Slot → ℕ) (i p : ℕ) (uses : List Slot) → w (EvictVoid i) ≡ w (Evicting i p) → tally w (map (voided i (p ∷ [])) uses) ≡ tally w uses
void_same w i p uses same = tally_mapped w (voided i (p ∷ [])) uses (λ x. elim (void_case i p x) [ inl (is, now) ↦ rw now (rw is same) | inr (other, now) ↦ ap w now ])

leaver_same : (i p j : ℕ) (x : Option Slot) → LeavesBy j (or_none (voided i (p ∷ [])) x) ≡ LeavesBy j x
leaver_same i p j None = refl
leaver_same i p j (Some x) = search rules

-- ---- another page

pub elsewhere : (t : List (List Page)) (i p : ℕ) (y : Page) (j q : ℕ) → ((j ≡ i) × (q ≡ p)) ⊎ ((j ≡ i → q ≢ p) × (page_at (put t i p y) j q ≡ page_at t j q))
elsewhere t i p y j q = search (rules, here_or, put_other_row, put_other)

-- ---- the memory with page p alone on frame g, and other frames, entries and pins

unfoldable pub broke : Space → ℕ → ℕ → ℕ → Pool → List Mark → Option Pins → Space
broke s i p g pool marks pins = record s {
  tables = put s.tables i p (Private g);
  touched = put s.touched i p true;
  pool = pool;
  marks = marks;
  slots = record s.slots { uses = map (voided i (p ∷ [])) s.slots.uses };
  pins = pins;
}

-- a page that is neither coming nor swapped
abbrev pub IsNear : Page → Type 0
IsNear x = (h : ℕ) → (lies_in h x ≡ 0) × (comes_from h x ≡ 0) × (x ≢ Coming h)

-- the use of a slot that isn't that of the page's ticket
used_still : (s s2 : Space) (i p k : ℕ) (x : Slot) → count (lies_in k) s2.tables ≡ count (lies_in k) s.tables → count (comes_from k) s2.tables ≡ count (comes_from k) s.tables
    → s2.slots.vacant ≡ s.slots.vacant → ((j q : ℕ) → ((j ≡ i) × (q ≡ p)) ⊎ ((j ≡ i → q ≢ p) × (page_at s2.tables j q ≡ page_at s.tables j q)))
    → page_at s.tables i p ≢ Some (Coming k) → x ≢ Evicting i p → IsUsed s k (Some x) → IsUsed s2 k (Some x)
used_still s s2 i p k Vacant a b c d e f used = (a ∙ used.0, b ∙ used.1, ap (tally (one_if k)) c ∙ used.2)
used_still s s2 i p k Taken a b c d e f used = (a ∙ used.0, b ∙ used.1, ap (tally (one_if k)) c ∙ used.2)
used_still s s2 i p k (EvictVoid j) a b c d e f used = (a ∙ used.0, b ∙ used.1, ap (tally (one_if k)) c ∙ used.2)
used_still s s2 i p k (FetchVoid j g) a b c d e f used = (a ∙ used.0, b ∙ used.1, ap (tally (one_if k)) c ∙ used.2)
used_still s s2 i p k (Evicting j q) a b c d e f used = search rules
used_still s s2 i p k (Fetching j q g) a b c d e f used = search rules

option_of : {X : Type 0} (o : Option X) → (o ≡ None) ⊎ ((x : X) × (o ≡ Some x))
option_of None = inl refl
option_of (Some x) = inr (x, refl)

slots_broke : (s : Space) (i p g : ℕ) (old : Page) (pool : Pool) (marks : List Mark) (pins : Option Pins) → SlotsAreSound s → page_at s.tables i p ≡ Some old → IsNear old → SlotsAreSound (broke s i p g pool marks pins)
unfolding broke
slots_broke s i p g old pool marks pins sound there near =
    let s2 : Space = broke s i p g pool marks pins in
    let v : Slot → Slot = voided i (p ∷ []) in
    let now : page_at s2.tables i p ≡ Some (Private g) = put_this s.tables i p old (Private g) there in
    let lies : (k : ℕ) → count (lies_in k) s2.tables ≡ count (lies_in k) s.tables = λ k. (let a = put_tally (lies_in k) s.tables i p old (Private g) there in let b = (near k).0 in omega arith) in
    let comes : (k : ℕ) → count (comes_from k) s2.tables ≡ count (comes_from k) s.tables = λ k. (let a = put_tally (comes_from k) s.tables i p old (Private g) there in let b = (near k).1 in omega arith) in
    let uses : (k : ℕ) → slice_get s2.slots.uses k ≡ or_none v (slice_get s.slots.uses k) = λ k. get_mapped v s.slots.uses k in
    record {
      used = λ k. elim (option_of (slice_get s.slots.uses k)) [
        | inl none ↦
            (let old_use : IsUsed s k None = subst (IsUsed s k) none (sound.used k) in
            let new_use : IsUsed s2 k None = (lies k ∙ old_use.0, comes k ∙ old_use.1, old_use.2) in
            subst (IsUsed s2 k) (sym (uses k ∙ ap (or_none v) none)) new_use)
        | inr (x, is) ↦
            (let old_use : IsUsed s k (Some x) = subst (IsUsed s k) is (sound.used k) in
            let new_use : IsUsed s2 k (Some (v x)) = elim (void_case i p x) [
              | inl (same, void) ↦
                  (let before : IsUsed s k (Some (Evicting i p)) = subst (λ z. IsUsed s k (Some z)) same old_use in
                  let after : IsUsed s2 k (Some (EvictVoid i)) = (lies k ∙ before.0, comes k ∙ before.1, before.2) in
                  subst (λ z. IsUsed s2 k (Some z)) (sym void) after)
              | inr (other, stays) ↦
                  (let after : IsUsed s2 k (Some x) = used_still s s2 i p k x (lies k) (comes k) refl (elsewhere s.tables i p (Private g))
                  (λ e. (let k2 : old ≡ Coming k = (let both : Some old ≡ Some (Coming k) = sym there ∙ e in cc) in (near k).2 k2)) other old_use in
                  subst (λ z. IsUsed s2 k (Some z)) (sym stays) after)
            ] in
            subst (IsUsed s2 k) (sym (uses k ∙ ap (or_none v) is)) new_use)
      ];
      by_one = λ j k by. sound.by_one j k (subst (λ (T : Type 0). T) (leaver_same i p j (slice_get s.slots.uses k)) (subst (LeavesBy j) (uses k) by));
      by_this = λ j k t is at_it. subst (LeavesBy j) (sym (uses k)) (subst (λ (T : Type 0). T) (sym (leaver_same i p j (slice_get s.slots.uses k))) (sound.by_this j k t is at_it));
      leaving = search (rules, elsewhere, void_case);
      voids = search (rules, option_of, void_case);
      held = sound.held ∙ sym (length-map s.slots.uses v);
      whole = λ k some. sound.whole k (let a = lies k in let b = comes k in omega arith);
    }

-- pins that go on, of which earmarked frames may have been taken
pub record ArePinsOf (old new : Option Pins) : Type 0 where
  pub pinned : (j : ℕ) → pinned_by new j ≡ pinned_by old j
  pub few : length (kept new) ≤ length (kept old)
  pub of : (x : Pins) → new ≡ Some x → (y : Pins) × (old ≡ Some y) × (y.place ≡ x.place)

pub is_sound_broke : (s : Space) (i p g : ℕ) (old : Page) (pool : Pool) (marks : List Mark) (pins : Option Pins) → IsSound s → page_at s.tables i p ≡ Some old → IsNear old
    → length pool.frames ≡ length s.pool.frames → ArePinsOf s.pins pins → FramesAreSound (broke s i p g pool marks pins) → IsSound (broke s i p g pool marks pins)
unfolding broke
is_sound_broke s i p g old pool marks pins sound there near many pinned frames =
    let s2 : Space = broke s i p g pool marks pins in
    let now : page_at s2.tables i p ≡ Some (Private g) = put_this s.tables i p old (Private g) there in
    record {
      frames = frames;
      slots = slots_broke s i p g old pool marks pins sound.slots there near;
      occupants = record {
        tables = length-set s.tables i _ ∙ sound.occupants.tables;
        touched = length-set s.touched i _ ∙ sound.occupants.touched;
        have = λ j o is. has_still o (get_or s.tables j []) (get_or s2.tables j []) (row_length s.tables i p (Private g) j) (sound.occupants.have j o is);
        marks = λ j. mark_length s.touched i p true j ∙ (sound.occupants.marks j ∙ sym (row_length s.tables i p (Private g) j));
        numbers = sound.occupants.numbers;
        released = λ j t is gone. (let k = sound.occupants.released j t is gone in let e = void_same (ticket_of j) i p s.slots.uses refl in omega arith);
        needs = λ j t need is at_it. (let n = sound.occupants.needs j t need is at_it in let l = row_length s.tables i p (Private g) j in (n.0, omega (arith, n.1, l), n.2));
      };
      pins = search (rules, elsewhere);
      admissible = ((let b = sound.admissible.0 in omega arith), (let e = length-map s.slots.uses (voided i (p ∷ [])) in let b = sound.admissible.1 in omega arith));
    }
