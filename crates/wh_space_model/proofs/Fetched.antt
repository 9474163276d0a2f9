-- A page that comes from a slot leaves everything sound.
use Rattle.std.proofs.Common.{◌≡◌, ◌≢◌, ℕ, ◌+◌, ◌<◌, ◌≤◌, ◌++◌, inl, inr, List, [], ◌∷◌, Option, Some, None, length, slice_get, slice_set, get_or, refl, sym, ◌∙◌, subst, arith, length-set, rules}
use Rattle.std.proofs.lemmas.Bool.{cases_lt}
use Rattle.std.proofs.lemmas.List.{get_or-set_same, get_or-set_other}
use Rattle.wh_space_model.specs.{tally, one_if, fetches_into, ticket_of, fetched, Space, backing, sharers, all_bytes, Pins, IsSound, FramesAreSound, SlotsAreSound, IsUsed, LeavesBy, Names, Backing, page_bytes, at, page_at, owns, shares, lies_in, comes_from, leaving, count}
use Rattle.wh_space_model.proofs.Tally.{one_same, one_other, tally-append}
use Rattle.wh_space_model.specs.declared.states.Page.{Page}
use Rattle.wh_space_model.specs.declared.states.Page.TheVariants.{Private, Coming, Swapped}
use Rattle.wh_space_model.specs.declared.states.Mark.{Mark}
use Rattle.wh_space_model.specs.declared.states.Mark.TheVariants.{Plain, Hint, Sharers, Unlisted}
use Rattle.wh_space_model.specs.declared.states.Slot.{Slot}
use Rattle.wh_space_model.specs.declared.states.Slot.TheVariants.{Vacant, Taken, Evicting}
use Rattle.wh_space_model.proofs.Contents.{same_contents}
use Rattle.wh_space_model.proofs.Evicted.{other_kind, other_value, used_other, names_other, still, row_length, has_still}
use Rattle.wh_space_model.proofs.Putting.{set_same, set_other, there_of, here_or, put_this, put_other, get_pages, pinned_here, pinned_other}
use Rattle.wh_space_model.proofs.Sums.{set_tally, put_tally}
use Rattle.wh_space_model.proofs.Transit.{frame_written}
use Rattle.wh_space_model.proofs.Living.{page_is_live}

free_alone : (s : Space) (f : ℕ) (others : List ℕ) → FramesAreSound s → s.pool.free ≡ others ++ f ∷ [] → (f < length s.pool.frames) × (count (owns f) s.tables ≡ 0) × (sharers s f ≡ 0)
free_alone s f others sound list =
    let e : tally (one_if f) s.pool.free ≡ tally (one_if f) others + 1 = rw list (let a = tally-append (one_if f) others (f ∷ []) in let o = one_same f f refl in omega arith) in
    elim (cases_lt f (length s.pool.frames)) [
      | inl within ↦ (let sum = sound.one f within in (within, omega arith, omega arith))
      | inr past ↦ (let zeros = sound.none f past in absurd (omega arith))
    ]

-- a free frame has no entry
pub names_free : (s s2 : Space) (f : ℕ) (m : Option Mark) → count (owns f) s.tables ≡ 0 → sharers s f ≡ 0 → sharers s2 f ≡ 0 → Names s f m → Names s2 f m
names_free s s2 f None o h h2 names = tt
names_free s s2 f (Some Plain) o h h2 names = h2
names_free s s2 f (Some (Hint x i q)) o h h2 names = absurd (let k = at_count (owns f) s.tables i q in let n = names.0 in omega arith) where
  at_count : (w : Page → ℕ) (t : List (List Page)) (i q : ℕ) → at w (page_at t i q) ≤ count w t
  at_count w t i q = go (page_at t i q) refl where
    go : (o : Option Page) → page_at t i q ≡ o → at w o ≤ count w t
    go None e = omega arith
    go (Some x) e = get_pages w t i q x e
names_free s s2 f (Some (Sharers x n)) o h h2 names = absurd (let c = names.0 in let l = names.1 in omega arith)
names_free s s2 f (Some (Unlisted n)) o h h2 names = absurd (let c = names.0 in let l = names.1 in omega arith)

pub frames_fetched : (s : Space) (i p f k : ℕ) (others bytes : List ℕ) → FramesAreSound s → page_at s.tables i p ≡ Some (Swapped k) → s.pool.free ≡ others ++ f ∷ [] → slice_get s.slots.uses k ≡ Some Taken → length bytes ≡ 4096 → FramesAreSound (fetched s i p f k others bytes)
frames_fetched s i p f k others bytes sound there list taken whole =
    let s2 : Space = fetched s i p f k others bytes in
    let alone = free_alone s f others sound list in
    let free : (g : ℕ) → tally (one_if g) s.pool.free ≡ tally (one_if g) others + one_if g f = λ g. rw list (let a = tally-append (one_if g) others (f ∷ []) in omega arith) in
    let own : (g : ℕ) → count (owns g) s2.tables + 0 ≡ count (owns g) s.tables + one_if g f = λ g. put_tally (owns g) s.tables i p (Swapped k) (Private f) there in
    let share : (g : ℕ) → sharers s2 g + 0 ≡ sharers s g + 0 = λ g. put_tally (shares g) s.tables i p (Swapped k) (Private f) there in
    let fetch : (g : ℕ) → tally (fetches_into g) s2.slots.uses + 0 ≡ tally (fetches_into g) s.slots.uses + 0 = λ g. set_tally (fetches_into g) s.slots.uses k Taken Vacant taken in
    record {
      one = λ g within. (let a = free g in let b = own g in let c = share g in let d = fetch g in let one = sound.one g (let l = length-set s.pool.frames f bytes in omega arith) in omega arith);
      none = λ g past. (let a = free g in let b = own g in let c = share g in let d = fetch g in let zeros = sound.none g (let l = length-set s.pool.frames f bytes in omega arith) in omega arith);
      whole = search (rules, here_or, get_or-set_same, get_or-set_other, length-set);
      marks = sound.marks ∙ sym (length-set s.pool.frames f bytes);
      names = λ g. (let e : sharers s2 g ≡ sharers s g = (let c = share g in omega arith) in elim (here_or f g) [
        | inl same ↦ (let z : sharers s2 f ≡ 0 = (let c = share f in let h = alone.2 in omega arith) in
            subst (λ q. Names s2 q (slice_get s.marks q)) (sym same) (names_free s s2 f (slice_get s.marks f) alone.1 alone.2 z (sound.names f)))
        | inr other ↦ search (rules, names_other, get_or-set_other, other_kind)
      ]);
      apart = sound.apart;
    }

no_leaver : (i : ℕ) (u : Slot) (o : Option Slot) → o ≡ Some u → (LeavesBy i (Some u) → ⊥) → LeavesBy i o → ⊥
no_leaver i u o is never by = never (subst (LeavesBy i) is by)

pub slots_fetched : (s : Space) (i p f k : ℕ) (others bytes : List ℕ) → SlotsAreSound s → page_at s.tables i p ≡ Some (Swapped k) → slice_get s.slots.uses k ≡ Some Taken → SlotsAreSound (fetched s i p f k others bytes)
slots_fetched s i p f k others bytes sound there taken =
    let s2 : Space = fetched s i p f k others bytes in
    let within = there_of s.slots.uses k Taken taken in
    let was : (count (lies_in k) s.tables ≡ 1) × (count (comes_from k) s.tables ≡ 0) × (tally (one_if k) s.slots.vacant ≡ 0) = subst (IsUsed s k) taken (sound.used k) in
    let split : (h : ℕ) → tally (one_if h) s2.slots.vacant ≡ tally (one_if h) s.slots.vacant + one_if h k = λ h. (let e = tally-append (one_if h) s.slots.vacant (k ∷ []) in omega arith) in
    let here : slice_get s2.slots.uses k ≡ Some Vacant = set_same s.slots.uses k Vacant within in
    let away : (h : ℕ) → h ≢ k → slice_get s2.slots.uses h ≡ slice_get s.slots.uses h = λ h other. set_other s.slots.uses k h Vacant other in
    let lies : (h : ℕ) → count (lies_in h) s2.tables + one_if h k ≡ count (lies_in h) s.tables + 0 = λ h. put_tally (lies_in h) s.tables i p (Swapped k) (Private f) there in
    let comes : (h : ℕ) → count (comes_from h) s2.tables + 0 ≡ count (comes_from h) s.tables + 0 = λ h. put_tally (comes_from h) s.tables i p (Swapped k) (Private f) there in
    record {
      used = λ h. elim (here_or k h) [
        | inl same ↦
            (let o = one_same k k refl in let a = lies k in let b = comes k in let c = split k in
            let now : IsUsed s2 k (Some Vacant) = (omega (arith, a, o, was.0), omega (arith, b, was.1), omega (arith, c, o, was.2)) in
            subst (λ q. IsUsed s2 q (slice_get s2.slots.uses q)) (sym same) (subst (IsUsed s2 k) (sym here) now))
        | inr other ↦
            (let o = one_other h k other in let a = lies h in let b = comes h in let c = split h in
            subst (IsUsed s2 h) (sym (away h (λ e. other e)))
            (used_other s s2 h (slice_get s.slots.uses h) (omega (arith, a, o)) (omega (arith, b)) (omega (arith, c, o))
            (λ a b is. (let page = other_kind leaving s.tables i p a b (Swapped k) (Private f) there refl is in rw page is))
            (λ a b is. other_value s.tables i p a b (Swapped k) (Private f) (Coming h) there (λ e. (let bad : Swapped k ≡ Coming h = e in cc)) is)
            (sound.used h)))
      ];
      by_one = search (rules, here_or);
      by_this = search (rules, here_or);
      leaving = λ j q is. (let before : at leaving (page_at s.tables j q) ≡ 1 = still s i p j q (Swapped k) (Private f) there refl is in
          let found = sound.leaving j q before in
          elim (here_or k found.0) [
            | inl same ↦ absurd (let e : slice_get s.slots.uses k ≡ Some (Evicting j q) = subst (λ z. slice_get s.slots.uses z ≡ Some (Evicting j q)) same found.1 in let bad : Some Taken ≡ Some (Evicting j q) = sym taken ∙ e in cc)
            | inr other ↦ (found.0, away found.0 (λ e. other e) ∙ found.1)
          ]);
      voids = search (rules, here_or);
      held = sound.held ∙ sym (length-set s.slots.uses k Vacant);
      whole = λ h some. sound.whole h (let a = lies h in let b = comes h in omega arith);
    }

pub is_sound_fetched : (s : Space) (i p f k : ℕ) (others bytes : List ℕ) → IsSound s → page_at s.tables i p ≡ Some (Swapped k) → s.pool.free ≡ others ++ f ∷ [] → slice_get s.slots.uses k ≡ Some Taken → length bytes ≡ 4096 → IsSound (fetched s i p f k others bytes)
is_sound_fetched s i p f k others bytes sound there list taken whole =
    let s2 : Space = fetched s i p f k others bytes in
    record {
      frames = frames_fetched s i p f k others bytes sound.frames there list taken whole;
      slots = slots_fetched s i p f k others bytes sound.slots there taken;
      occupants = record {
        tables = length-set s.tables i _ ∙ sound.occupants.tables;
        touched = sound.occupants.touched;
        have = λ j o is. has_still o (get_or s.tables j []) (get_or s2.tables j []) (row_length s.tables i p (Private f) j) (sound.occupants.have j o is);
        marks = λ j. sound.occupants.marks j ∙ sym (row_length s.tables i p (Private f) j);
        numbers = sound.occupants.numbers;
        released = λ j t is gone. (let k2 = sound.occupants.released j t is gone in let e = set_tally (ticket_of j) s.slots.uses k Taken Vacant taken in omega arith);
        needs = λ j t need is at. (let n = sound.occupants.needs j t need is at in let l = row_length s.tables i p (Private f) j in (n.0, omega (arith, n.1, l), n.2));
      };
      pins = search (rules, here_or, pinned_other, pinned_here, put_this, one_other, put_other, page_is_live);
      admissible = ((let e = length-set s.pool.frames f bytes in let b = sound.admissible.0 in omega arith), (let e = length-set s.slots.uses k Vacant in let b = sound.admissible.1 in omega arith));
    } where
      place_of : Option Pins → ℕ
      place_of None = 0
      place_of (Some pins) = pins.place

-- and all bytes as they were
pub bytes_fetched : (s : Space) (i p f k : ℕ) (others : List ℕ) → FramesAreSound s → page_at s.tables i p ≡ Some (Swapped k) → s.pool.free ≡ others ++ f ∷ []
    → all_bytes (fetched s i p f k others (get_or s.slots.held k [])) ≡ all_bytes s
bytes_fetched s i p f k others sound there list =
    let alone = free_alone s f others sound list in
    let bytes : List ℕ = get_or s.slots.held k [] in
    let b2 : Backing = record { frames = slice_set s.pool.frames f bytes; held = s.slots.held } in
    let now : page_bytes b2 (Private f) ≡ bytes = get_or-set_same s.pool.frames f bytes [] alone.0 in
    same_contents b2 s.tables i p (Swapped k) (Private f) there now ∙ frame_written (backing s) f bytes s.tables alone.1 alone.2
