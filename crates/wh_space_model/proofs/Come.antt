-- A fetch that ends leaves everything sound.
use Rattle.std.proofs.Common.{◌≡◌, ◌≢◌, ℕ, ◌+◌, inl, inr, List, [], ◌∷◌, Some, length, slice_get, get_or, refl, sym, ◌∙◌, subst, arith, length-set, rules}
use Rattle.std.proofs.lemmas.List.{get_or-set_same, get_or-set_other}
use Rattle.wh_space_model.specs.{tally, one_if, CommitsFetchSoundly, IsSound, IsUsed, Names, Space, sharers, comes_from, count, leaving, lies_in, owns, page_at, resident, shares, fetches_into, has_come, not_come}
use Rattle.wh_space_model.proofs.Tally.{one_same, one_other, tally-append}
use Rattle.wh_space_model.specs.declared.states.Page.TheVariants.{Private, Coming, Swapped}
use Rattle.wh_space_model.specs.declared.states.Slot.TheVariants.{Vacant, Taken, Fetching}
use Rattle.wh_space_model.proofs.Begun.{at_same}
use Rattle.wh_space_model.proofs.Evicted.{has_still, names_other, other_kind, other_value, row_length, used_other}
use Rattle.wh_space_model.proofs.Transit.{held_alone}
use Rattle.wh_space_model.proofs.Putting.{here_or, set_other, set_same, there_of}
use Rattle.wh_space_model.proofs.Fetched.{names_free}
use Rattle.wh_space_model.proofs.Returned.{one_at}
use Rattle.wh_space_model.proofs.Living.{page_is_live}
use Rattle.wh_space_model.proofs.Voided.{is_sound_fetch_void}
use Rattle.wh_space_model.proofs.Sums.{put_tally, set_tally}

-- the page has come
pub is_sound_come : (s : Space) (i p f k : ℕ) (bytes : List ℕ) → IsSound s → slice_get s.slots.uses k ≡ Some (Fetching i p f) → length bytes ≡ 4096 → IsSound (has_come s i p f k bytes)
is_sound_come s i p f k bytes sound was whole =
    let s2 : Space = has_come s i p f k bytes in
    let within = there_of s.slots.uses k (Fetching i p f) was in
    let used : IsUsed s k (Some (Fetching i p f)) = subst (IsUsed s k) was (sound.slots.used k) in
    let there : page_at s.tables i p ≡ Some (Coming k) = used.3 in
    let alone = held_alone s k i p f sound.frames was in
    let here : slice_get s2.slots.uses k ≡ Some Vacant = set_same s.slots.uses k Vacant within in
    let away : (h : ℕ) → h ≢ k → slice_get s2.slots.uses h ≡ slice_get s.slots.uses h = λ h other. set_other s.slots.uses k h Vacant other in
    let own : (h : ℕ) → count (owns h) s2.tables + 0 ≡ count (owns h) s.tables + one_if h f = λ h. put_tally (owns h) s.tables i p (Coming k) (Private f) there in
    let share : (h : ℕ) → sharers s2 h + 0 ≡ sharers s h + 0 = λ h. put_tally (shares h) s.tables i p (Coming k) (Private f) there in
    let fetch : (h : ℕ) → tally (fetches_into h) s2.slots.uses + one_if h f ≡ tally (fetches_into h) s.slots.uses + 0 = λ h. set_tally (fetches_into h) s.slots.uses k (Fetching i p f) Vacant was in
    let lies : (h : ℕ) → count (lies_in h) s2.tables + 0 ≡ count (lies_in h) s.tables + 0 = λ h. put_tally (lies_in h) s.tables i p (Coming k) (Private f) there in
    let comes : (h : ℕ) → count (comes_from h) s2.tables + one_if h k ≡ count (comes_from h) s.tables + 0 = λ h. put_tally (comes_from h) s.tables i p (Coming k) (Private f) there in
    let split : (h : ℕ) → tally (one_if h) s2.slots.vacant ≡ tally (one_if h) s.slots.vacant + one_if h k = λ h. (let e = tally-append (one_if h) s.slots.vacant (k ∷ []) in omega arith) in
    record {
      frames = record {
        one = λ h less. (let a = own h in let b = share h in let c = fetch h in let e = sound.frames.one h (let l = length-set s.pool.frames f bytes in omega arith) in omega arith);
        none = λ h past. (let a = own h in let b = share h in let c = fetch h in let e = sound.frames.none h (let l = length-set s.pool.frames f bytes in omega arith) in omega arith);
        whole = search (rules, here_or, get_or-set_same, get_or-set_other, length-set);
        marks = sound.frames.marks ∙ sym (length-set s.pool.frames f bytes);
        names = λ h. (let b = share h in let e : sharers s2 h ≡ sharers s h = omega arith in elim (here_or f h) [
          | inl same ↦ (let z : sharers s2 f ≡ 0 = (let c = share f in let d = alone.2 in omega arith) in
              subst (λ q. Names s2 q (slice_get s.marks q)) (sym same) (names_free s s2 f (slice_get s.marks f) alone.1 alone.2 z (sound.frames.names f)))
          | inr other ↦ search (rules, names_other, get_or-set_other, other_kind)
        ]);
        apart = sound.frames.apart;
      };
      slots = record {
        used = λ h. elim (here_or k h) [
          | inl same ↦
              (let o = one_same k k refl in let a = lies k in let b = comes k in let c = split k in
              let now : IsUsed s2 k (Some Vacant) = (omega (arith, a, used.0), omega (arith, b, o, used.1), omega (arith, c, used.2, o)) in
              subst (λ q. IsUsed s2 q (slice_get s2.slots.uses q)) (sym same) (subst (IsUsed s2 k) (sym here) now))
          | inr other ↦
              (let o = one_other h k other in let a = lies h in let b = comes h in let c = split h in
              subst (IsUsed s2 h) (sym (away h (λ e. other e)))
              (used_other s s2 h (slice_get s.slots.uses h) (omega (arith, a, o)) (omega (arith, b, o)) (omega (arith, c, o))
              (λ a b is. at_same leaving s.tables i p a b (Coming k) (Private f) there refl ∙ is)
              (λ a b is. other_value s.tables i p a b (Coming k) (Private f) (Coming h) there (λ e. other (let bad : h ≡ k = cc in bad)) is)
              (sound.slots.used h)))
        ];
        by_one = search (rules, here_or);
        by_this = search (rules, here_or);
        leaving = search (rules, at_same, here_or);
        voids = search (rules, here_or);
        held = sound.slots.held ∙ sym (length-set s.slots.uses k Vacant);
        whole = λ h some. sound.slots.whole h (let a = lies h in let b = comes h in omega arith);
      };
      occupants = record {
        tables = length-set s.tables i _ ∙ sound.occupants.tables;
        touched = sound.occupants.touched;
        have = λ j o is. has_still o (get_or s.tables j []) (get_or s2.tables j []) (row_length s.tables i p (Private f) j) (sound.occupants.have j o is);
        marks = λ j. sound.occupants.marks j ∙ sym (row_length s.tables i p (Private f) j);
        numbers = sound.occupants.numbers;
        released = search (rules, set_tally, here_or, one_other, page_is_live, one_at);
        needs = λ j t need is at_it. (let n = sound.occupants.needs j t need is at_it in let l = row_length s.tables i p (Private f) j in (n.0, omega (arith, n.1, l), n.2));
      };
      pins = record { few = sound.pins.few; there = λ j q some. (let page = other_kind resident s.tables i p j q (Coming k) (Private f) there refl (sound.pins.there j q some) in rw page (sound.pins.there j q some)); of = sound.pins.of };
      admissible = ((let e = length-set s.pool.frames f bytes in let b = sound.admissible.0 in omega arith), (let e = length-set s.slots.uses k Vacant in let b = sound.admissible.1 in omega arith));
    }

-- it is back in its slot
pub is_sound_not_come : (s : Space) (i p f k : ℕ) → IsSound s → slice_get s.slots.uses k ≡ Some (Fetching i p f) → IsSound (not_come s i p f k)
is_sound_not_come s i p f k sound was =
    let s2 : Space = not_come s i p f k in
    let within = there_of s.slots.uses k (Fetching i p f) was in
    let used : IsUsed s k (Some (Fetching i p f)) = subst (IsUsed s k) was (sound.slots.used k) in
    let there : page_at s.tables i p ≡ Some (Coming k) = used.3 in
    let alone = held_alone s k i p f sound.frames was in
    let here : slice_get s2.slots.uses k ≡ Some Taken = set_same s.slots.uses k Taken within in
    let away : (h : ℕ) → h ≢ k → slice_get s2.slots.uses h ≡ slice_get s.slots.uses h = λ h other. set_other s.slots.uses k h Taken other in
    let own : (h : ℕ) → count (owns h) s2.tables + 0 ≡ count (owns h) s.tables + 0 = λ h. put_tally (owns h) s.tables i p (Coming k) (Swapped k) there in
    let share : (h : ℕ) → sharers s2 h + 0 ≡ sharers s h + 0 = λ h. put_tally (shares h) s.tables i p (Coming k) (Swapped k) there in
    let fetch : (h : ℕ) → tally (fetches_into h) s2.slots.uses + one_if h f ≡ tally (fetches_into h) s.slots.uses + 0 = λ h. set_tally (fetches_into h) s.slots.uses k (Fetching i p f) Taken was in
    let lies : (h : ℕ) → count (lies_in h) s2.tables + 0 ≡ count (lies_in h) s.tables + one_if h k = λ h. put_tally (lies_in h) s.tables i p (Coming k) (Swapped k) there in
    let comes : (h : ℕ) → count (comes_from h) s2.tables + one_if h k ≡ count (comes_from h) s.tables + 0 = λ h. put_tally (comes_from h) s.tables i p (Coming k) (Swapped k) there in
    let split : (h : ℕ) → tally (one_if h) s2.slots.vacant ≡ tally (one_if h) s.slots.vacant + 0 = λ h. (let e : tally (one_if h) s2.slots.vacant ≡ tally (one_if h) s.slots.vacant = refl in omega arith) in
    let free : (h : ℕ) → tally (one_if h) s2.pool.free ≡ tally (one_if h) s.pool.free + one_if h f = λ h. (let e = tally-append (one_if h) s.pool.free (f ∷ []) in omega arith) in
    record {
      frames = record {
        one = λ h less. (let a = own h in let b = share h in let c = fetch h in let g = free h in let e = sound.frames.one h less in omega arith);
        none = λ h past. (let a = own h in let b = share h in let c = fetch h in let g = free h in let e = sound.frames.none h past in omega arith);
        whole = sound.frames.whole;
        marks = sound.frames.marks;
        names = λ h. (let b = share h in names_other s s2 h (slice_get s.marks h) refl (omega arith) (λ a c is. at_same (owns h) s.tables i p a c (Coming k) (Swapped k) there refl ∙ is) (sound.frames.names h));
        apart = sound.frames.apart;
      };
      slots = record {
        used = λ h. elim (here_or k h) [
          | inl same ↦
              (let o = one_same k k refl in let a = lies k in let b = comes k in let c = split k in
              let now : IsUsed s2 k (Some Taken) = (omega (arith, a, used.0, o), omega (arith, b, o, used.1), omega (arith, c, used.2)) in
              subst (λ q. IsUsed s2 q (slice_get s2.slots.uses q)) (sym same) (subst (IsUsed s2 k) (sym here) now))
          | inr other ↦
              (let o = one_other h k other in let a = lies h in let b = comes h in let c = split h in
              subst (IsUsed s2 h) (sym (away h (λ e. other e)))
              (used_other s s2 h (slice_get s.slots.uses h) (omega (arith, a, o)) (omega (arith, b, o)) (omega (arith, c, o))
              (λ a b is. at_same leaving s.tables i p a b (Coming k) (Swapped k) there refl ∙ is)
              (λ a b is. other_value s.tables i p a b (Coming k) (Swapped k) (Coming h) there (λ e. other (let bad : h ≡ k = cc in bad)) is)
              (sound.slots.used h)))
        ];
        by_one = search (rules, here_or);
        by_this = search (rules, here_or);
        leaving = search (rules, at_same, here_or);
        voids = search (rules, here_or);
        held = sound.slots.held ∙ sym (length-set s.slots.uses k Taken);
        whole = λ h some. sound.slots.whole h (let a = lies h in let b = comes h in omega arith);
      };
      occupants = record {
        tables = length-set s.tables i _ ∙ sound.occupants.tables;
        touched = sound.occupants.touched;
        have = λ j o is. has_still o (get_or s.tables j []) (get_or s2.tables j []) (row_length s.tables i p (Swapped k) j) (sound.occupants.have j o is);
        marks = λ j. sound.occupants.marks j ∙ sym (row_length s.tables i p (Swapped k) j);
        numbers = sound.occupants.numbers;
        released = search (rules, set_tally, here_or, one_other, page_is_live, one_at);
        needs = λ j t need is at_it. (let n = sound.occupants.needs j t need is at_it in let l = row_length s.tables i p (Swapped k) j in (n.0, omega (arith, n.1, l), n.2));
      };
      pins = record { few = sound.pins.few; there = λ j q some. at_same resident s.tables i p j q (Coming k) (Swapped k) there refl ∙ sound.pins.there j q some; of = sound.pins.of };
      admissible = (sound.admissible.0, (let e = length-set s.slots.uses k Taken in let b = sound.admissible.1 in omega arith));
    }

-- The ticket of a fetch comes back, and all is sound.
pub commits_fetch_soundly : CommitsFetchSoundly
commits_fetch_soundly s k read bytes end s2 sound (inl (j, g, at_it, ends, is)) = subst IsSound (sym is) (is_sound_fetch_void s k j g sound at_it)
commits_fetch_soundly s k read bytes end s2 sound (inr (j, q, g, at_it, inl (ok, long, ends, is))) = subst IsSound (sym is) (is_sound_come s j q g k bytes sound at_it long)
commits_fetch_soundly s k read bytes end s2 sound (inr (j, q, g, at_it, inr (failed, ends, is))) = subst IsSound (sym is) (is_sound_not_come s j q g k sound at_it)
