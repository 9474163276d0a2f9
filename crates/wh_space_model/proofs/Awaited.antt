-- A fetch that begins, and one that ends, leave everything sound.
use Rattle.std.proofs.Common.{◌≡◌, ◌≢◌, ℕ, ◌+◌, ◌≤◌, ◌++◌, ◌==◌, inl, inr, cond, true, false, Bool, List, [], ◌∷◌, Option, Some, None, length, slice_get, get_or, refl, sym, ap, ◌∙◌, subst, arith, length-set, length-append, rules}
use Rattle.wh_space_model.specs.{tally, one_if, BeginsFetchSoundly, IsSound, IsUsed, Pins, Space, kept, kept_by, sharers, comes_from, count, leaving, lies_in, owns, page_at, shares, fetches_into, ticket_of, sent_for}
use Rattle.wh_space_model.proofs.Tally.{one_same, one_other, tally-append}
use Rattle.wh_space_model.specs.declared.states.Page.TheVariants.{Coming, Swapped}
use Rattle.wh_space_model.specs.declared.states.Slot.TheVariants.{Taken, Fetching}
use Rattle.wh_space_model.proofs.Begun.{at_same}
use Rattle.wh_space_model.proofs.Evicted.{has_still, names_other, other_value, row_length, used_other}
use Rattle.wh_space_model.proofs.Putting.{here_or, pinned_here, pinned_other, put_this, set_other, set_same, there_of}
use Rattle.wh_space_model.proofs.Reserved.{is_sound_reserved, mine_live}
use Rattle.wh_space_model.proofs.Living.{page_is_live}
use Rattle.wh_space_model.proofs.Sums.{put_tally, set_tally}
use Rattle.wh_space_model.proofs.Slotting.{slot_taken}

-- what is kept for one is all that is kept
kept_mine : (pins : Option Pins) (i f : ℕ) (others : List ℕ) → kept_by pins i ≡ others ++ f ∷ [] → kept pins ≡ others ++ f ∷ []
kept_mine None i f others e = e
kept_mine (Some pins) i f others e = go (pins.place == i) e where
  go : (b : Bool) → cond b pins.frames [] ≡ others ++ f ∷ [] → pins.frames ≡ others ++ f ∷ []
  go true same = same
  go false bad = absurd (let l = ap length bad in let m = length-append others (f ∷ []) in omega arith)

pub is_sound_sent_for : (s : Space) (i p f k : ℕ) (others : List ℕ) → IsSound s → page_at s.tables i p ≡ Some (Swapped k) → kept_by s.pins i ≡ others ++ f ∷ [] → IsSound (sent_for s i p f k others)
is_sound_sent_for s i p f k others sound there list =
    let s2 : Space = sent_for s i p f k others in
    let taken = slot_taken s i p k sound.slots there in
    let within = there_of s.slots.uses k Taken taken in
    let used : IsUsed s k (Some Taken) = subst (IsUsed s k) taken (sound.slots.used k) in
    let all = kept_mine s.pins i f others list in
    let keep : (h : ℕ) → tally (one_if h) (kept s.pins) ≡ tally (one_if h) others + one_if h f = λ h. (let a = ap (tally (one_if h)) all in let b = tally-append (one_if h) others (f ∷ []) in omega arith) in
    let here : slice_get s2.slots.uses k ≡ Some (Fetching i p f) = set_same s.slots.uses k (Fetching i p f) within in
    let away : (h : ℕ) → h ≢ k → slice_get s2.slots.uses h ≡ slice_get s.slots.uses h = λ h other. set_other s.slots.uses k h (Fetching i p f) other in
    let own : (h : ℕ) → count (owns h) s2.tables + 0 ≡ count (owns h) s.tables + 0 = λ h. put_tally (owns h) s.tables i p (Swapped k) (Coming k) there in
    let share : (h : ℕ) → sharers s2 h + 0 ≡ sharers s h + 0 = λ h. put_tally (shares h) s.tables i p (Swapped k) (Coming k) there in
    let fetch : (h : ℕ) → tally (fetches_into h) s2.slots.uses + 0 ≡ tally (fetches_into h) s.slots.uses + one_if h f = λ h. set_tally (fetches_into h) s.slots.uses k Taken (Fetching i p f) taken in
    let lies : (h : ℕ) → count (lies_in h) s2.tables + one_if h k ≡ count (lies_in h) s.tables + 0 = λ h. put_tally (lies_in h) s.tables i p (Swapped k) (Coming k) there in
    let comes : (h : ℕ) → count (comes_from h) s2.tables + 0 ≡ count (comes_from h) s.tables + one_if h k = λ h. put_tally (comes_from h) s.tables i p (Swapped k) (Coming k) there in
    record {
      frames = record {
        one = λ h less. (let a = own h in let b = share h in let c = fetch h in let d = keep h in let e = sound.frames.one h less in omega arith);
        none = λ h past. (let a = own h in let b = share h in let c = fetch h in let d = keep h in let e = sound.frames.none h past in omega arith);
        whole = sound.frames.whole;
        marks = sound.frames.marks;
        names = λ h. (let b = share h in names_other s s2 h (slice_get s.marks h) refl (omega arith) (λ a c is. at_same (owns h) s.tables i p a c (Swapped k) (Coming k) there refl ∙ is) (sound.frames.names h));
        apart = sound.frames.apart;
      };
      slots = record {
        used = λ h. elim (here_or k h) [
          | inl same ↦
              (let o = one_same k k refl in let a = lies k in let b = comes k in
              let now : IsUsed s2 k (Some (Fetching i p f)) = (omega (arith, a, o, used.0), omega (arith, b, o, used.1), used.2, put_this s.tables i p (Swapped k) (Coming k) there) in
              subst (λ q. IsUsed s2 q (slice_get s2.slots.uses q)) (sym same) (subst (IsUsed s2 k) (sym here) now))
          | inr other ↦
              (let o = one_other h k other in let a = lies h in let b = comes h in
              subst (IsUsed s2 h) (sym (away h (λ e. other e)))
              (used_other s s2 h (slice_get s.slots.uses h) (omega (arith, a, o)) (omega (arith, b, o)) refl
              (λ a b is. at_same leaving s.tables i p a b (Swapped k) (Coming k) there refl ∙ is)
              (λ a b is. other_value s.tables i p a b (Swapped k) (Coming k) (Coming h) there (λ e. (let bad : Swapped k ≡ Coming h = e in cc)) is)
              (sound.slots.used h)))
        ];
        by_one = search (rules, here_or);
        by_this = search (rules, here_or);
        leaving = search (rules, at_same, here_or);
        voids = search (rules, here_or);
        held = sound.slots.held ∙ sym (length-set s.slots.uses k (Fetching i p f));
        whole = λ h some. sound.slots.whole h (let a = lies h in let b = comes h in omega arith);
      };
      occupants = record {
        tables = length-set s.tables i _ ∙ sound.occupants.tables;
        touched = sound.occupants.touched;
        have = λ j o is. has_still o (get_or s.tables j []) (get_or s2.tables j []) (row_length s.tables i p (Coming k) j) (sound.occupants.have j o is);
        marks = λ j. sound.occupants.marks j ∙ sym (row_length s.tables i p (Coming k) j);
        numbers = sound.occupants.numbers;
        released = λ j t is gone. (let a = sound.occupants.released j t is gone in let e = set_tally (ticket_of j) s.slots.uses k Taken (Fetching i p f) taken in omega arith);
        needs = λ j t need is at_it. (let n = sound.occupants.needs j t need is at_it in let l = row_length s.tables i p (Coming k) j in (n.0, omega (arith, n.1, l), n.2));
      };
      pins = search (rules, length-append, here_or, pinned_other, pinned_here, at_same, mine_live, page_is_live);
      admissible = (sound.admissible.0, (let e = length-set s.slots.uses k (Fetching i p f) in let b = sound.admissible.1 in omega arith));
    }

-- a fetch that begins, or doesn't
pub begin_fetch_sound : BeginsFetchSoundly
begin_fetch_sound s s2 i None sound (inl (stands, is)) = subst IsSound (sym is) sound
begin_fetch_sound s s2 i None sound (inr (need, stands, reserves, why)) = is_sound_reserved s i need s2 sound (stands.0, stands.1, stands.2) reserves
begin_fetch_sound s s2 i (Some k) sound (need, stands, s1, reserves, p, f, first, there, others, list, moves) =
    subst IsSound (sym moves) (is_sound_sent_for s1 i p f k others (is_sound_reserved s i need s1 sound (stands.0, stands.1, stands.2) reserves) there list)
