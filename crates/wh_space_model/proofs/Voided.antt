-- A void ticket that comes back leaves everything sound.
use Rattle.std.proofs.Common.{◌≡◌, ◌≢◌, ℕ, ◌+◌, ◌-◌, ◌⊎◌, inl, inr, [], ◌∷◌, Some, None, slice_get, get_or, refl, sym, ap, ◌∙◌, subst, arith, length-set, rules}
use Rattle.wh_space_model.specs.{tally, one_if, fetches_into, ticket_of, settled, with_free, with_leaving, without_slot, HasTable, IsSound, IsUsed, LeavesBy, Occupant, Space, occupant_at, of_occupant}
use Rattle.wh_space_model.proofs.Tally.{one_same, one_other, tally-append}
use Rattle.wh_space_model.specs.declared.states.Slot.TheVariants.{Vacant, EvictVoid, FetchVoid}
use Rattle.wh_space_model.proofs.Evicted.{names_other, used_other}
use Rattle.wh_space_model.proofs.Putting.{get_or_is, here_or, set_other, set_same, there_of}
use Rattle.wh_space_model.proofs.Returned.{back_after, back_away, back_before, back_now, one_at}
use Rattle.wh_space_model.proofs.Settled.{IsSoundBut, is_sound_settled}
use Rattle.wh_space_model.proofs.Sums.{set_tally}

but_evict_void : (s : Space) (k j : ℕ) → IsSound s → slice_get s.slots.uses k ≡ Some (EvictVoid j) → IsSoundBut (with_leaving (without_slot s k) j None) j
but_evict_void s k j sound was =
    let s2 : Space = with_leaving (without_slot s k) j None in
    let within = there_of s.slots.uses k (EvictVoid j) was in
    let used : IsUsed s k (Some (EvictVoid j)) = subst (IsUsed s k) was (sound.slots.used k) in
    let mine = mine_of in
    let here : slice_get s2.slots.uses k ≡ Some Vacant = set_same s.slots.uses k Vacant within in
    let away : (h : ℕ) → h ≢ k → slice_get s2.slots.uses h ≡ slice_get s.slots.uses h = λ h other. set_other s.slots.uses k h Vacant other in
    let fetch : (h : ℕ) → tally (fetches_into h) s2.slots.uses + 0 ≡ tally (fetches_into h) s.slots.uses + 0 = λ h. set_tally (fetches_into h) s.slots.uses k (EvictVoid j) Vacant was in
    let split : (h : ℕ) → tally (one_if h) s2.slots.vacant ≡ tally (one_if h) s.slots.vacant + one_if h k = λ h. (let e = tally-append (one_if h) s.slots.vacant (k ∷ []) in omega arith) in
    let before : (i : ℕ) (t : Occupant) → occupant_at s2 i t → (u : Occupant) × occupant_at s i u × (u.number ≡ t.number) × (u.live ≡ t.live) × (u.stands ≡ t.stands) × (((i ≢ j) × (u.leaves ≡ t.leaves)) ⊎ ((i ≡ j) × (t.leaves ≡ None))) = λ i t is. back_before s j mine.0 i t mine.1 is in
    record {
      frames = record {
        one = λ h less. (let c = fetch h in let e = sound.frames.one h less in omega arith);
        none = λ h past. (let c = fetch h in let e = sound.frames.none h past in omega arith);
        whole = sound.frames.whole;
        marks = sound.frames.marks;
        names = λ h. names_other s s2 h (slice_get s.marks h) refl refl (λ a c is. is) (sound.frames.names h);
        apart = sound.frames.apart;
      };
      slots = record {
        used = search (rules, here_or, one_same, one_other, used_other);
        by_one = λ i h by. elim (here_or k h) [
          | inl same ↦ absurd (subst (LeavesBy i) here (subst (λ q. LeavesBy i (slice_get s2.slots.uses q)) same by))
          | inr other ↦
              (let was_by : LeavesBy i (slice_get s.slots.uses h) = subst (LeavesBy i) (away h (λ e. other e)) by in
              let found = sound.slots.by_one i h was_by in
              let apart : i ≢ j = λ same. other (only i h found.0 found.1 found.2 same) in
              (found.0, back_away s j i apart ∙ found.1, found.2))
        ];
        by_this = search (rules, here_or);
        leaving = search (rules, here_or);
        voids = λ i h g is. elim (here_or k h) [
          | inl same ↦ absurd (let e : slice_get s2.slots.uses k ≡ Some (FetchVoid i g) = subst (λ z. slice_get s2.slots.uses z ≡ Some (FetchVoid i g)) same is in let bad : Some Vacant ≡ Some (FetchVoid i g) = sym here ∙ e in cc)
          | inr other ↦ (let found = sound.slots.voids i h g (sym (away h (λ a. other a)) ∙ is) in let now = back_after s j i found.0 found.1 in (now.0, now.1, now.2 ∙ found.2))
        ];
        held = sound.slots.held ∙ sym (length-set s.slots.uses k Vacant);
        whole = sound.slots.whole;
      };
      pins = record {
        few = sound.pins.few;
        there = sound.pins.there;
        of = λ pins is. (let found = sound.pins.of pins is in let now = back_after s j pins.place found.0 found.1 in (now.0, now.1, now.2 ∙ found.2));
      };
      admissible = ((let a = same_sum (λ t. t.min) refl in let b = sound.admissible.0 in omega arith), (let a = same_sum (λ t. (t.max - t.min) + 1) refl in let c = length-set s.slots.uses k Vacant in let b = sound.admissible.1 in omega arith));
      tables = sound.occupants.tables ∙ sym (length-set s.occupants j _);
      touched = sound.occupants.touched ∙ sym (length-set s.occupants j _);
      have = λ i o is. elim (here_or j i) [
        | inr apart ↦ sound.occupants.have i o (sym (back_away s j i apart) ∙ is)
        | inl same ↦
            (let is2 : slice_get s2.occupants j ≡ Some o = subst (λ z. slice_get s2.occupants z ≡ Some o) same is in
            let both : Some o ≡ Some (Some (record mine.0 { leaves = None })) = sym is2 ∙ back_now s j mine.0 mine.1 in
            let one : Some (record mine.0 { leaves = None }) ≡ o = cc in
            let has : HasTable (Some mine.0) (get_or s.tables j []) = sound.occupants.have j (Some mine.0) mine.1 in
            let has2 : HasTable (Some (record mine.0 { leaves = None })) (get_or s.tables j []) = (has.0, has.1, has.2, has.3, has.4, has.5, has.6, has.7) in
            subst (λ z. HasTable o (get_or s2.tables z [])) (sym same) (subst (λ z. HasTable z (get_or s2.tables j [])) one has2))
      ];
      marks = sound.occupants.marks;
      numbers = λ i h t u a b same. (let x = before i t a in let y = before h u b in sound.occupants.numbers i h x.0 y.0 x.1 y.1 (x.2 ∙ (same ∙ sym y.2)));
      released = search (rules, set_tally, one_other);
      needs = λ i t need is at_it. (let x = before i t is in let n = sound.occupants.needs i x.0 need x.1 (x.4 ∙ at_it) in (sym x.3 ∙ n.0, n.1, n.2));
    } where
      mine_of : (t : Occupant) × occupant_at s j t × (t.leaves ≡ Some k)
      mine_of = sound.slots.by_one j k (subst (LeavesBy j) (sym was) refl)

      only : (i h : ℕ) (t : Occupant) → occupant_at s i t → t.leaves ≡ Some h → i ≡ j → h ≡ k
      only i h t is by same =
          let one : t ≡ mine_of.0 = one_at s j t mine_of.0 (subst (λ z. occupant_at s z t) same is) mine_of.1 in
          let both : Some h ≡ Some k = sym by ∙ (ap (λ (a : Occupant). a.leaves) one ∙ mine_of.2) in cc

      same_sum : (w : Occupant → ℕ) → w (record mine_of.0 { leaves = None }) ≡ w mine_of.0 → tally (of_occupant w) (with_leaving s j None).occupants ≡ tally (of_occupant w) s.occupants
      same_sum w same =
          let e = get_or_is s.occupants j (Some mine_of.0) None mine_of.1 in
          let sum = set_tally (of_occupant w) s.occupants j (Some mine_of.0) (Some (record mine_of.0 { leaves = None })) mine_of.1 in
          rw e (omega arith)

pub is_sound_evict_void : (s : Space) (k j : ℕ) → IsSound s → slice_get s.slots.uses k ≡ Some (EvictVoid j) → IsSound (settled (with_leaving (without_slot s k) j None) j)
is_sound_evict_void s k j sound was =
    let mine = sound.slots.by_one j k (subst (LeavesBy j) (sym was) refl) in
    is_sound_settled (with_leaving (without_slot s k) j None) j (let a = there_of s.occupants j (Some mine.0) mine.1 in let b = length-set s.occupants j (Some (record mine.0 { leaves = None })) in let c = get_or_is s.occupants j (Some mine.0) None mine.1 in rw c (omega arith)) (but_evict_void s k j sound was)

but_fetch_void : (s : Space) (k i f : ℕ) → IsSound s → slice_get s.slots.uses k ≡ Some (FetchVoid i f) → IsSoundBut (with_free (without_slot s k) f) i
but_fetch_void s k i f sound was =
    let s2 : Space = with_free (without_slot s k) f in
    let within = there_of s.slots.uses k (FetchVoid i f) was in
    let used : IsUsed s k (Some (FetchVoid i f)) = subst (IsUsed s k) was (sound.slots.used k) in
    let here : slice_get s2.slots.uses k ≡ Some Vacant = set_same s.slots.uses k Vacant within in
    let away : (h : ℕ) → h ≢ k → slice_get s2.slots.uses h ≡ slice_get s.slots.uses h = λ h other. set_other s.slots.uses k h Vacant other in
    let fetch : (h : ℕ) → tally (fetches_into h) s2.slots.uses + one_if h f ≡ tally (fetches_into h) s.slots.uses + 0 = λ h. set_tally (fetches_into h) s.slots.uses k (FetchVoid i f) Vacant was in
    let free : (h : ℕ) → tally (one_if h) s2.pool.free ≡ tally (one_if h) s.pool.free + one_if h f = λ h. (let e = tally-append (one_if h) s.pool.free (f ∷ []) in omega arith) in
    let split : (h : ℕ) → tally (one_if h) s2.slots.vacant ≡ tally (one_if h) s.slots.vacant + one_if h k = λ h. (let e = tally-append (one_if h) s.slots.vacant (k ∷ []) in omega arith) in
    record {
      frames = search (rules, names_other);
      slots = search (rules, here_or, one_same, one_other, used_other, length-set);
      pins = record { few = sound.pins.few; there = sound.pins.there; of = sound.pins.of };
      admissible = (sound.admissible.0, (let e = length-set s.slots.uses k Vacant in let b = sound.admissible.1 in omega arith));
      tables = sound.occupants.tables;
      touched = sound.occupants.touched;
      have = sound.occupants.have;
      marks = sound.occupants.marks;
      numbers = sound.occupants.numbers;
      released = λ j t apart is gone. (let a = sound.occupants.released j t is gone in let less = set_tally (ticket_of j) s.slots.uses k (FetchVoid i f) Vacant was in let o = one_other j i (λ e. apart e) in omega arith);
      needs = sound.occupants.needs;
    }

pub is_sound_fetch_void : (s : Space) (k i f : ℕ) → IsSound s → slice_get s.slots.uses k ≡ Some (FetchVoid i f) → IsSound (settled (with_free (without_slot s k) f) i)
is_sound_fetch_void s k i f sound was =
    let mine = sound.slots.voids i k f was in
    is_sound_settled (with_free (without_slot s k) f) i (there_of s.occupants i (Some mine.0) mine.1) (but_fetch_void s k i f sound was)
