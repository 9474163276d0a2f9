-- A ticket that comes back while its page is leaving leaves everything sound.
use Rattle.std.proofs.Common.{◌≡◌, ◌≢◌, ℕ, ◌+◌, ◌-◌, ◌⊎◌, inl, inr, [], ◌∷◌, Option, Some, None, slice_get, get_or, refl, sym, ap, ◌∙◌, subst, arith, length-set, rules}
use Rattle.wh_space_model.specs.{tally, one_if, HasTable, IsSound, IsUsed, LeavesBy, SlotsAreSound, Occupant, Space, occupant_at, of_occupant, sharers, as_before, not_sent, with_leaving, at, comes_from, count, leaving, lies_in, owns, page_at, resident, shares, fetches_into, stays}
use Rattle.wh_space_model.proofs.Tally.{one_same, one_other, tally-append}
use Rattle.wh_space_model.specs.declared.states.Page.{Page}
use Rattle.wh_space_model.specs.declared.states.Page.TheVariants.{Untouched, Private, Shared, Leaving, LeavingShared, Coming, Swapped}
use Rattle.wh_space_model.specs.declared.states.Slot.{Slot}
use Rattle.wh_space_model.specs.declared.states.Slot.TheVariants.{Vacant, Taken, Evicting, EvictVoid, Fetching, FetchVoid}
use Rattle.wh_space_model.proofs.Begun.{at_put, at_same}
use Rattle.wh_space_model.proofs.Putting.{get_or_is, here_or, put_other_row, put_this, set_other, set_same, there_of}
use Rattle.wh_space_model.proofs.Evicted.{has_still, names_other, other_value, row_length}
use Rattle.wh_space_model.proofs.Living.{page_is_live}
use Rattle.wh_space_model.proofs.Sums.{put_tally, set_tally}

-- a page that is as before is in all else what it was
pub kinds_back : (page old : Page) (n : ℕ) → as_before page old
    → (owns n old ≡ owns n page) × (shares n old ≡ shares n page) × (lies_in n old ≡ lies_in n page) × (comes_from n old ≡ comes_from n page) × (resident old ≡ resident page) × (leaving old ≡ 0) × (page ≢ Coming n) × (stays old ≡ 1)
kinds_back (Leaving f) old n e = (rw e refl, rw e refl, rw e refl, rw e refl, rw e refl, rw e refl, λ c. (let bad : Leaving f ≡ Coming n = c in cc), rw e refl)
kinds_back (LeavingShared f) old n e = (rw e refl, rw e refl, rw e refl, rw e refl, rw e refl, rw e refl, λ c. (let bad : LeavingShared f ≡ Coming n = c in cc), rw e refl)
kinds_back Untouched old n e = absurd e
kinds_back (Private f) old n e = absurd e
kinds_back (Shared f) old n e = absurd e
kinds_back (Coming k) old n e = absurd e
kinds_back (Swapped k) old n e = absurd e

-- who no longer has a page that leaves, and all others
pub back_now : (s : Space) (j : ℕ) (t : Occupant) → occupant_at s j t → occupant_at (with_leaving s j None) j (record t { leaves = None })
back_now s j t is = rw (get_or_is s.occupants j (Some t) None is) (set_same s.occupants j (Some (record t { leaves = None })) (there_of s.occupants j (Some t) is))

pub back_away : (s : Space) (j i : ℕ) → i ≢ j → slice_get (with_leaving s j None).occupants i ≡ slice_get s.occupants i
back_away s j i other = set_other s.occupants j i _ other

pub back_before : (s : Space) (j : ℕ) (mine : Occupant) (i : ℕ) (t : Occupant) → occupant_at s j mine → occupant_at (with_leaving s j None) i t
    → (u : Occupant) × occupant_at s i u × (u.number ≡ t.number) × (u.live ≡ t.live) × (u.stands ≡ t.stands) × (((i ≢ j) × (u.leaves ≡ t.leaves)) ⊎ ((i ≡ j) × (t.leaves ≡ None)))
back_before s j mine i t was is = search (rules, here_or, back_away, back_now)

pub back_after : (s : Space) (j i : ℕ) (u : Occupant) → occupant_at s i u → (t : Occupant) × occupant_at (with_leaving s j None) i t × (t.live ≡ u.live)
back_after s j i u is =
    elim (here_or j i) [
      | inr apart ↦ (u, back_away s j i apart ∙ is, refl)
      | inl same ↦
          (let is2 : occupant_at s j u = subst (λ z. occupant_at s z u) same is in
          (record u { leaves = None }, subst (λ z. occupant_at (with_leaving s j None) z (record u { leaves = None })) (sym same) (back_now s j u is2), refl))
    ]

slot_kept : (s s2 : Space) (h : ℕ) (u : Option Slot) → count (lies_in h) s2.tables ≡ count (lies_in h) s.tables → count (comes_from h) s2.tables ≡ count (comes_from h) s.tables → tally (one_if h) s2.slots.vacant ≡ tally (one_if h) s.slots.vacant
    → ((i q : ℕ) → u ≡ Some (Evicting i q) → at leaving (page_at s.tables i q) ≡ 1 → at leaving (page_at s2.tables i q) ≡ 1)
    → ((i q : ℕ) → page_at s.tables i q ≡ Some (Coming h) → page_at s2.tables i q ≡ Some (Coming h)) → IsUsed s h u → IsUsed s2 h u
slot_kept s s2 h None a b c d e used = (a ∙ used.0, b ∙ used.1, c ∙ used.2)
slot_kept s s2 h (Some Vacant) a b c d e used = (a ∙ used.0, b ∙ used.1, c ∙ used.2)
slot_kept s s2 h (Some Taken) a b c d e used = (a ∙ used.0, b ∙ used.1, c ∙ used.2)
slot_kept s s2 h (Some (Evicting i q)) a b c d e used = (a ∙ used.0, b ∙ used.1, c ∙ used.2, d i q refl used.3)
slot_kept s s2 h (Some (EvictVoid i)) a b c d e used = (a ∙ used.0, b ∙ used.1, c ∙ used.2)
slot_kept s s2 h (Some (Fetching i q f)) a b c d e used = (a ∙ used.0, b ∙ used.1, c ∙ used.2, e i q used.3)
slot_kept s s2 h (Some (FetchVoid i f)) a b c d e used = (a ∙ used.0, b ∙ used.1, c ∙ used.2)

pub one_at : (s : Space) (i : ℕ) (t u : Occupant) → occupant_at s i t → occupant_at s i u → t ≡ u
one_at s i t u a b = let e : Some (Some t) ≡ Some (Some u) = sym a ∙ b in cc

-- no other slot is that of a page of the same instance that leaves
other_leaver : (s : Space) (j p k h i : ℕ) → SlotsAreSound s → slice_get s.slots.uses k ≡ Some (Evicting j p) → h ≢ k → LeavesBy i (slice_get s.slots.uses h) → i ≢ j
other_leaver s j p k h i sound was other by same =
    let mine = sound.by_one j k (subst (LeavesBy j) (sym was) refl) in
    let here : (t : Occupant) × occupant_at s j t × (t.leaves ≡ Some h) = subst (λ z. (t : Occupant) × occupant_at s z t × (t.leaves ≡ Some h)) same (sound.by_one i h by) in
    let one : here.0 ≡ mine.0 = one_at s j here.0 mine.0 here.1 mine.1 in
    let both : Some h ≡ Some k = sym here.2 ∙ (ap (λ (a : Occupant). a.leaves) one ∙ mine.2) in
    other (cc)

pub slots_returned : (s : Space) (j p k : ℕ) (page old : Page) → SlotsAreSound s → slice_get s.slots.uses k ≡ Some (Evicting j p) → page_at s.tables j p ≡ Some page → as_before page old → SlotsAreSound (not_sent s j p k old)
slots_returned s j p k page old sound was there as_it =
    let s2 : Space = not_sent s j p k old in
    let within = there_of s.slots.uses k (Evicting j p) was in
    let used : IsUsed s k (Some (Evicting j p)) = subst (IsUsed s k) was (sound.used k) in
    let mine = sound.by_one j k (subst (LeavesBy j) (sym was) refl) in
    let split : (h : ℕ) → tally (one_if h) s2.slots.vacant ≡ tally (one_if h) s.slots.vacant + one_if h k = λ h. (let e = tally-append (one_if h) s.slots.vacant (k ∷ []) in omega arith) in
    let here : slice_get s2.slots.uses k ≡ Some Vacant = set_same s.slots.uses k Vacant within in
    let away : (h : ℕ) → h ≢ k → slice_get s2.slots.uses h ≡ slice_get s.slots.uses h = λ h other. set_other s.slots.uses k h Vacant other in
    let lies : (h : ℕ) → count (lies_in h) s2.tables + lies_in h page ≡ count (lies_in h) s.tables + lies_in h old = λ h. put_tally (lies_in h) s.tables j p page old there in
    let comes : (h : ℕ) → count (comes_from h) s2.tables + comes_from h page ≡ count (comes_from h) s.tables + comes_from h old = λ h. put_tally (comes_from h) s.tables j p page old there in
    record {
      used = λ h. (let d = kinds_back page old h as_it in let a = lies h in let b = comes h in let c = split h in elim (here_or k h) [
        | inl same ↦
            (let dk = kinds_back page old k as_it in let ak = lies k in let bk = comes k in let ck = split k in let o = one_same k k refl in
            let is : IsUsed s2 k (Some Vacant) = (omega (arith, ak, dk.2, used.0), omega (arith, bk, dk.3, used.1), omega (arith, ck, o, used.2)) in
            subst (λ q. IsUsed s2 q (slice_get s2.slots.uses q)) (sym same) (subst (IsUsed s2 k) (sym here) is))
        | inr other ↦
            (let o = one_other h k other in
            subst (IsUsed s2 h) (sym (away h (λ e. other e)))
            (slot_kept s s2 h (slice_get s.slots.uses h) (omega (arith, a, d.2)) (omega (arith, b, d.3)) (omega (arith, c, o))
            (λ i q is before. (let apart = other_leaver s j p k h i sound was (λ e. other e) (subst (LeavesBy i) (sym is) refl) in
            let e : page_at s2.tables i q ≡ page_at s.tables i q = ap (λ xs. slice_get xs q) (put_other_row s.tables j p i old apart) in ap (at leaving) e ∙ before))
            (λ i q is. other_value s.tables j p i q page old (Coming h) there d.6 is)
            (sound.used h)))
      ]);
      by_one = λ i h by. elim (here_or k h) [
        | inl same ↦ absurd (subst (LeavesBy i) here (subst (λ q. LeavesBy i (slice_get s2.slots.uses q)) same by))
        | inr other ↦
            (let before : LeavesBy i (slice_get s.slots.uses h) = subst (LeavesBy i) (away h (λ e. other e)) by in
            let apart = other_leaver s j p k h i sound was (λ e. other e) before in
            let found = sound.by_one i h before in
            (found.0, back_away s j i apart ∙ found.1, found.2))
      ];
      by_this = search (rules, back_before, here_or);
      leaving = search (rules, at_put, kinds_back, here_or, put_this);
      voids = λ i h g is. elim (here_or k h) [
        | inl same ↦ absurd (let a : slice_get s2.slots.uses k ≡ Some (FetchVoid i g) = subst (λ z. slice_get s2.slots.uses z ≡ Some (FetchVoid i g)) same is in let bad : Some Vacant ≡ Some (FetchVoid i g) = sym here ∙ a in cc)
        | inr other ↦ (let found = sound.voids i h g (sym (away h (λ a. other a)) ∙ is) in let now = back_after s j i found.0 found.1 in (now.0, now.1, now.2 ∙ found.2))
      ];
      held = sound.held ∙ sym (length-set s.slots.uses k Vacant);
      whole = λ h some. sound.whole h (let d = kinds_back page old h as_it in let a = lies h in let b = comes h in omega (arith, some, a, b, d.2, d.3));
    }

pub is_sound_returned : (s : Space) (j p k : ℕ) (page old : Page) → IsSound s → slice_get s.slots.uses k ≡ Some (Evicting j p) → page_at s.tables j p ≡ Some page → as_before page old → IsSound (not_sent s j p k old)
is_sound_returned s j p k page old sound was there as_it =
    let s2 : Space = not_sent s j p k old in
    let mine = sound.slots.by_one j k (subst (LeavesBy j) (sym was) refl) in
    let own : (g : ℕ) → count (owns g) s2.tables + owns g page ≡ count (owns g) s.tables + owns g old = λ g. put_tally (owns g) s.tables j p page old there in
    let share : (g : ℕ) → sharers s2 g + shares g page ≡ sharers s g + shares g old = λ g. put_tally (shares g) s.tables j p page old there in
    let fetch : (g : ℕ) → tally (fetches_into g) s2.slots.uses + 0 ≡ tally (fetches_into g) s.slots.uses + 0 = λ g. set_tally (fetches_into g) s.slots.uses k (Evicting j p) Vacant was in
    record {
      frames = record {
        one = λ g within. (let a = own g in let b = share g in let c = fetch g in let d = kinds_back page old g as_it in let e = d.0 in let h = d.1 in let one = sound.frames.one g within in omega arith);
        none = λ g past. (let a = own g in let b = share g in let c = fetch g in let d = kinds_back page old g as_it in let e = d.0 in let h = d.1 in let zeros = sound.frames.none g past in omega arith);
        whole = sound.frames.whole;
        marks = sound.frames.marks;
        names = λ g. (let b = share g in let d = kinds_back page old g as_it in let h = d.1 in
            names_other s s2 g (slice_get s.marks g) refl (omega arith) (λ i q is. at_same (owns g) s.tables j p i q page old there d.0 ∙ is) (sound.frames.names g));
        apart = sound.frames.apart;
      };
      slots = slots_returned s j p k page old sound.slots was there as_it;
      occupants = record {
        tables = length-set s.tables j _ ∙ (sound.occupants.tables ∙ sym (length-set s.occupants j _));
        touched = sound.occupants.touched ∙ sym (length-set s.occupants j _);
        have = λ i o is. elim (here_or j i) [
          | inl same ↦
              (let is2 : slice_get s2.occupants j ≡ Some o = subst (λ z. slice_get s2.occupants z ≡ Some o) same is in
              let both : Some o ≡ Some (Some (record mine.0 { leaves = None })) = sym is2 ∙ back_now s j mine.0 mine.1 in
              let one : Some (record mine.0 { leaves = None }) ≡ o = cc in
              let has : HasTable (Some mine.0) (get_or s2.tables j []) = has_still (Some mine.0) (get_or s.tables j []) (get_or s2.tables j []) (row_length s.tables j p old j) (sound.occupants.have j (Some mine.0) mine.1) in
              let has2 : HasTable (Some (record mine.0 { leaves = None })) (get_or s2.tables j []) = (has.0, has.1, has.2, has.3, has.4, has.5, has.6, has.7) in
              subst (λ z. HasTable o (get_or s2.tables z [])) (sym same) (subst (λ z. HasTable z (get_or s2.tables j [])) one has2))
          | inr apart ↦ has_still o (get_or s.tables i []) (get_or s2.tables i []) (row_length s.tables j p old i) (sound.occupants.have i o (sym (back_away s j i apart) ∙ is))
        ];
        marks = λ i. sound.occupants.marks i ∙ sym (row_length s.tables j p old i);
        numbers = search (rules, back_before);
        released = search (rules, back_before, set_tally, here_or, one_other, page_is_live, one_at);
        needs = λ i t need is at_it. (let x = back_before s j mine.0 i t mine.1 is in
            let n = sound.occupants.needs i x.0 need x.1 (x.4 ∙ at_it) in let l = row_length s.tables j p old i in (sym x.3 ∙ n.0, omega (arith, n.1, l), n.2));
      };
      pins = record {
        few = sound.pins.few;
        there = λ i q some. at_same resident s.tables j p i q page old there (kinds_back page old 0 as_it).4 ∙ sound.pins.there i q some;
        of = λ pins is. (let found = sound.pins.of pins is in let now = back_after s j pins.place found.0 found.1 in (now.0, now.1, now.2 ∙ found.2));
      };
      admissible = ((let a = same_sum (λ t. t.min) refl in let b = sound.admissible.0 in omega arith), (let a = same_sum (λ t. (t.max - t.min) + 1) refl in let c = length-set s.slots.uses k Vacant in let b = sound.admissible.1 in omega arith));
    } where
      mine_of : (t : Occupant) × occupant_at s j t × (t.leaves ≡ Some k)
      mine_of = sound.slots.by_one j k (subst (LeavesBy j) (sym was) refl)

      same_sum : (w : Occupant → ℕ) → w (record mine_of.0 { leaves = None }) ≡ w mine_of.0 → tally (of_occupant w) (not_sent s j p k old).occupants ≡ tally (of_occupant w) s.occupants
      same_sum w same =
          let e = get_or_is s.occupants j (Some mine_of.0) None mine_of.1 in
          let sum = set_tally (of_occupant w) s.occupants j (Some mine_of.0) (Some (record mine_of.0 { leaves = None })) mine_of.1 in
          rw e (omega arith)
