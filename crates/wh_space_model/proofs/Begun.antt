-- A page that begins to leave leaves everything sound.
use Rattle.std.proofs.Common.{◌≡◌, ◌≢◌, ℕ, ◌+◌, ◌-◌, ◌++◌, ◌⊎◌, inl, inr, List, [], ◌∷◌, Some, None, slice_get, get_or, refl, sym, ap, ◌∙◌, subst, arith, length-set, rules}
use Rattle.wh_space_model.specs.{tally, one_if, CanLeave, fetches_into, ticket_of, Space, Occupant, occupant_at, sharers, of_occupant, IsSound, FramesAreSound, SlotsAreSound, OccupantsAreSound, IsUsed, LeavesBy, HasTable, at, page_at, put, owns, shares, lies_in, comes_from, resident, leaving, count, departing, as_leaving}
use Rattle.wh_space_model.proofs.Tally.{one_same, one_other, tally-append}
use Rattle.wh_space_model.specs.declared.states.Page.{Page}
use Rattle.wh_space_model.specs.declared.states.Page.TheVariants.{Untouched, Private, Shared, Leaving, LeavingShared, Coming, Swapped}
use Rattle.wh_space_model.specs.declared.states.Slot.TheVariants.{Vacant, Evicting, FetchVoid}
use Rattle.wh_space_model.proofs.Evicted.{names_other, used_other, other_value, vacant_is, row_length, has_still}
use Rattle.wh_space_model.proofs.Putting.{get_or_is, set_same, set_other, there_of, here_or, put_this, put_other, put_other_row}
use Rattle.wh_space_model.proofs.Slotting.{vacant_there}
use Rattle.wh_space_model.proofs.Sums.{set_tally, put_tally}

-- a page that begins to leave is in all else what it was
kinds : (old new : Page) (n : ℕ) → as_leaving old new → (owns n new ≡ owns n old) × (shares n new ≡ shares n old) × (lies_in n new ≡ lies_in n old) × (comes_from n new ≡ comes_from n old) × (resident new ≡ resident old) × (leaving new ≡ 1) × (old ≢ Coming n)
kinds (Private f) new n e = (rw e refl, rw e refl, rw e refl, rw e refl, rw e refl, rw e refl, λ c. (let bad : Private f ≡ Coming n = c in cc))
kinds (Shared f) new n e = (rw e refl, rw e refl, rw e refl, rw e refl, rw e refl, rw e refl, λ c. (let bad : Shared f ≡ Coming n = c in cc))
kinds Untouched new n e = absurd e
kinds (Leaving f) new n e = absurd e
kinds (LeavingShared f) new n e = absurd e
kinds (Coming k) new n e = absurd e
kinds (Swapped k) new n e = absurd e

pub at_put : (w : Page → ℕ) (t : List (List Page)) (j p i q : ℕ) (x y : Page) → page_at t j p ≡ Some x
    → (((i ≡ j) × (q ≡ p) × (at w (page_at (put t j p y) i q) ≡ w y)) ⊎ (page_at (put t j p y) i q ≡ page_at t i q))
at_put w t j p i q x y there = search (rules, here_or, put_other_row, put_other, put_this)

pub at_same : (w : Page → ℕ) (t : List (List Page)) (j p i q : ℕ) (x y : Page) → page_at t j p ≡ Some x → w y ≡ w x → at w (page_at (put t j p y) i q) ≡ at w (page_at t i q)
at_same w t j p i q x y there same = search (rules, at_put)

pub frames_begun : (s : Space) (j p k : ℕ) (others : List ℕ) (old new : Page) → FramesAreSound s → page_at s.tables j p ≡ Some old → as_leaving old new → slice_get s.slots.uses k ≡ Some Vacant → FramesAreSound (departing s j p k others new)
frames_begun s j p k others old new sound there as_it vacant =
    let s2 : Space = departing s j p k others new in
    let own : (g : ℕ) → count (owns g) s2.tables + owns g old ≡ count (owns g) s.tables + owns g new = λ g. put_tally (owns g) s.tables j p old new there in
    let share : (g : ℕ) → sharers s2 g + shares g old ≡ sharers s g + shares g new = λ g. put_tally (shares g) s.tables j p old new there in
    let fetch : (g : ℕ) → tally (fetches_into g) s2.slots.uses + 0 ≡ tally (fetches_into g) s.slots.uses + 0 = λ g. set_tally (fetches_into g) s.slots.uses k Vacant (Evicting j p) vacant in
    record {
      one = λ g within. (let a = own g in let b = share g in let c = fetch g in let d = kinds old new g as_it in let e = d.0 in let h = d.1 in let one = sound.one g within in omega arith);
      none = λ g past. (let a = own g in let b = share g in let c = fetch g in let d = kinds old new g as_it in let e = d.0 in let h = d.1 in let zeros = sound.none g past in omega arith);
      whole = sound.whole;
      marks = sound.marks;
      names = λ g. (let b = share g in let d = kinds old new g as_it in let h = d.1 in
          names_other s s2 g (slice_get s.marks g) refl (omega arith) (λ i q is. at_same (owns g) s.tables j p i q old new there d.0 ∙ is) (sound.names g));
      apart = sound.apart;
    }

-- the tenant whose page leaves, and all others
occupant_now : (s : Space) (j p k : ℕ) (others : List ℕ) (new : Page) (t : Occupant) → occupant_at s j t → occupant_at (departing s j p k others new) j (record t { leaves = Some k })
occupant_now s j p k others new t is = search (rules, get_or_is, set_same, there_of)

occupant_away : (s : Space) (j p k : ℕ) (others : List ℕ) (new : Page) (i : ℕ) → i ≢ j → slice_get (departing s j p k others new).occupants i ≡ slice_get s.occupants i
occupant_away s j p k others new i other = set_other s.occupants j i _ other

pub slots_begun : (s : Space) (j p k : ℕ) (others : List ℕ) (old new : Page) → SlotsAreSound s → CanLeave s j p → page_at s.tables j p ≡ Some old → as_leaving old new → s.slots.vacant ≡ others ++ k ∷ [] → SlotsAreSound (departing s j p k others new)
slots_begun s j p k others old new sound leaves there as_it list =
    let s2 : Space = departing s j p k others new in
    let vacant = vacant_there s k others sound list in
    let within = there_of s.slots.uses k Vacant vacant in
    let was = vacant_is s k (sound.used k) vacant in
    let split : (h : ℕ) → tally (one_if h) s.slots.vacant ≡ tally (one_if h) others + one_if h k = λ h. rw list (let e = tally-append (one_if h) others (k ∷ []) in omega arith) in
    let here : slice_get s2.slots.uses k ≡ Some (Evicting j p) = set_same s.slots.uses k (Evicting j p) within in
    let away : (h : ℕ) → h ≢ k → slice_get s2.slots.uses h ≡ slice_get s.slots.uses h = λ h other. set_other s.slots.uses k h (Evicting j p) other in
    let lies : (h : ℕ) → count (lies_in h) s2.tables + lies_in h old ≡ count (lies_in h) s.tables + lies_in h new = λ h. put_tally (lies_in h) s.tables j p old new there in
    let comes : (h : ℕ) → count (comes_from h) s2.tables + comes_from h old ≡ count (comes_from h) s.tables + comes_from h new = λ h. put_tally (comes_from h) s.tables j p old new there in
    let now : at leaving (page_at s2.tables j p) ≡ 1 = ap (at leaving) (put_this s.tables j p old new there) ∙ (kinds old new 0 as_it).5 in
    let mine : Occupant = leaves.2.0 in
    record {
      used = λ h. (let d = kinds old new h as_it in let a = lies h in let b = comes h in let c = split h in elim (here_or k h) [
        | inl same ↦
            (let dk = kinds old new k as_it in let ak = lies k in let bk = comes k in let ck = split k in let o = one_same k k refl in
            let is : IsUsed s2 k (Some (Evicting j p)) = (omega (arith, ak, dk.2, was.0), omega (arith, bk, dk.3, was.1), omega (arith, ck, o, was.2), now) in
            subst (λ q. IsUsed s2 q (slice_get s2.slots.uses q)) (sym same) (subst (IsUsed s2 k) (sym here) is))
        | inr other ↦ search (rules, one_other, used_other, at_put, other_value)
      ]);
      by_one = λ i h by. elim (here_or k h) [
        | inl same ↦
            (let e : j ≡ i = subst (LeavesBy i) here (subst (λ q. LeavesBy i (slice_get s2.slots.uses q)) same by) in
            let t2 : Occupant = record mine { leaves = Some k } in
            let is : occupant_at s2 i t2 = subst (λ z. occupant_at s2 z t2) e (occupant_now s j p k others new mine leaves.2.1) in
            (t2, is, ap Some (sym same)))
        | inr other ↦
            (let found = sound.by_one i h (subst (LeavesBy i) (away h (λ e. other e)) by) in
            elim (here_or j i) [
              | inl same ↦ absurd (let is : occupant_at s j found.0 = subst (λ z. occupant_at s z found.0) same found.1 in let one : found.0 ≡ mine = one_occupant s j found.0 mine is leaves.2.1 in let bad : Some h ≡ None = sym found.2 ∙ (ap (λ (t : Occupant). t.leaves) one ∙ leaves.2.2) in cc)
              | inr apart ↦ (found.0, occupant_away s j p k others new i apart ∙ found.1, found.2)
            ])
      ];
      by_this = λ i h t is at_it. elim (here_or j i) [
        | inl same ↦
            (let is2 : occupant_at s2 j t = subst (λ z. occupant_at s2 z t) same is in
            let one : t ≡ record mine { leaves = Some k } = one_occupant s2 j t (record mine { leaves = Some k }) is2 (occupant_now s j p k others new mine leaves.2.1) in
            let slot : Some k ≡ Some h = sym (ap (λ (t : Occupant). t.leaves) one) ∙ at_it in
            let e : k ≡ h = cc in
            subst (λ q. LeavesBy i (slice_get s2.slots.uses q)) e (subst (LeavesBy i) (sym here) (sym same)))
        | inr apart ↦
            (let by = sound.by_this i h t (sym (occupant_away s j p k others new i apart) ∙ is) at_it in
            elim (here_or k h) [
              | inl same ↦ absurd (subst (LeavesBy i) vacant (subst (λ q. LeavesBy i (slice_get s.slots.uses q)) same by))
              | inr other ↦ subst (LeavesBy i) (sym (away h (λ e. other e))) by
            ])
      ];
      leaving = search (rules, at_put, here_or);
      voids = λ i h g is. elim (here_or k h) [
        | inl same ↦ absurd (let a : slice_get s2.slots.uses k ≡ Some (FetchVoid i g) = subst (λ z. slice_get s2.slots.uses z ≡ Some (FetchVoid i g)) same is in let bad : Some (Evicting j p) ≡ Some (FetchVoid i g) = sym here ∙ a in cc)
        | inr other ↦
            (let found = sound.voids i h g (sym (away h (λ a. other a)) ∙ is) in
            elim (here_or j i) [
              | inl same ↦ (let u : occupant_at s j found.0 = subst (λ z. occupant_at s z found.0) same found.1 in (record found.0 { leaves = Some k }, subst (λ z. occupant_at s2 z (record found.0 { leaves = Some k })) (sym same) (occupant_now s j p k others new found.0 u), found.2))
              | inr apart ↦ (found.0, occupant_away s j p k others new i apart ∙ found.1, found.2)
            ])
      ];
      held = sound.held ∙ sym (length-set s.slots.uses k (Evicting j p));
      whole = λ h some. sound.whole h (let d = kinds old new h as_it in let a = lies h in let b = comes h in omega (arith, some, a, b, d.2, d.3));
    } where
      one_occupant : (s : Space) (j : ℕ) (t u : Occupant) → occupant_at s j t → occupant_at s j u → t ≡ u
      one_occupant s j t u a b = let e : Some (Some t) ≡ Some (Some u) = sym a ∙ b in cc

-- what a tenant was before
occupant_before : (s : Space) (j p k : ℕ) (others : List ℕ) (new : Page) (mine : Occupant) (i : ℕ) (t : Occupant) → occupant_at s j mine → occupant_at (departing s j p k others new) i t → (u : Occupant) × occupant_at s i u × (u.number ≡ t.number) × (u.live ≡ t.live) × (u.stands ≡ t.stands)
occupant_before s j p k others new mine i t was is =
    elim (here_or j i) [
      | inr apart ↦ (t, sym (occupant_away s j p k others new i apart) ∙ is, refl, refl, refl)
      | inl same ↦
          (let is2 : occupant_at (departing s j p k others new) j t = subst (λ z. occupant_at (departing s j p k others new) z t) same is in
          let both : Some (Some t) ≡ Some (Some (record mine { leaves = Some k })) = sym is2 ∙ occupant_now s j p k others new mine was in
          let one : t ≡ record mine { leaves = Some k } = cc in
          (mine, subst (λ z. occupant_at s z mine) (sym same) was, ap (λ (a : Occupant). a.number) (sym one), ap (λ (a : Occupant). a.live) (sym one), ap (λ (a : Occupant). a.stands) (sym one)))
    ]

pub occupants_begun : (s : Space) (j p k : ℕ) (others : List ℕ) (old new : Page) → OccupantsAreSound s → CanLeave s j p → slice_get s.slots.uses k ≡ Some Vacant → OccupantsAreSound (departing s j p k others new)
occupants_begun s j p k others old new sound leaves vacant =
    let s2 : Space = departing s j p k others new in
    let mine : Occupant = leaves.2.0 in
    record {
      tables = length-set s.tables j _ ∙ (sound.tables ∙ sym (length-set s.occupants j _));
      touched = sound.touched ∙ sym (length-set s.occupants j _);
      have = λ i o is. elim (here_or j i) [
        | inl same ↦
            (let is2 : slice_get s2.occupants j ≡ Some o = subst (λ z. slice_get s2.occupants z ≡ Some o) same is in
            let both : Some o ≡ Some (Some (record mine { leaves = Some k })) = sym is2 ∙ occupant_now s j p k others new mine leaves.2.1 in
            let one : Some (record mine { leaves = Some k }) ≡ o = cc in
            let has : HasTable (Some mine) (get_or s2.tables j []) = has_still (Some mine) (get_or s.tables j []) (get_or s2.tables j []) (row_length s.tables j p new j) (sound.have j (Some mine) leaves.2.1) in
            let has2 : HasTable (Some (record mine { leaves = Some k })) (get_or s2.tables j []) = (has.0, has.1, has.2, has.3, has.4, has.5, has.6, has.7) in
            subst (λ z. HasTable o (get_or s2.tables z [])) (sym same) (subst (λ z. HasTable z (get_or s2.tables j [])) one has2))
        | inr apart ↦ has_still o (get_or s.tables i []) (get_or s2.tables i []) (row_length s.tables j p new i) (sound.have i o (sym (occupant_away s j p k others new i apart) ∙ is))
      ];
      marks = λ i. sound.marks i ∙ sym (row_length s.tables j p new i);
      numbers = λ i h t u a b same. (let x = occupant_before s j p k others new mine i t leaves.2.1 a in let y = occupant_before s j p k others new mine h u leaves.2.1 b in
          sound.numbers i h x.0 y.0 x.1 y.1 (x.2 ∙ (same ∙ sym y.2)));
      released = λ i t is gone. (let x = occupant_before s j p k others new mine i t leaves.2.1 is in
          let before = sound.released i x.0 x.1 (x.3 ∙ gone) in
          let more = set_tally (ticket_of i) s.slots.uses k Vacant (Evicting j p) vacant in omega arith);
      needs = λ i t need is at_it. (let x = occupant_before s j p k others new mine i t leaves.2.1 is in
          let n = sound.needs i x.0 need x.1 (x.4 ∙ at_it) in let l = row_length s.tables j p new i in (sym x.3 ∙ n.0, omega (arith, n.1, l), n.2));
    }

-- a page that begins to leave leaves everything sound
pub is_sound_begun : (s : Space) (j p k : ℕ) (others : List ℕ) (old new : Page) → IsSound s → CanLeave s j p → page_at s.tables j p ≡ Some old → as_leaving old new → s.slots.vacant ≡ others ++ k ∷ [] → IsSound (departing s j p k others new)
is_sound_begun s j p k others old new sound leaves there as_it list =
    let vacant = vacant_there s k others sound.slots list in
    let s2 : Space = departing s j p k others new in
    record {
      frames = frames_begun s j p k others old new sound.frames there as_it vacant;
      slots = slots_begun s j p k others old new sound.slots leaves there as_it list;
      occupants = occupants_begun s j p k others old new sound.occupants leaves vacant;
      pins = record {
        few = sound.pins.few;
        there = λ i q some. at_same resident s.tables j p i q old new there (kinds old new 0 as_it).4 ∙ sound.pins.there i q some;
        of = λ pins is. (let found = sound.pins.of pins is in
            elim (here_or j pins.place) [
              | inl same ↦ (let u : occupant_at s j found.0 = subst (λ z. occupant_at s z found.0) same found.1 in (record found.0 { leaves = Some k }, subst (λ z. occupant_at s2 z (record found.0 { leaves = Some k })) (sym same) (occupant_now s j p k others new found.0 u), found.2))
              | inr apart ↦ (found.0, occupant_away s j p k others new pins.place apart ∙ found.1, found.2)
            ]);
      };
      admissible = ((let a = same_sum (λ t. t.min) refl in let b = sound.admissible.0 in omega arith), (let a = same_sum (λ t. (t.max - t.min) + 1) refl in let c = length-set s.slots.uses k (Evicting j p) in let b = sound.admissible.1 in omega arith));
    } where
      same_sum : (w : Occupant → ℕ) → w (record leaves.2.0 { leaves = Some k }) ≡ w leaves.2.0 → tally (of_occupant w) (departing s j p k others new).occupants ≡ tally (of_occupant w) s.occupants
      same_sum w same =
          let e = get_or_is s.occupants j (Some leaves.2.0) None leaves.2.1 in
          let sum = set_tally (of_occupant w) s.occupants j (Some leaves.2.0) (Some (record leaves.2.0 { leaves = Some k })) leaves.2.1 in
          rw e (omega arith)
