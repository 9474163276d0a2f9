-- Moves that change marks of touch, who stands, or what a slot holds leave everything sound.
use Rattle.std.proofs.Common.{◌≡◌, ◌≢◌, ℕ, ◌+◌, ◌*◌, ◌-◌, ◌≤◌, ◌⊎◌, inl, inr, cond, map, true, false, Bool, List, [], ◌∷◌, Option, Some, None, length, slice_get, slice_set, get_or, zero, suc, refl, sym, ◌∙◌, subst, arith, length-set, rules}
use Rattle.std.proofs.lemmas.List.{get_or-set_other}
use Rattle.wh_model.specs.declared.memory.Need.{Need}
use Rattle.wh_model.specs.Execution.{reading}
use Rattle.wh_space_model.specs.{tally, EndsSoundly, EpochsSoundly, WaitsSoundly, TouchesSoundly, WritesSoundly, HasTable, IsSound, IsUsed, IsEvicting, with_held, Occupant, Space, occupant_at, of_occupant, comes_from, count, lies_in, put, has_pins, unpinned, pages_of_need, stood, touching}
use Rattle.wh_space_model.specs.declared.states.Slot.TheVariants.{Evicting, EvictVoid}
use Rattle.wh_space_model.proofs.Putting.{get_or_is, here_or, set_other, set_same, there_of}
use Rattle.wh_space_model.proofs.Reserved.{is_sound_unpinned}
use Rattle.wh_space_model.proofs.Evicted.{mark_length, names_other, used_other}
use Rattle.wh_space_model.proofs.Sums.{set_tally}

-- other marks of touch, and other bytes in slots
retouched : Space → List (List Bool) → List (List ℕ) → Space
retouched s touched held = record s { touched = touched; slots = record s.slots { held = held } }

is_sound_retouched : (s : Space) (touched : List (List Bool)) (held : List (List ℕ)) → IsSound s → length touched ≡ length s.touched
    → ((i : ℕ) → length (get_or touched i []) ≡ length (get_or s.touched i [])) → length held ≡ length s.slots.held
    → ((k : ℕ) → 1 ≤ count (lies_in k) s.tables + count (comes_from k) s.tables → get_or held k [] ≡ get_or s.slots.held k []) → IsSound (retouched s touched held)
unfolding retouched
is_sound_retouched s touched held sound many each slots same = record {
  frames = search (rules, names_other, retouched);
  slots = search (rules, used_other, retouched);
  occupants = search rules;
  pins = record { few = sound.pins.few; there = sound.pins.there; of = sound.pins.of };
  admissible = sound.admissible;
}

touching_length : (touched : List (List Bool)) (i : ℕ) (ps : List ℕ) → length (touching touched i ps) ≡ length touched
touching_length touched i [] = refl
touching_length touched i (p ∷ ps) = length-set (touching touched i ps) i _ ∙ touching_length touched i ps

touching_row : (touched : List (List Bool)) (i j : ℕ) (ps : List ℕ) → length (get_or (touching touched i ps) j []) ≡ length (get_or touched j [])
touching_row touched i j [] = refl
touching_row touched i j (p ∷ ps) = mark_length (touching touched i ps) i p true j ∙ touching_row touched i j ps

mapped_length : {X Y : Type 0} (g : X → Y) (xs : List X) → length (map g xs) ≡ length xs
mapped_length g [] = refl
mapped_length g (x ∷ xs) = let e = mapped_length g xs in omega arith

untouched_row : (touched : List (List Bool)) (j : ℕ) → length (get_or (map (map (λ mark. false)) touched) j []) ≡ length (get_or touched j [])
untouched_row [] j = refl
untouched_row (row ∷ touched) zero = mapped_length (λ mark. false) row
untouched_row (row ∷ touched) (suc j) = untouched_row touched j

pub touches_soundly : TouchesSoundly
unfolding retouched
touches_soundly s i first n s2 sound is =
    let touched : List (List Bool) = touching s.touched i (pages_of_need (reading first n)) in
    subst IsSound (sym is) (is_sound_retouched s touched s.slots.held sound (touching_length s.touched i (pages_of_need (reading first n))) (λ j. touching_row s.touched i j (pages_of_need (reading first n))) refl (λ k some. refl))

pub epochs_soundly : EpochsSoundly
unfolding retouched
epochs_soundly s s2 sound is =
    subst IsSound (sym is) (is_sound_retouched s (map (map (λ mark. false)) s.touched) s.slots.held sound (mapped_length (map (λ mark. false)) s.touched) (λ j. untouched_row s.touched j) refl (λ k some. refl))

-- a slot in which no page lies may hold anything
pub held_soundly : (s : Space) (k : ℕ) (bytes : List ℕ) → IsSound s → count (lies_in k) s.tables ≡ 0 → count (comes_from k) s.tables ≡ 0 → IsSound (with_held s k bytes)
unfolding retouched
held_soundly s k bytes sound lies comes =
    is_sound_retouched s s.touched (slice_set s.slots.held k bytes) sound refl (λ j. refl) (length-set s.slots.held k _)
    (λ h some. elim (here_or k h) [
      | inr other ↦ get_or-set_other s.slots.held k h bytes [] (λ e. other e)
      | inl same ↦ absurd (let more : 1 ≤ count (lies_in k) s.tables + count (comes_from k) s.tables = subst (λ z. 1 ≤ count (lies_in z) s.tables + count (comes_from z) s.tables) same some in omega (arith, lies, comes))
    ])

pub writes_soundly : WritesSoundly
writes_soundly s k bytes wrote s2 sound (evicting, is) =
    let none = alone evicting in
    subst IsSound (sym is) (held_soundly s k (cond wrote bytes []) sound none.0 none.1) where
      alone : IsEvicting s k → (count (lies_in k) s.tables ≡ 0) × (count (comes_from k) s.tables ≡ 0)
      alone (inl (j, p, at_it)) = (let used : IsUsed s k (Some (Evicting j p)) = subst (IsUsed s k) at_it (sound.slots.used k) in (used.0, used.1))
      alone (inr (j, at_it)) = (let used : IsUsed s k (Some (EvictVoid j)) = subst (IsUsed s k) at_it (sound.slots.used k) in (used.0, used.1))

-- the occupant of another place is who it was; that of this one is blocked on something else
stood_now : (s : Space) (i : ℕ) (need : Option Need) (t : Occupant) → occupant_at s i t → occupant_at (stood s i need) i (record t { stands = need })
stood_now s i need t is = rw (get_or_is s.occupants i (Some t) None is) (set_same s.occupants i (Some (record t { stands = need })) (there_of s.occupants i (Some t) is))

stood_away : (s : Space) (i : ℕ) (need : Option Need) (j : ℕ) → j ≢ i → slice_get (stood s i need).occupants j ≡ slice_get s.occupants j
stood_away s i need j other = set_other s.occupants i j _ other

-- who was there before
stood_before : (s : Space) (i : ℕ) (need : Option Need) (mine : Occupant) (j : ℕ) (t : Occupant) → occupant_at s i mine → occupant_at (stood s i need) j t
    → (u : Occupant) × occupant_at s j u × (u.number ≡ t.number) × (u.live ≡ t.live) × (u.leaves ≡ t.leaves) × (((j ≢ i) × (t.stands ≡ u.stands)) ⊎ ((j ≡ i) × (t.stands ≡ need)))
stood_before s i need mine j t was is =
    elim (here_or i j) [
      | inr apart ↦ (t, sym (stood_away s i need j apart) ∙ is, refl, refl, refl, inl (apart, refl))
      | inl same ↦ search (rules, stood_now)
    ]

-- and who is there now
stood_after : (s : Space) (i : ℕ) (need : Option Need) (j : ℕ) (u : Occupant) → occupant_at s j u → (t : Occupant) × occupant_at (stood s i need) j t × (t.live ≡ u.live) × (t.leaves ≡ u.leaves)
stood_after s i need j u is =
    elim (here_or i j) [
      | inr apart ↦ (u, stood_away s i need j apart ∙ is, refl, refl)
      | inl same ↦
          (let is2 : occupant_at s i u = subst (λ z. occupant_at s z u) same is in
          (record u { stands = need }, subst (λ z. occupant_at (stood s i need) z (record u { stands = need })) (sym same) (stood_now s i need u is2), refl, refl))
    ]

pub waits_soundly : WaitsSoundly
waits_soundly s i mine need sound was fits =
    let s2 : Space = stood s i need in
    record {
      frames = search (rules, names_other);
      slots = record {
        used = λ k. used_other s s2 k (slice_get s.slots.uses k) refl refl refl (λ i q is. is) (λ i q is. is) (sound.slots.used k);
        by_one = λ j k by. (let found = sound.slots.by_one j k by in let now = stood_after s i need j found.0 found.1 in (now.0, now.1, now.3 ∙ found.2));
        by_this = λ j k t is at_it. (let before = stood_before s i need mine j t was is in sound.slots.by_this j k before.0 before.1 (before.4 ∙ at_it));
        leaving = sound.slots.leaving;
        voids = λ j k f is. (let found = sound.slots.voids j k f is in let now = stood_after s i need j found.0 found.1 in (now.0, now.1, now.2 ∙ found.2));
        held = sound.slots.held;
        whole = sound.slots.whole;
      };
      occupants = record {
        tables = sound.occupants.tables ∙ sym (length-set s.occupants i _);
        touched = sound.occupants.touched ∙ sym (length-set s.occupants i _);
        have = λ j o is. elim (here_or i j) [
          | inr apart ↦ sound.occupants.have j o (sym (stood_away s i need j apart) ∙ is)
          | inl same ↦
              (let is2 : slice_get s2.occupants i ≡ Some o = subst (λ z. slice_get s2.occupants z ≡ Some o) same is in
              let both : Some o ≡ Some (Some (record mine { stands = need })) = sym is2 ∙ stood_now s i need mine was in
              let one : Some (record mine { stands = need }) ≡ o = cc in
              let has : HasTable (Some mine) (get_or s.tables i []) = sound.occupants.have i (Some mine) was in
              let has2 : HasTable (Some (record mine { stands = need })) (get_or s.tables i []) = (has.0, has.1, has.2, has.3, has.4, has.5, has.6, has.7) in
              subst (λ z. HasTable o (get_or s2.tables z [])) (sym same) (subst (λ z. HasTable z (get_or s2.tables i [])) one has2))
        ];
        marks = sound.occupants.marks;
        numbers = λ j h t u a b same. (let x = stood_before s i need mine j t was a in let y = stood_before s i need mine h u was b in sound.occupants.numbers j h x.0 y.0 x.1 y.1 (x.2 ∙ (same ∙ sym y.2)));
        released = λ j t is gone. (let x = stood_before s i need mine j t was is in sound.occupants.released j x.0 x.1 (x.3 ∙ gone));
        needs = λ j t want is at_it. (let x = stood_before s i need mine j t was is in elim x.5 [
          | inl other ↦ (let n = sound.occupants.needs j x.0 want x.1 (sym other.1 ∙ at_it) in (sym x.3 ∙ n.0, n.1, n.2))
          | inr here ↦ search rules
        ]);
      };
      pins = record {
        few = sound.pins.few;
        there = sound.pins.there;
        of = λ pins is. (let found = sound.pins.of pins is in let now = stood_after s i need pins.place found.0 found.1 in (now.0, now.1, now.2 ∙ found.2));
      };
      admissible = ((let a = same_sum (λ t. t.min) refl in let b = sound.admissible.0 in omega arith), (let a = same_sum (λ t. (t.max - t.min) + 1) refl in let b = sound.admissible.1 in omega arith));
    } where
      same_sum : (w : Occupant → ℕ) → w (record mine { stands = need }) ≡ w mine → tally (of_occupant w) (stood s i need).occupants ≡ tally (of_occupant w) s.occupants
      same_sum w same =
          let e = get_or_is s.occupants i (Some mine) None was in
          let sum = set_tally (of_occupant w) s.occupants i (Some mine) (Some (record mine { stands = need })) was in
          rw e (omega arith)

pub ends_soundly : EndsSoundly
ends_soundly s i mine sound was = go (has_pins s.pins i) where
  now : IsSound (stood s i None)
  now = waits_soundly s i mine None sound was (λ want is. absurd (let bad : None ≡ Some want = is in cc))

  go : (b : Bool) → IsSound (cond b (unpinned (stood s i None)) (stood s i None))
  go true = is_sound_unpinned (stood s i None) now
  go false = now

-- one page isn't touched any more
pub untouched_soundly : (s : Space) (i p : ℕ) → IsSound s → IsSound (record s { touched = put s.touched i p false })
unfolding retouched
untouched_soundly s i p sound =
    is_sound_retouched s (put s.touched i p false) s.slots.held sound (length-set s.touched i _) (λ j. mark_length s.touched i p false j) refl (λ k some. refl)

-- or is
pub touched_soundly : (s : Space) (i p : ℕ) → IsSound s → IsSound (record s { touched = put s.touched i p true })
unfolding retouched
touched_soundly s i p sound =
    is_sound_retouched s (put s.touched i p true) s.slots.held sound (length-set s.touched i _) (λ j. mark_length s.touched i p true j) refl (λ k some. refl)
