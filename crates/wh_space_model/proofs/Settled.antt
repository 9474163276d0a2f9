-- Where only the place of one that was released isn't sound yet, it is once the place is settled.
use Rattle.std.proofs.Common.{◌≡◌, ◌≢◌, ℕ, ◌+◌, ◌*◌, ◌-◌, ◌<◌, ◌≤◌, ◌==◌, ◌⊎◌, inl, inr, cond, true, false, Bool, List, [], Option, Some, None, length, slice_get, get_or, refl, sym, ap, ◌∙◌, subst, arith, length-set, rules}
use Rattle.std.proofs.lemmas.Bool.Decides.{nat_tests}
use Rattle.wh_model.specs.declared.memory.Need.{Need}
use Rattle.wh_space_model.specs.{tally, ticket_of, settled, stays_occupant, FramesAreSound, HasTable, IsAdmissible, IsSound, LeavesBy, PinsAreSound, SlotsAreSound, Occupant, Space, occupant_at, of_occupant}
use Rattle.wh_space_model.proofs.Tally.{one_same}
use Rattle.wh_space_model.specs.declared.states.Page.{Page}
use Rattle.wh_space_model.specs.declared.states.Slot.{Slot}
use Rattle.wh_space_model.specs.declared.states.Slot.TheVariants.{Vacant, Taken, Evicting, EvictVoid, Fetching, FetchVoid}
use Rattle.wh_space_model.proofs.Evicted.{names_other, used_other}
use Rattle.wh_space_model.proofs.Putting.{get_or_is, here_or, set_other, set_same, there_of}
use Rattle.wh_space_model.proofs.Rooms.{get_there}
use Rattle.wh_space_model.proofs.Sums.{get_tally, set_tally}

-- all is sound but that the one at this place may have been released and have no ticket out
pub record IsSoundBut (s : Space) (i : ℕ) : Type 0 where
  pub frames : FramesAreSound s
  pub slots : SlotsAreSound s
  pub pins : PinsAreSound s
  pub admissible : IsAdmissible s
  pub tables : length s.tables ≡ length s.occupants
  pub touched : length s.touched ≡ length s.occupants
  pub have : (j : ℕ) (t : Option Occupant) → slice_get s.occupants j ≡ Some t → HasTable t (get_or s.tables j [])
  pub marks : (j : ℕ) → length (get_or s.touched j []) ≡ length (get_or s.tables j [])
  pub numbers : (j k : ℕ) (t u : Occupant) → occupant_at s j t → occupant_at s k u → t.number ≡ u.number → j ≡ k
  pub released : (j : ℕ) (t : Occupant) → j ≢ i → occupant_at s j t → t.live ≡ false → 1 ≤ tally (ticket_of j) s.slots.uses
  pub needs : (j : ℕ) (t : Occupant) (need : Need) → occupant_at s j t → t.stands ≡ Some need
      → (t.live ≡ true) × (need.at + need.length ≤ 4096 * length (get_or s.tables j [])) × (need.length ≤ 4096)

-- who stays is who was there, and lives or has a ticket out
stays_is : (o : Option Occupant) (n : ℕ) (t : Occupant) → stays_occupant o n ≡ Some t → (o ≡ Some t) × (t.live ≡ false → 1 ≤ n)
stays_is None n t e = absurd (let bad : None ≡ Some t = e in cc)
stays_is (Some u) n t e = go u.live refl (n == 0) refl e where
  more : (n == 0) ≡ false → 1 ≤ n
  more e = grind (arith, nat_tests)

  go : (b : Bool) → u.live ≡ b → (c : Bool) → (n == 0) ≡ c → cond b (Some u) (cond c None (Some u)) ≡ Some t → (Some u ≡ Some t) × (t.live ≡ false → 1 ≤ n)
  go true live c test is = (is, λ gone. absurd (let one : u ≡ t = cc in let bad : true ≡ false = sym live ∙ (ap (λ (a : Occupant). a.live) one ∙ gone) in cc))
  go false live true test is = absurd (let bad : None ≡ Some t = is in cc)
  go false live false test is = (is, λ gone. more test)

stays_there : (t : Occupant) (n : ℕ) → (t.live ≡ true) ⊎ (1 ≤ n) → stays_occupant (Some t) n ≡ Some t
stays_there t n (inl live) = rw live refl
stays_there t n (inr some) = go t.live (n == 0) refl where
  none : (n == 0) ≡ true → ⊥
  none e = grind (arith, nat_tests)

  go : (b c : Bool) → (n == 0) ≡ c → cond b (Some t) (cond c None (Some t)) ≡ Some t
  go true c test = refl
  go false true test = absurd (none test)
  go false false test = refl

settled_away : (s : Space) (i j : ℕ) → j ≢ i → slice_get (settled s i).occupants j ≡ slice_get s.occupants j
settled_away s i j other = set_other s.occupants i j _ other

settled_now : (s : Space) (i : ℕ) (o : Option Occupant) → slice_get s.occupants i ≡ Some o → slice_get (settled s i).occupants i ≡ Some (stays_occupant o (tally (ticket_of i) s.slots.uses))
settled_now s i o is = rw (get_or_is s.occupants i o None is) (set_same s.occupants i (stays_occupant o (tally (ticket_of i) s.slots.uses)) (there_of s.occupants i o is))

settled_there : (s : Space) (i : ℕ) (o : Option Occupant) → slice_get (settled s i).occupants i ≡ Some o → (was : Option Occupant) × (slice_get s.occupants i ≡ Some was) × (stays_occupant was (tally (ticket_of i) s.slots.uses) ≡ o)
settled_there s i o is =
    let within = there_of (settled s i).occupants i o is in
    let was = get_there s.occupants i (let l = length-set s.occupants i (stays_occupant (get_or s.occupants i None) (tally (ticket_of i) s.slots.uses)) in omega arith) in
    (was.0, was.1, (let both : Some (stays_occupant was.0 (tally (ticket_of i) s.slots.uses)) ≡ Some o = sym (settled_now s i was.0 was.1) ∙ is in cc))

-- who is there was there, and if it was released has a ticket out at this place
settled_before : (s : Space) (i j : ℕ) (t : Occupant) → occupant_at (settled s i) j t → occupant_at s j t × (j ≡ i → t.live ≡ false → 1 ≤ tally (ticket_of j) s.slots.uses)
settled_before s i j t is = elim (here_or i j) [
  | inr other ↦ (sym (settled_away s i j (λ e. other e)) ∙ is, λ same. absurd (other same))
  | inl same ↦
      (let now = settled_there s i (Some t) (subst (λ z. occupant_at (settled s i) z t) same is) in
      let stays = stays_is now.0 (tally (ticket_of i) s.slots.uses) t now.2 in
      (subst (λ z. occupant_at s z t) (sym same) (now.1 ∙ ap Some stays.0), λ e gone. subst (λ z. 1 ≤ tally (ticket_of z) s.slots.uses) (sym same) (stays.1 gone)))
]

settled_after : (s : Space) (i j : ℕ) (t : Occupant) → occupant_at s j t → (t.live ≡ true) ⊎ (1 ≤ tally (ticket_of j) s.slots.uses) → occupant_at (settled s i) j t
settled_after s i j t is why = elim (here_or i j) [
  | inr other ↦ settled_away s i j (λ e. other e) ∙ is
  | inl same ↦ search (rules, settled_now, stays_there)
]

-- a ticket with which a page leaves is a ticket of its instance
leaves_ticket : (j : ℕ) (x : Slot) → LeavesBy j (Some x) → 1 ≤ ticket_of j x
leaves_ticket j Vacant by = absurd by
leaves_ticket j Taken by = absurd by
leaves_ticket j (Evicting i p) by = let o = one_same j i (sym by) in omega arith
leaves_ticket j (EvictVoid i) by = let o = one_same j i (sym by) in omega arith
leaves_ticket j (Fetching i p f) by = absurd by
leaves_ticket j (FetchVoid i f) by = absurd by

leaver_ticket : (uses : List Slot) (j k : ℕ) (x : Option Slot) → slice_get uses k ≡ x → LeavesBy j x → 1 ≤ tally (ticket_of j) uses
leaver_ticket uses j k None is by = absurd by
leaver_ticket uses j k (Some x) is by = let a = leaves_ticket j x by in let b = get_tally (ticket_of j) uses k x is in omega arith

pub void_ticket : (uses : List Slot) (j k f : ℕ) → slice_get uses k ≡ Some (FetchVoid j f) → 1 ≤ tally (ticket_of j) uses
void_ticket uses j k f is = let b = get_tally (ticket_of j) uses k (FetchVoid j f) is in let o = one_same j j refl in omega arith

less_of : (w : Occupant → ℕ) (o : Option Occupant) (n : ℕ) → of_occupant w (stays_occupant o n) ≤ of_occupant w o
less_of w None n = omega arith
less_of w (Some t) n = go t.live (n == 0) where
  go : (b c : Bool) → of_occupant w (cond b (Some t) (cond c None (Some t))) ≤ w t
  go true c = omega arith
  go false true = omega arith
  go false false = omega arith

less_sum : (s : Space) (i : ℕ) (w : Occupant → ℕ) → i < length s.occupants → tally (of_occupant w) (settled s i).occupants ≤ tally (of_occupant w) s.occupants
less_sum s i w within =
    let was = get_there s.occupants i within in
    let e = get_or_is s.occupants i was.0 None was.1 in
    let n : ℕ = tally (ticket_of i) s.slots.uses in
    let sum = set_tally (of_occupant w) s.occupants i was.0 (stays_occupant was.0 n) was.1 in
    let less = less_of w was.0 n in
    rw e (omega arith)

-- who is gone has an empty table
gone_table : (o : Option Occupant) (n : ℕ) (row : List Page) → HasTable o row → HasTable (stays_occupant o n) row
gone_table None n row has = has
gone_table (Some t) n row has = go t.live refl (n == 0) where
  go : (b : Bool) → t.live ≡ b → (c : Bool) → HasTable (cond b (Some t) (cond c None (Some t))) row
  go true live c = has
  go false live true = has.3 live
  go false live false = has

pub is_sound_settled : (s : Space) (i : ℕ) → i < length s.occupants → IsSoundBut s i → IsSound (settled s i)
is_sound_settled s i within sound =
    let s2 : Space = settled s i in
    record {
      frames = search (rules, names_other);
      slots = record {
        used = λ k. used_other s s2 k (slice_get s.slots.uses k) refl refl refl (λ j q is. is) (λ j q is. is) (sound.slots.used k);
        by_one = λ j k by. (let found = sound.slots.by_one j k by in (found.0, settled_after s i j found.0 found.1 (inr (leaver_ticket s.slots.uses j k (slice_get s.slots.uses k) refl by)), found.2));
        by_this = λ j k t is at_it. sound.slots.by_this j k t (settled_before s i j t is).0 at_it;
        leaving = sound.slots.leaving;
        voids = λ j k f is. (let found = sound.slots.voids j k f is in (found.0, settled_after s i j found.0 found.1 (inr (void_ticket s.slots.uses j k f is)), found.2));
        held = sound.slots.held;
        whole = sound.slots.whole;
      };
      occupants = record {
        tables = sound.tables ∙ sym (length-set s.occupants i _);
        touched = sound.touched ∙ sym (length-set s.occupants i _);
        have = λ j o is. elim (here_or i j) [
          | inr other ↦ sound.have j o (sym (settled_away s i j (λ e. other e)) ∙ is)
          | inl same ↦
              (let now = settled_there s i o (subst (λ z. slice_get s2.occupants z ≡ Some o) same is) in
              let has = gone_table now.0 (tally (ticket_of i) s.slots.uses) (get_or s.tables i []) (sound.have i now.0 now.1) in
              subst (λ z. HasTable o (get_or s.tables z [])) (sym same) (subst (λ z. HasTable z (get_or s.tables i [])) now.2 has))
        ];
        marks = sound.marks;
        numbers = λ j k t u a b same. sound.numbers j k t u (settled_before s i j t a).0 (settled_before s i k u b).0 same;
        released = λ j t is gone. (let before = settled_before s i j t is in elim (here_or i j) [
          | inl same ↦ before.1 same gone
          | inr other ↦ sound.released j t (λ e. other e) before.0 gone
        ]);
        needs = λ j t need is at_it. sound.needs j t need (settled_before s i j t is).0 at_it;
      };
      pins = search (rules, settled_after);
      admissible = ((let a = less_sum s i (λ t. t.min) within in let b = sound.admissible.0 in omega arith), (let a = less_sum s i (λ t. (t.max - t.min) + 1) within in let b = sound.admissible.1 in omega arith));
    }
