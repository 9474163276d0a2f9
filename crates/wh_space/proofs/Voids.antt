-- The ticket with which a page was leaving that is written.
use Rattle.std.proofs.Common.{◌≡◌, ◌<◌, ℕ, List, [], ◌∷◌, Option, Some, None, IfSome, length, get_or, map, slice_get, slice_set, zero, suc, refl, sym, ◌∙◌, ap, subst, rules}
use Rattle.wh_space_model.specs.{tally, voided, ticket_of, Occupant, Space, LeavesBy, SlotsAreSound, leaving, page_at}
use Rattle.wh_space_model.specs.declared.states.Page.{Page}
use Rattle.wh_space_model.specs.declared.states.Page.TheVariants.{Untouched, Private, Shared, Leaving, LeavingShared, Coming, Swapped}
use Rattle.wh_space_model.specs.declared.states.Slot.{Slot}
use Rattle.wh_space_model.specs.declared.states.Slot.TheVariants.{Vacant, Evicting, EvictVoid}
use Rattle.wh_space_model.proofs.Breaking.{void_same}
use Rattle.wh_space_model.proofs.Putting.{get_or_is, there_of}
use Rattle.wh_space.specs.declared.occupant_entry.OccupantEntry.{OccupantEntry}
use Rattle.wh_space.specs.declared.memory.Memory.TheInside.{Inside}
use Rattle.wh_space.specs.Parts.{occupant_of, space_of}
use Rattle.wh_space.specs.Slotting.{leaver_of, void_use, voids_leaver, voids_slot}

-- ---- who leaves by which slot

pub leaver_is : (occupant_entries : List (Option OccupantEntry)) (i : ℕ) (t : Occupant) → slice_get (map occupant_of occupant_entries) i ≡ Some (Some t) → leaver_of (get_or occupant_entries i None) ≡ t.leaves
leaver_is [] i t is = absurd (cc is)
leaver_is (None ∷ occupant_entries) zero t is = absurd (cc is)
leaver_is (Some g ∷ occupant_entries) zero t is = search rules
leaver_is (x ∷ occupant_entries) (suc i) t is = leaver_is occupant_entries i t is

pub leaver_there : (occupant_entries : List (Option OccupantEntry)) (i k : ℕ) → leaver_of (get_or occupant_entries i None) ≡ Some k → (t : Occupant) × (slice_get (map occupant_of occupant_entries) i ≡ Some (Some t)) × (t.leaves ≡ Some k)
leaver_there [] i k is = absurd (cc is)
leaver_there (None ∷ occupant_entries) zero k is = absurd (cc is)
leaver_there (Some g ∷ occupant_entries) zero k is = (_, refl, is)
leaver_there (x ∷ occupant_entries) (suc i) k is = leaver_there occupant_entries i k is

-- the slot is there
used_within : (uses : List Slot) (i k : ℕ) → LeavesBy i (slice_get uses k) → k < length uses
used_within uses i k by = search (rules, there_of)

pub leaver_within : (a : Inside) (i : ℕ) (o : Option ℕ) → SlotsAreSound (space_of a) → o ≡ leaver_of (get_or a.occupant_entries.items i None) → IfSome o (λ k. k < length a.slots.uses)
leaver_within a i None sound is = tt
leaver_within a i (Some k) sound is =
    let t = leaver_there a.occupant_entries.items i k (sym is) in
    used_within a.slots.uses i k (sound.by_this i k t.0 t.1 t.2)

-- ---- uses of slots when it is void

head_is : (x : Slot) (i p : ℕ) → Some x ≡ Some (Evicting i p) → voided i (p ∷ []) x ≡ EvictVoid i
head_is x i p is = search rules

head_stays : (x : Slot) (i p : ℕ) → (Some x ≡ Some (Evicting i p) → ⊥) → voided i (p ∷ []) x ≡ x
head_stays x i p never = search rules

void_none : (uses : List Slot) (i p : ℕ) → ((m : ℕ) → slice_get uses m ≡ Some (Evicting i p) → ⊥) → map (voided i (p ∷ [])) uses ≡ uses
void_none [] i p never = refl
void_none (x ∷ uses) i p never =
    let first = head_stays x i p (never 0) in
    let rest = void_none uses i p (λ m is. never (suc m) is) in
    cc

void_at : (uses : List Slot) (k i p : ℕ) → slice_get uses k ≡ Some (Evicting i p) → ((m : ℕ) → slice_get uses m ≡ Some (Evicting i p) → m ≡ k) → slice_set uses k (EvictVoid i) ≡ map (voided i (p ∷ [])) uses
void_at [] k i p is one = absurd (cc is)
void_at (x ∷ uses) zero i p is one =
    let first = head_is x i p is in
    let rest = void_none uses i p (λ m there. (let e : suc m ≡ zero = one (suc m) there in absurd (cc e))) in
    cc
void_at (x ∷ uses) (suc k) i p is one =
    let first = head_stays x i p (λ there. (let e : zero ≡ suc k = one zero there in absurd (cc e))) in
    let rest = void_at uses k i p is (λ m there. (let e : suc m ≡ suc k = one (suc m) there in cc)) in
    cc

-- ---- a page that isn't leaving, and one that is

stays_so : (s : Space) (i p : ℕ) (y : Page) → SlotsAreSound s → page_at s.tables i p ≡ Some y → leaving y ≡ 0 → s.slots ≡ record s.slots { uses = map (voided i (p ∷ [])) s.slots.uses }
stays_so s i p y sound there none =
    let never : (m : ℕ) → slice_get s.slots.uses m ≡ Some (Evicting i p) → ⊥ = search rules in
    ap (λ (u : List Slot). record s.slots { uses = u }) (sym (void_none s.slots.uses i p never))

is_void : (a : Inside) (i p : ℕ) (y : Page) → SlotsAreSound (space_of a) → page_at a.tables.pages i p ≡ Some y → leaving y ≡ 1
    → voids_slot (leaver_of (get_or a.occupant_entries.items i None)) a.slots ≡ record a.slots { uses = map (voided i (p ∷ [])) a.slots.uses }
is_void a i p y sound there one =
    let found = sound.leaving i p (rw there one) in
    let k : ℕ = found.0 in
    let by : (m : ℕ) → slice_get a.slots.uses m ≡ Some (Evicting i p) → leaver_of (get_or a.occupant_entries.items i None) ≡ Some m = λ m is.
    (let t = sound.by_one i m (subst (LeavesBy i) (sym is) refl) in leaver_is a.occupant_entries.items i t.0 t.1 ∙ t.2) in
    let only : (m : ℕ) → slice_get a.slots.uses m ≡ Some (Evicting i p) → m ≡ k = λ m is. (let both : Some m ≡ Some k = sym (by m is) ∙ by k found.1 in cc) in
    let now : void_use (get_or a.slots.uses k Vacant) ≡ EvictVoid i = ap void_use (get_or_is a.slots.uses k (Evicting i p) Vacant found.1) in
    ap (λ (o : Option ℕ). voids_slot o a.slots) (by k found.1)
    ∙ ap (λ (u : List Slot). record a.slots { uses = u }) (ap (slice_set a.slots.uses k) now ∙ void_at a.slots.uses k i p found.1 only)

pub voided_is : (a : Inside) (i p : ℕ) (y : Page) → SlotsAreSound (space_of a) → page_at a.tables.pages i p ≡ Some y
    → voids_leaver (leaver_of (get_or a.occupant_entries.items i None)) y a.slots ≡ record a.slots { uses = map (voided i (p ∷ [])) a.slots.uses }
voided_is a i p Untouched sound there = stays_so (space_of a) i p Untouched sound there refl
voided_is a i p (Private f) sound there = stays_so (space_of a) i p (Private f) sound there refl
voided_is a i p (Shared f) sound there = stays_so (space_of a) i p (Shared f) sound there refl
voided_is a i p (Leaving f) sound there = is_void a i p (Leaving f) sound there refl
voided_is a i p (LeavingShared f) sound there = is_void a i p (LeavingShared f) sound there refl
voided_is a i p (Coming k) sound there = stays_so (space_of a) i p (Coming k) sound there refl
voided_is a i p (Swapped k) sound there = stays_so (space_of a) i p (Swapped k) sound there refl

-- as many tickets are out as before
pub void_tickets : (j i p : ℕ) (uses : List Slot) → tally (ticket_of j) (map (voided i (p ∷ [])) uses) ≡ tally (ticket_of j) uses
void_tickets j i p uses = void_same (ticket_of j) i p uses refl
