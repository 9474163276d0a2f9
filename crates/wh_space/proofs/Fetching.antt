-- A page that comes in one go; how many pages there are.
use Rattle.std.proofs.Common.{length-set, ◌≡◌, ◌∙◌, inl, inr, ℕ, ◌*◌, ◌<◌, ◌≤◌, ◌^◌, ◌++◌, List, [], ◌∷◌, Option, Some, None, length, get_or, slice_get, slice_set, zero, suc, refl, sym, ap, subst, arith, rules}
use Rattle.std.proofs.lemmas.Bool.{cases_lt}
use Rattle.wh_space_model.specs.{Pool, TakesFreeFrame, one_if, tally, Fetches, fetched, Occupant, Space, kept, pinned_by, HasTable, IsSound, IsUsed, count, page_at, put, resident}
use Rattle.wh_space_model.specs.declared.states.Page.{Page}
use Rattle.wh_space_model.specs.declared.states.Page.TheVariants.{Untouched, Private, Shared, Leaving, LeavingShared, Coming, Swapped}
use Rattle.wh_space_model.specs.declared.states.Slot.TheVariants.{Taken, Vacant}
use Rattle.wh_space_model.proofs.Fetched.{is_sound_fetched}
use Rattle.wh_space_model.proofs.Putting.{there_of}
use Rattle.wh_space_model.proofs.Rooms.{get_there}
use Rattle.wh_space_model.proofs.Slotting.{slot_taken}
use Rattle.wh_space.specs.declared.memory.Memory.TheInside.{Inside}
use Rattle.wh_space.specs.UnchangedTables.{fixed_in}
use Rattle.wh_space.specs.Parts.{IsWell, space_of}
use Rattle.wh_space.specs.Pinning.{pins_of}
use Rattle.wh_space.proofs.Transiting.{other_tickets}
use Rattle.wh_space.proofs.Wellness.{well_with}

-- ---- how many pages there are

one_resident : (x : Page) → resident x ≤ 1
one_resident Untouched = omega arith
one_resident (Private f) = omega arith
one_resident (Shared f) = omega arith
one_resident (Leaving f) = omega arith
one_resident (LeavingShared f) = omega arith
one_resident (Coming k) = omega arith
one_resident (Swapped k) = omega arith

row_few : (xs : List Page) → tally resident xs ≤ length xs
row_few [] = omega arith
row_few (x ∷ xs) = let a = one_resident x in let b = row_few xs in omega arith

rows_few : (tables : List (List Page)) → ((i : ℕ) → length (get_or tables i []) ≤ 65536) → count resident tables ≤ 65536 * length tables
rows_few [] each = omega arith
rows_few (xs ∷ tables) each = let a = row_few xs in let b = rows_few tables (λ i. each (suc i)) in let c = each 0 in omega arith

past_none : (tables : List (List Page)) (i : ℕ) → length tables ≤ i → get_or tables i [] ≡ []
past_none [] i past = refl
past_none (xs ∷ tables) zero past = absurd (omega arith)
past_none (xs ∷ tables) (suc i) past = past_none tables i (omega arith)

table_few : (t : Option Occupant) (table : List Page) → HasTable t table → length table ≤ 65536
table_few None table none = rw none (omega arith)
table_few (Some t) table has = let a = has.2 in let b = has.4 in omega arith

each_few : (s : Space) → IsSound s → (i : ℕ) → length (get_or s.tables i []) ≤ 65536
each_few s sound i =
    elim (cases_lt i (length s.tables)) [
      | inr past ↦ (let none = past_none s.tables i past in rw none (omega arith))
      | inl less ↦
          (let many = sound.occupants.tables in
          let there = get_there s.occupants i (omega arith) in
          table_few there.0 (get_or s.tables i []) (sound.occupants.have i there.0 there.1))
    ]

pub few_resident : (s : Space) → IsSound s → length s.occupants ≤ 2 ^ 32 → count resident s.tables < 2 ^ 63
few_resident s sound places = search (rules, rows_few, each_few)

-- ---- a page that comes

pub record LiesIn (s : Space) (i p k : ℕ) : Type 0 where
  pub taken : slice_get s.slots.uses k ≡ Some Taken
  pub slot : k < length s.slots.uses
  pub away : tally (one_if k) s.slots.vacant ≡ 0

pub lies_there : (s : Space) (i p k : ℕ) → IsSound s → page_at s.tables i p ≡ Some (Swapped k) → LiesIn s i p k
lies_there s i p k sound there =
    let taken = slot_taken s i p k sound.slots there in
    let used : IsUsed s k (Some Taken) = subst (IsUsed s k) taken (sound.slots.used k) in
    record { taken = taken; slot = there_of s.slots.uses k Taken taken; away = used.2 }

pub fetched_now : (a b : Inside) (i p k f : ℕ) (bytes : List ℕ) (taken : Pool) → IsWell a → page_at (space_of a).tables i p ≡ Some (Swapped k) → length bytes ≡ 4096 → kept (pins_of a.pins) ≡ []
    → TakesFreeFrame a.pool f taken → b.pool ≡ record taken { frames = slice_set taken.frames f bytes }
    → b.slots ≡ record a.slots { uses = slice_set a.slots.uses k Vacant; vacant = a.slots.vacant ++ k ∷ [] }
    → b.tables.pages ≡ put a.tables.pages i p (Private f) → b.tables.marks ≡ a.tables.marks → fixed_in b.tables ≡ fixed_in a.tables
    → pins_of b.pins ≡ Some (record { place = i; pages = p ∷ pinned_by (pins_of a.pins) i; frames = [] })
    → b.occupant_entries ≡ a.occupant_entries → b.content ≡ a.content → b.tax ≡ a.tax
    → Fetches (space_of a) i p bytes (space_of b) × IsWell b
fetched_now a b i p k f bytes taken was there whole none takes pool slots pages marks limits pins occupant_entries content tax =
    let s : Space = space_of a in
    let lies = lies_there s i p k was.sound there in
    let frames : b.pool ≡ record { frames = slice_set a.pool.frames f bytes; free = taken.free } = search (rules, ℕ) in
    let now : space_of b ≡ fetched s i p f k taken.free bytes = rw (occupant_entries, pages, marks, frames, content, slots, pins, tax, none) refl in (
      record { frame = f; slot = k; others = taken.free; free = takes.free; page = there; whole = whole; leaves = now },
      well_with a b was occupant_entries limits (ap (λ (z : Pool). length z.frames) frames ∙ length-set a.pool.frames f bytes) (λ j. rw slots (other_tickets a.slots.uses j k Taken Vacant lies.taken refl))
          (subst IsSound (sym now) (is_sound_fetched s i p f k taken.free bytes was.sound there takes.free lies.taken whole)),
    )
