-- What an offer of a page leaves.
use Rattle.std.proofs.Common.{◌≡◌, ◌≢◌, inl, inr, ℕ, ◌+◌, ◌-◌, ◌<◌, ◌≤◌, ◌^◌, Bool, List, [], ◌∷◌, Option, Some, None, length, get_or, slice_get, slice_set, suc, refl, sym, subst, arith}
use Rattle.std.proofs.lemmas.Bool.Decides.{nat_tests}
use Rattle.wh_content.specs.declared.entry.ContentEntry.{ContentEntry}
use Rattle.wh_content.specs.declared.entry.ContentEntry.TheVariants as entry
use Rattle.wh_content.specs.Marks.{IsOnlyWith, frame_of_entry, mark_of_entry}
use Rattle.wh_space_model.specs.{IsTaken, Pool, one_if, tally, zero_page, FindsHint, FindsShared, IsOffered, joined_to, paired_with, gives_up, Occupant, Space, frame_bytes, of_occupant, sharers, HasHash, HasTable, IsSound, Names, count, owns, page_at, shares, untouched}
use Rattle.wh_space_model.specs.declared.states.Mark.{Mark}
use Rattle.wh_space_model.specs.declared.states.Mark.TheVariants.{Plain, Hint, Sharers}
use Rattle.wh_space_model.specs.declared.states.Offer.TheVariants.{Merged}
use Rattle.wh_space_model.specs.declared.states.Page.{Page}
use Rattle.wh_space_model.specs.declared.states.Page.TheVariants.{Untouched, Private, Shared, Leaving, LeavingShared, Coming, Swapped}
use Rattle.wh_space_model.proofs.Merging.{alone_soundly}
use Rattle.wh_space_model.proofs.Offered.{owned as owned_frame, plain_before, zeroed_sound}
use Rattle.wh_space_model.proofs.Putting.{get_pages, is_page, set_same, there_of}
use Rattle.wh_space_model.proofs.Reading.{owned_taken, shared_taken, taken_under}
use Rattle.wh_space_model.proofs.Steady.{untouched_soundly}
use Rattle.wh_space.specs.declared.memory.Memory.TheInside.{Inside}
use Rattle.wh_space.specs.Merges.{HasFewPages, emptied}
use Rattle.wh_space.specs.Parts.{space_of}
use Rattle.wh_space.proofs.Owning.{page_there}

-- ---- frames that aren't free

-- a page is alone on a frame
pub record IsAlone (s : Space) (i p g : ℕ) : Type 0 where
  pub taken : IsTaken s.pool g
  pub entry : g < length s.marks
  pub number : p < length (get_or s.tables i [])

pub is_alone : (s : Space) (i p g : ℕ) → IsSound s → page_at s.tables i p ≡ Some (Private g) → IsAlone s i p g
is_alone s i p g sound there =
    let taken = taken_under s i p (Private g) g sound.frames there refl in
    record { taken = taken; entry = omega (arith, sound.frames.marks, taken.0); number = (is_page s.tables i p (Private g) there).1 }

pub entry_taken : (s : Space) (hash : ℕ) (e : ContentEntry) → IsSound s → slice_get s.marks (frame_of_entry e) ≡ Some (mark_of_entry hash e) → IsTaken s.pool (frame_of_entry e)
entry_taken s hash (entry.Hint f j q) sound found =
    let names : Names s f (Some (Hint hash j q)) = subst (Names s f) found (sound.frames.names f) in
    let x = page_there (owns f) (page_at s.tables j q) names.0 in
    let some = get_pages (owns f) s.tables j q x.0 x.1 in
    let one = x.2 in
    owned_taken s f sound.frames (omega arith)
entry_taken s hash (entry.Shared f n) sound found =
    let names : Names s f (Some (Sharers hash n)) = subst (Names s f) found (sound.frames.names f) in
    let is = names.0 in
    let some = names.1 in
    shared_taken s f sound.frames (omega arith)

-- ---- no other entry has the hash

pub none_but : (s : Space) (g f hash : ℕ) → IsSound s → g < length s.marks → HasHash (slice_get s.marks f) hash → IsOnlyWith (slice_set s.marks g Plain) f hash
none_but s g f hash sound within found = λ other has. sound.frames.apart other f hash (plain_before s.marks g other hash within has) found

pub none_stays : (s : Space) (f g j q hash : ℕ) → IsSound s → FindsHint s hash f j q → IsOnlyWith (slice_set s.marks f Plain) g hash
none_stays s f g j q hash sound found = λ other has. absurd
    (let within = there_of s.marks f (Hint hash j q) found in
    let had : HasHash (slice_get s.marks f) hash = subst (λ m. HasHash m hash) (sym found) refl in
    let same : other ≡ f = sound.frames.apart other f hash (plain_before s.marks f other hash within has) had in
    subst (λ m. HasHash m hash) (set_same s.marks f Plain within) (subst (λ z. HasHash (slice_get (slice_set s.marks f Plain) z) hash) same has))

-- ---- how many pages share a frame

pub one_most : (f g : ℕ) → one_if f g ≤ 1
one_most f g = grind (arith, nat_tests)

page_most : (f g : ℕ) (x : Page) → shares f x + owns g x ≤ 1
page_most f g Untouched = omega arith
page_most f g (Private h) = let a = one_most g h in omega arith
page_most f g (Shared h) = let a = one_most f h in omega arith
page_most f g (Leaving h) = let a = one_most g h in omega arith
page_most f g (LeavingShared h) = let a = one_most f h in omega arith
page_most f g (Coming k) = omega arith
page_most f g (Swapped k) = omega arith

row_most : (f g : ℕ) (table : List Page) → tally (shares f) table + tally (owns g) table ≤ length table
row_most f g [] = omega arith
row_most f g (x ∷ table) = let a = page_most f g x in let b = row_most f g table in omega arith

pub table_most : (o : Option Occupant) (table : List Page) → HasTable o table → length table ≤ of_occupant (λ t. t.min) o + of_occupant (λ t. (t.max - t.min) + 1) o
table_most None table has = rw has (omega arith)
table_most (Some t) table has = let a = has.1 in let b = has.2 in omega arith

all_most : (f g : ℕ) (os : List (Option Occupant)) (ts : List (List Page)) → length ts ≡ length os → ((i : ℕ) (o : Option Occupant) → slice_get os i ≡ Some o → HasTable o (get_or ts i []))
    → count (shares f) ts + count (owns g) ts ≤ tally (of_occupant (λ t. t.min)) os + tally (of_occupant (λ t. (t.max - t.min) + 1)) os
all_most f g os [] long have = omega arith
all_most f g [] (table ∷ ts) long have = absurd (omega arith)
all_most f g (o ∷ os) (table ∷ ts) long have =
    let a = row_most f g table in
    let b = table_most o table (have 0 o refl) in
    let c = all_most f g os ts (omega arith) (λ i x is. have (suc i) x is) in
    omega arith

pub few_sharers : (s : Space) (i p g f n : ℕ) (hash : ℕ) → IsSound s → HasFewPages s → page_at s.tables i p ≡ Some (Private g) → FindsShared s hash f n → n + 1 < 2 ^ 32
few_sharers s i p g f n hash sound few there found =
    let names : Names s f (Some (Sharers hash n)) = subst (Names s f) found (sound.frames.names f) in
    let is = names.0 in
    let own = (owned_frame s i p g sound.frames there).1 in
    let most = all_most f g s.occupants s.tables sound.occupants.tables sound.occupants.have in
    let frames = sound.admissible.0 in
    let slots = sound.admissible.1 in
    omega (arith, few)

-- so can those of a frame beside a page that is untouched
untouched_most : (f : ℕ) (x : Page) → shares f x + untouched x ≤ 1
untouched_most f Untouched = omega arith
untouched_most f (Private h) = omega arith
untouched_most f (Shared h) = let a = one_most f h in omega (arith, a)
untouched_most f (Leaving h) = omega arith
untouched_most f (LeavingShared h) = let a = one_most f h in omega (arith, a)
untouched_most f (Coming k) = omega arith
untouched_most f (Swapped k) = omega arith

untouched_row : (f : ℕ) (table : List Page) → tally (shares f) table + tally untouched table ≤ length table
untouched_row f [] = omega arith
untouched_row f (x ∷ table) = let a = untouched_most f x in let b = untouched_row f table in omega (arith, a, b)

untouched_all : (f : ℕ) (os : List (Option Occupant)) (ts : List (List Page)) → length ts ≡ length os → ((i : ℕ) (o : Option Occupant) → slice_get os i ≡ Some o → HasTable o (get_or ts i []))
    → count (shares f) ts + count untouched ts ≤ tally (of_occupant (λ t. t.min)) os + tally (of_occupant (λ t. (t.max - t.min) + 1)) os
untouched_all f os [] long have = omega arith
untouched_all f [] (table ∷ ts) long have = absurd (omega arith)
untouched_all f (o ∷ os) (table ∷ ts) long have =
    let a = untouched_row f table in
    let b = table_most o table (have 0 o refl) in
    let c = untouched_all f os ts (omega arith) (λ i x is. have (suc i) x is) in
    omega arith

pub few_beside : (s : Space) (f j p : ℕ) → IsSound s → HasFewPages s → page_at s.tables j p ≡ Some Untouched → sharers s f + 1 < 2 ^ 32
few_beside s f j p sound few onto =
    let most = untouched_all f s.occupants s.tables sound.occupants.tables sound.occupants.have in
    omega (arith, few, get_pages untouched s.tables j p Untouched onto, most, sound.admissible.0, sound.admissible.1)

-- ---- what the memory is then

pub remade_is : (a b : Inside) (tables : List (List Page)) (touched : List (List Bool)) (pool : Pool) (marks : List Mark) → b.occupant_entries ≡ a.occupant_entries → b.slots ≡ a.slots → b.pins ≡ a.pins → b.tax ≡ a.tax
    → b.tables.pages ≡ tables → b.tables.marks ≡ touched → b.pool ≡ pool → b.content ≡ marks
    → space_of b ≡ record (space_of a) { tables = tables; touched = touched; pool = pool; marks = marks }
remade_is a b tables touched pool marks occupant_entries slots pins tax pages stamps frames entries = rw (occupant_entries, slots, pins, tax, pages, stamps, frames, entries) refl

pub emptied_sound : (s : Space) (i p g : ℕ) → IsSound s → IsOffered s i p g → IsSound (emptied s i p g)
emptied_sound s i p g sound offered = untouched_soundly (gives_up s i p g Untouched) i p (zeroed_sound s i p g sound offered)

pub joined_sound : (s : Space) (i p g f hash n : ℕ) → IsSound s → IsOffered s i p g → frame_bytes s g ≢ zero_page → frame_bytes s g ≡ frame_bytes s f → FindsShared s hash f n → IsSound (joined_to s i p g f hash n)
joined_sound s i p g f hash n sound offered some same found = alone_soundly (λ bytes. hash) s i p hash Merged (joined_to s i p g f hash n) sound (g, f, offered, some, same, inl (n, found, refl))

pub paired_sound : (s : Space) (i p g f hash j q : ℕ) → IsSound s → IsOffered s i p g → frame_bytes s g ≢ zero_page → frame_bytes s g ≡ frame_bytes s f → f ≢ g → FindsHint s hash f j q → IsOffered s j q f
    → IsSound (paired_with s i p g f hash j q)
paired_sound s i p g f hash j q sound offered some same apart found other =
    alone_soundly (λ bytes. hash) s i p hash Merged (paired_with s i p g f hash j q) sound (g, f, offered, some, same, inr (j, q, apart, (found, other, refl), refl))
