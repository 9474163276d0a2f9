-- An instance that goes: what the memory is then.
use Rattle.std.proofs.Common.{◌≡◌, ◌≢◌, ◌==◌, inl, inr, ℕ, ◌+◌, ◌<◌, ◌≤◌, cond, nat_lt, Bool, List, [], ◌∷◌, Option, Some, None, true, false, length, length-set, get_or, map, slice_get, slice_set, zero, suc, refl, sym, ◌∙◌, ap, subst, arith, rules}
use Rattle.std.proofs.lemmas.Bool.Decides.{nat_tests}
use Rattle.std.proofs.lemmas.List.{get_or-set_other, length-map, map-set}
use Rattle.wh_space_model.specs.{Pool, one_if, tally, ticket_of, Occupant, Pins, Space, has_number, occupant_at, sharers, unpinned_of, stays_occupant, Exits, freed_by, released_mark, IsSound, Names, count, count_of, owns, page_at, shares}
use Rattle.wh_space_model.specs.declared.states.Mark.{Mark}
use Rattle.wh_space_model.specs.declared.states.Mark.TheVariants.{Plain, Hint, Sharers, Unlisted}
use Rattle.wh_space_model.specs.declared.states.Page.{Page}
use Rattle.wh_space_model.proofs.Exited.{exits_soundly}
use Rattle.wh_space_model.proofs.Putting.{cond_here, cond_other, get_or_is, get_pages, here_or, set_other, set_same, there_of}
use Rattle.wh_space_model.proofs.Reading.{owned_taken}
use Rattle.wh_space_model.proofs.Reserved.{is_sound_unpinned}
use Rattle.wh_space_model.proofs.Rooms.{get_there}
use Rattle.wh_space_model.proofs.Rows.{rows_sum}
use Rattle.wh_space_model.proofs.Sums.{get_tally}
use Rattle.wh_space.specs.declared.occupant_entry.OccupantEntry.{OccupantEntry}
use Rattle.wh_space.specs.declared.memory.Memory.TheInside.{Inside}
use Rattle.wh_space.specs.OccupantEntries.{occupant_gone}
use Rattle.wh_space.specs.Leaving.{CanAllGo, Holdings, pages_gone}
use Rattle.wh_space.specs.Pinning.{pins_of}
use Rattle.wh_space.specs.Slotting.{leaver_of, slots_gone, voids_slot}
use Rattle.wh_space.specs.UnchangedTables.{Fixed, fixed_in}
use Rattle.wh_space.specs.Parts.{IsWell, Named, named, occupant_of, space_of}
use Rattle.wh_space.proofs.LeavingPages.{AllGo, all_go, mark_after}
use Rattle.wh_space.proofs.Owning.{page_there}
use Rattle.wh_space.proofs.Growing.{occupant}
use Rattle.wh_space.proofs.LeavingSlots.{AllLeave, HaveGone, all_leave, have_gone, same_tickets}
use Rattle.wh_space.proofs.Voids.{leaver_is}

-- ---- the pages of one instance are some of all

pub row_within : (w : Page → ℕ) (ts : List (List Page)) (i : ℕ) → i < length ts → tally w (get_or ts i []) ≤ count w ts
row_within w ts i less = let e = rows_sum w ts i [] less in omega arith

other_row : (ts : List (List Page)) (i j q : ℕ) → j ≢ i → page_at (slice_set ts i []) j q ≡ page_at ts j q
other_row ts i j q other = ap (λ (xs : List Page). slice_get xs q) (get_or-set_other ts i j [] [] other)

-- an owner among its pages is the only one
own_page : (s : Space) (i p f : ℕ) (x : Page) → page_at s.tables i p ≡ Some x → owns f x ≡ 1 → 1 ≤ count_of (owns f) s.tables i
own_page s i p f x there one = let e = get_tally (owns f) (get_or s.tables i []) p x there in omega arith

other_page : (s : Space) (i j p f : ℕ) (x : Page) → IsSound s → i < length s.tables → j ≢ i → page_at s.tables j p ≡ Some x → owns f x ≡ 1 → count_of (owns f) s.tables i ≡ 0
other_page s i j p f x sound less other there one =
    let rows = rows_sum (owns f) s.tables i [] less in
    let away = get_pages (owns f) (slice_set s.tables i []) j p x (other_row s.tables i j p other ∙ there) in
    let taken = owned_taken s f sound.frames (let e = get_pages (owns f) s.tables j p x there in omega arith) in
    let all = sound.frames.one f taken.0 in
    omega arith

some_owners : (n : ℕ) (a b : Mark) → 1 ≤ n → cond (nat_lt 0 n) a b ≡ a
some_owners n a b some = grind (arith, nat_tests)

-- what is left of an entry is what the definition says: a hint goes with its page
mark_is : (s : Space) (i f : ℕ) (m : Mark) → IsSound s → i < length s.tables → Names s f (Some m) → mark_after (count_of (owns f) s.tables i) (count_of (shares f) s.tables i) m ≡ released_mark i (count_of (shares f) s.tables i) m
mark_is s i f Plain sound less names = refl
mark_is s i f (Sharers hash n) sound less names = refl
mark_is s i f (Unlisted n) sound less names = refl
mark_is s i f (Hint hash j p) sound less names = search (rules, page_there, here_or, own_page, some_owners, cond_here, other_page, cond_other)

-- ---- the memory then

record HasGone (s : Space) (i : ℕ) (b : Holdings) : Type 0 where
  pub bytes : b.pool.frames ≡ s.pool.frames
  pub free : (f : ℕ) → tally (one_if f) b.pool.free ≡ tally (one_if f) s.pool.free + (count_of (owns f) s.tables i + freed_by (count_of (shares f) s.tables i) (sharers s f))
  pub entries : length b.marks ≡ length s.marks
  pub marks : (f : ℕ) (m : Mark) → slice_get s.marks f ≡ Some m → slice_get b.marks f ≡ Some (released_mark i (count_of (shares f) s.tables i) m)

pub all_can : (s : Space) (i : ℕ) → IsSound s → i < length s.tables → AllGo s (get_or s.tables i []) (record { pool = s.pool; marks = s.marks })
all_can s i sound less = all_go s (get_or s.tables i []) sound.frames (λ w. row_within w s.tables i less)

has_gone : (s : Space) (i : ℕ) → IsSound s → i < length s.tables → HasGone s i (pages_gone (get_or s.tables i []) (record { pool = s.pool; marks = s.marks }))
has_gone s i sound less =
    let go = all_can s i sound less in
    record {
      bytes = go.left.bytes;
      free = λ f. (let o = go.same (owns f) in let e = go.same (shares f) in rw (← o, ← e) (go.left.free f));
      entries = go.left.entries;
      marks = λ f m at. (let o = go.same (owns f) in let e = go.same (shares f) in
          go.left.marks f m at ∙ ap Some (rw (o, e) (mark_is s i f m sound less (subst (Names s f) at (sound.frames.names f)))));
    }

-- pins and earmarks that end leave these as they were
record EndsPins (s u : Space) : Type 0 where
  pub sound : IsSound u
  pub tables : u.tables ≡ s.tables
  pub frames : u.pool.frames ≡ s.pool.frames
  pub marks : u.marks ≡ s.marks

ends : (s : Space) (i : ℕ) → IsSound s → EndsPins s (unpinned_of s i)
ends s i sound = search (rules, is_sound_unpinned)

-- the instance is there, with a table, and lives
pub record IsHere (a : Inside) (i : ℕ) : Type 0 where
  pub occupant : Occupant
  pub there : occupant_at (space_of a) i occupant
  pub live : occupant.live ≡ true
  pub place : i < length a.occupant_entries.items
  pub row : i < length a.tables.pages

pub is_here : (a : Inside) (i : ℕ) (s : Space) → space_of a ≡ s → IsSound (space_of a) → (t : Occupant) × occupant_at s i t × (t.live ≡ true) → IsHere a i
is_here a i s is sound somebody = search (rules, there_of, length-map, occupant)

-- what is asked of the pages, when pins and earmarks have ended
pub pages_can : (a : Inside) (i : ℕ) (pool : Pool) (pins : Option Pins) → IsSound (space_of a) → IsHere a i → record (space_of a) { pool = pool; pins = pins } ≡ unpinned_of (space_of a) i
    → CanAllGo (get_or a.tables.pages i []) (record { pool = pool; marks = a.content })
pages_can a i pool pins sound here is =
    let s : Space = space_of a in
    let u : Space = record s { pool = pool; pins = pins } in
    let ended : IsSound u = subst IsSound (sym is) (ends s i sound).sound in
    (all_can u i ended here.row).can

pub slots_can : (a : Inside) (i : ℕ) → IsSound (space_of a) → IsHere a i → AllLeave (space_of a) (get_or a.tables.pages i []) a.slots
slots_can a i sound here = all_leave (space_of a) (get_or a.tables.pages i []) sound.slots (λ w. row_within w a.tables.pages i here.row)

-- ---- who is there then

gone_guest : (g : OccupantEntry) (n : ℕ) → g.tickets ≡ n → occupant_of (occupant_gone (Some g)) ≡ stays_occupant (Some (record (occupant g) { live = false; stands = None })) n
gone_guest g n same = search rules

pub guest_here : (occupant_entries : List (Option OccupantEntry)) (i : ℕ) (t : Occupant) → slice_get (map occupant_of occupant_entries) i ≡ Some (Some t) → (g : OccupantEntry) × (slice_get occupant_entries i ≡ Some (Some g)) × (occupant g ≡ t)
guest_here [] i t is = absurd (cc is)
guest_here (None ∷ occupant_entries) zero t is = absurd (cc is)
guest_here (Some g ∷ occupant_entries) zero t is = let e : occupant g ≡ t = cc in (g, refl, e)
guest_here (x ∷ occupant_entries) (suc i) t is = guest_here occupant_entries i t is

-- who keeps the place had it, with the same maximum and as many tickets
keeps_place : (x : Option OccupantEntry) (t : OccupantEntry) → occupant_gone x ≡ Some t → (g : OccupantEntry) × (x ≡ Some g) × (named g ≡ named t) × (g.tickets ≡ t.tickets)
keeps_place None t is = absurd (cc is)
keeps_place (Some g) t is = go (g.tickets == 0) is where
  go : (b : Bool) → cond b None (Some (record g { live = false; stands = None })) ≡ Some t → (h : OccupantEntry) × (Some g ≡ Some h) × (named h ≡ named t) × (h.tickets ≡ t.tickets)
  go true is = absurd (cc is)
  go false is = let e : record g { live = false; stands = None } ≡ t = cc in (g, refl, ap named e, ap (λ (z : OccupantEntry). z.tickets) e)

-- who is there now was there
stays_there : (xs : List (Option OccupantEntry)) (i j : ℕ) (t : OccupantEntry) → i < length xs → slice_get (slice_set xs i (occupant_gone (get_or xs i None))) j ≡ Some (Some t)
    → (g : OccupantEntry) × (slice_get xs j ≡ Some (Some g)) × (named g ≡ named t) × (g.tickets ≡ t.tickets)
stays_there xs i j t less is = elim (here_or i j) [
  | inr other ↦ (t, sym (set_other xs i j _ (λ e. other e)) ∙ is, refl, refl)
  | inl same ↦
      (let both : Some (occupant_gone (get_or xs i None)) ≡ Some (Some t) = sym (set_same xs i (occupant_gone (get_or xs i None)) less) ∙ subst (λ z. slice_get (slice_set xs i (occupant_gone (get_or xs i None))) z ≡ Some (Some t)) same is in
      let one : occupant_gone (get_or xs i None) ≡ Some t = cc in
      let k = keeps_place (get_or xs i None) t one in
      let there = get_there xs i less in
      let found : slice_get xs i ≡ Some (Some k.0) = there.1 ∙ ap Some (sym (get_or_is xs i there.0 None there.1) ∙ k.1) in
      (k.0, subst (λ z. slice_get xs z ≡ Some (Some k.0)) (sym same) found, k.2, k.3))
]

-- an instance was there, and has gone
pub record IsGone (a b : Inside) (i : ℕ) : Type 0 where
  pub exits : Exits (space_of a) i (space_of b)
  pub well : IsWell b

pub is_gone : (a b : Inside) (i : ℕ) (pool : Pool) → IsWell a → IsHere a i → b.occupant_entries.items ≡ slice_set a.occupant_entries.items i (occupant_gone (get_or a.occupant_entries.items i None))
    → b.tables.pages ≡ slice_set a.tables.pages i [] → b.tables.marks ≡ slice_set a.tables.marks i [] → fixed_in b.tables ≡ fixed_in a.tables
    → record (space_of a) { pool = pool; pins = pins_of b.pins } ≡ unpinned_of (space_of a) i
    → record { pool = b.pool; marks = b.content } ≡ pages_gone (get_or a.tables.pages i []) (record { pool = pool; marks = a.content })
    → b.slots ≡ voids_slot (leaver_of (get_or a.occupant_entries.items i None)) (slots_gone (get_or a.tables.pages i []) a.slots) → b.tax ≡ a.tax → IsGone a b i
is_gone a b i pool was here occupant_entries pages marks limits ended frames slots tax =
    let s : Space = space_of a in
    let u : Space = record s { pool = pool; pins = pins_of b.pins } in
    let sound : IsSound u = subst IsSound (sym ended) (ends s i was.sound).sound in
    let gone : HasGone u i (record { pool = b.pool; marks = b.content }) = subst (HasGone u i) (sym frames) (has_gone u i sound here.row) in
    let free_then : (f : ℕ) → tally (one_if f) (unpinned_of s i).pool.free ≡ tally (one_if f) pool.free = λ f. ap (λ (z : Space). tally (one_if f) z.pool.free) (sym ended) in
    let bytes_then : pool.frames ≡ s.pool.frames = ap (λ (z : Space). z.pool.frames) ended ∙ (ends s i was.sound).frames in
    let t : Occupant = here.occupant in
    let leaves = leaver_is a.occupant_entries.items i t here.there in
    let left : HaveGone s i b.slots = subst (HaveGone s i) (sym (slots ∙ ap (λ (o : Option ℕ). voids_slot o (slots_gone (get_or s.tables i []) a.slots)) leaves)) (have_gone s i t was.sound.slots here.row here.there (slots_can a i was.sound here)) in
    let occupant_entry = guest_here a.occupant_entries.items i t here.there in
    let counted = was.counted i occupant_entry.0 occupant_entry.1 in
    let now : occupant_of (occupant_gone (get_or a.occupant_entries.items i None)) ≡ stays_occupant (Some (record t { live = false; stands = None })) (tally (ticket_of i) a.slots.uses) =
    search (rules, get_or_is, gone_guest) in
    let exits : Exits s i (space_of b) = search (rules, occupant, map-set) in
    let before : (j : ℕ) (g : OccupantEntry) → slice_get b.occupant_entries.items j ≡ Some (Some g) → (h : OccupantEntry) × (slice_get a.occupant_entries.items j ≡ Some (Some h)) × (named h ≡ named g) × (h.tickets ≡ g.tickets) =
    λ j g at. stays_there a.occupant_entries.items i j g here.place (ap (λ (z : List (Option OccupantEntry)). slice_get z j) (sym occupant_entries) ∙ at) in
    record {
      exits = exits;
      well = record {
        sound = exits_soundly s i (space_of b) was.sound exits;
        limits = λ j g at. (let k = before j g at in ap (λ (z : Fixed). slice_get z.limits j) limits ∙ (was.limits j k.0 k.1 ∙ ap (λ (z : Named). Some z.max) k.2));
        numbers = λ j g at. (let k = before j g at in ap (λ (z : Fixed). get_or z.numbers j 0) limits ∙ (was.numbers j k.0 k.1 ∙ ap (λ (z : Named). z.number) k.2));
        frames = ap (λ (z : Fixed). z.frames) limits ∙ was.frames ∙ sym (ap length exits.bytes);
        counted = λ j g at. (let k = before j g at in sym k.3 ∙ (was.counted j k.0 k.1 ∙ sym (same_tickets s i j b.slots left)));
        places = (let long = ap length occupant_entries ∙ length-set a.occupant_entries.items i _ in rw long was.places);
      };
    }

-- ---- where somebody of this number is there is somebody, who lives

pub lives_at : (xs : List (Option Occupant)) (i n : ℕ) → has_number (get_or xs i None) n ≡ true → (t : Occupant) × (slice_get xs i ≡ Some (Some t)) × (t.live ≡ true)
lives_at [] i n has = absurd (cc has)
lives_at (None ∷ xs) zero n has = absurd (cc has)
lives_at (Some t ∷ xs) zero n has = search rules
lives_at (x ∷ xs) (suc i) n has = lives_at xs i n has
