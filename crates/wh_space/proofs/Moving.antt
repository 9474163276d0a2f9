-- Pages in transit: what the memory is then.
use Rattle.std.proofs.Common.{◌≡◌, ◌≢◌, inl, inr, ℕ, ◌+◌, ◌-◌, ◌<◌, ◌≤◌, ◌++◌, cond, nat_lt, Bool, true, false, List, [], ◌∷◌, Option, Some, None, IfSome, length, length-set, get_or, slice_get, slice_set, refl, sym, ◌∙◌, ap, subst, arith, rules}
use Rattle.std.proofs.lemmas.Bool.{cases_lt}
use Rattle.std.proofs.lemmas.Bool.Decides.{nat_tests}
use Rattle.wh_space_model.specs.{Pool, IsTaken, one_if, tally, fewer_sharers, frame_of, one_fewer, CanLeave, stays, fetches_into, ticket_of, Occupant, Slots, Space, frame_bytes, occupant_at, pinned_by, sharers, FramesAreSound, IsSound, IsUsed, LeavesBy, at, leaving, page_at, put, CommitsEvict, as_before, as_leaving, departing, sent_off, unpinned_page, leaving_by, not_sent, sent_for, settled, with_free, with_leaving, without_slot, has_come, not_come}
use Rattle.wh_space_model.specs.declared.states.EvictEnd.TheVariants.{Evicted, Failed, Void}
use Rattle.wh_space_model.specs.declared.states.Mark.{Mark}
use Rattle.wh_space_model.specs.declared.states.Mark.TheVariants.{Plain}
use Rattle.wh_space_model.proofs.Sent.{is_sound_sent}
use Rattle.wh_space_model.proofs.Reading.{taken_under}
use Rattle.wh_space.proofs.LeavingPages.{counting, shared_entry, some_left}
use Rattle.wh_space_model.specs.declared.states.Page.{Page}
use Rattle.wh_space_model.specs.declared.states.Page.TheVariants.{Untouched, Private, Shared, Leaving, LeavingShared, Coming, Swapped}
use Rattle.wh_space_model.specs.declared.states.Slot.{Slot}
use Rattle.wh_space_model.specs.declared.states.Slot.TheVariants.{Vacant, Taken, Evicting, EvictVoid, Fetching, FetchVoid}
use Rattle.wh_space_model.proofs.Tally.{one_other, one_same}
use Rattle.wh_space_model.proofs.Putting.{get_or_is, is_page, there_of}
use Rattle.wh_space.specs.declared.occupant_entry.OccupantEntry.{OccupantEntry}
use Rattle.wh_space.specs.declared.memory.Memory.TheInside.{Inside}
use Rattle.wh_space.specs.OccupantEntries.{begins_coming, begins_leaving, ends_coming, ends_leaving, settles}
use Rattle.wh_space.specs.UnchangedTables.{fixed_in}
use Rattle.wh_space.specs.Parts.{IsWell, space_of}
use Rattle.wh_space.specs.Pinning.{pins_of}
use Rattle.wh_space.specs.Transits.{back_again}
use Rattle.wh_space_model.proofs.Sums.{get_tally}
use Rattle.wh_space.proofs.Transiting.{changed, changed_twice, changes_came, changes_coming, changes_leaving, changes_left, changes_settled, fewer_tickets, guest_within, more_tickets, other_tickets, seen_came, seen_coming, seen_leaving, seen_left, settled_after, table_within, unchanged, well_by}

-- ---- what the slot of a ticket says

pub record IsOut (s : Space) (k j p : ℕ) : Type 0 where
  pub slot : k < length s.slots.uses
  pub taken : tally (one_if k) s.slots.vacant ≡ 0
  pub occupant : Occupant
  pub there : occupant_at s j occupant
  pub page : Page
  pub at_it : page_at s.tables j p ≡ Some page
  pub leaves : leaving page ≡ 1

one_leaving : (o : Option Page) → at leaving o ≡ 1 → (x : Page) × (o ≡ Some x) × (leaving x ≡ 1)
one_leaving None one = absurd (omega arith)
one_leaving (Some x) one = (x, refl, one)

pub is_out : (s : Space) (k j p : ℕ) → IsSound s → slice_get s.slots.uses k ≡ Some (Evicting j p) → IsOut s k j p
is_out s k j p sound is =
    let used : IsUsed s k (Some (Evicting j p)) = subst (IsUsed s k) is (sound.slots.used k) in
    let t = sound.slots.by_one j k (subst (LeavesBy j) (sym is) refl) in
    let x = one_leaving (page_at s.tables j p) used.3 in
    record { slot = there_of s.slots.uses k (Evicting j p) is; taken = used.2; occupant = t.0; there = t.1; page = x.0; at_it = x.1; leaves = x.2 }

pub record IsVoid (s : Space) (k j : ℕ) : Type 0 where
  pub slot : k < length s.slots.uses
  pub taken : tally (one_if k) s.slots.vacant ≡ 0
  pub occupant : Occupant
  pub there : occupant_at s j occupant

pub is_void : (s : Space) (k j : ℕ) → IsSound s → slice_get s.slots.uses k ≡ Some (EvictVoid j) → IsVoid s k j
is_void s k j sound is =
    let used : IsUsed s k (Some (EvictVoid j)) = subst (IsUsed s k) is (sound.slots.used k) in
    let t = sound.slots.by_one j k (subst (LeavesBy j) (sym is) refl) in
    record { slot = there_of s.slots.uses k (EvictVoid j) is; taken = used.2; occupant = t.0; there = t.1 }

-- ---- slots and occupants, part by part

pub given : (old new : Slots) (k : ℕ) → new.uses ≡ slice_set old.uses k Vacant → new.vacant ≡ old.vacant ++ k ∷ [] → new.held ≡ old.held
    → new ≡ record old { uses = slice_set old.uses k Vacant; vacant = old.vacant ++ k ∷ [] }
given old new k uses vacant held = rw (← uses, ← vacant, ← held) refl

pub within_set : {X : Type 0} (xs ys : List X) (i j : ℕ) (x : X) → ys ≡ slice_set xs i x → j < length xs → j < length ys
within_set xs ys i j x is less = let long = ap length is ∙ length-set xs i x in omega arith

-- ---- a void ticket of a page that was to leave

pub ended_void : (a b : Inside) (mid : List (Option OccupantEntry)) (k j : ℕ) → IsWell a → IsSound (settled (with_leaving (without_slot (space_of a) k) j None) j) → slice_get a.slots.uses k ≡ Some (EvictVoid j)
    → mid ≡ slice_set a.occupant_entries.items j (ends_leaving (get_or a.occupant_entries.items j None)) → b.occupant_entries.items ≡ slice_set mid j (settles (get_or mid j None))
    → b.slots ≡ record a.slots { uses = slice_set a.slots.uses k Vacant; vacant = a.slots.vacant ++ k ∷ [] } → b.tables ≡ a.tables → b.pool ≡ a.pool → b.content ≡ a.content → b.pins ≡ a.pins → b.tax ≡ a.tax
    → (space_of b ≡ settled (with_leaving (without_slot (space_of a) k) j None) j) × IsWell b
ended_void a b mid k j was sound is first second slots tables pool content pins tax =
    let s : Space = space_of a in
    let void = is_void s k j was.sound is in
    let less = guest_within a j void.occupant void.there in
    let fewer = fewer_tickets a.slots.uses j k (EvictVoid j) Vacant is (one_same j j refl) refl in
    let mine : (g : OccupantEntry) → slice_get a.occupant_entries.items j ≡ Some (Some g) → g.tickets - 1 ≡ tally (ticket_of j) (slice_set a.slots.uses k Vacant) = λ g at_it. (let n = was.counted j g at_it in omega arith) in
    let before = changed ends_leaving (λ o. leaving_by o None) seen_left a.occupant_entries.items mid j first in
    let after = settled_after ends_leaving (λ o. leaving_by o None) (λ n. n - 1) seen_left changes_left a.occupant_entries.items mid b.occupant_entries.items j (tally (ticket_of j) (slice_set a.slots.uses k Vacant)) less first second mine in
    let now : space_of b ≡ settled (with_leaving (without_slot s k) j None) j = rw (after, before, slots, tables, pool, content, pins, tax) refl in (
      now,
      well_by a b j (λ y. settles (ends_leaving y)) (λ n. n - 1) (changes_settled ends_leaving (λ n. n - 1) changes_left) was (subst IsSound (sym now) sound) less
          (changed_twice ends_leaving settles a.occupant_entries.items mid b.occupant_entries.items j less first second) (rw tables refl) (ap (λ (z : Pool). length z.frames) pool)
          (λ g at_it. rw slots (mine g at_it)) (λ i other. rw slots (other_tickets a.slots.uses i k (EvictVoid j) Vacant is (one_other i j other))),
    )

-- ---- a page that stays

pub stayed : (a b : Inside) (k j p : ℕ) (old : Page) → IsWell a → IsSound (not_sent (space_of a) j p k old) → slice_get a.slots.uses k ≡ Some (Evicting j p)
    → b.occupant_entries.items ≡ slice_set a.occupant_entries.items j (ends_leaving (get_or a.occupant_entries.items j None))
    → b.slots ≡ record a.slots { uses = slice_set a.slots.uses k Vacant; vacant = a.slots.vacant ++ k ∷ [] }
    → b.tables.pages ≡ put a.tables.pages j p old → b.tables.marks ≡ a.tables.marks → fixed_in b.tables ≡ fixed_in a.tables
    → b.pool ≡ a.pool → b.content ≡ a.content → b.pins ≡ a.pins → b.tax ≡ a.tax
    → (space_of b ≡ not_sent (space_of a) j p k old) × IsWell b
stayed a b k j p old was sound is occupant_entries slots pages marks limits pool content pins tax =
    let s : Space = space_of a in
    let out = is_out s k j p was.sound is in
    let less = guest_within a j out.occupant out.there in
    let occupants = changed ends_leaving (λ o. leaving_by o None) seen_left a.occupant_entries.items b.occupant_entries.items j occupant_entries in
    let now : space_of b ≡ not_sent s j p k old = rw (occupants, slots, pages, marks, pool, content, pins, tax) refl in
    let fewer = fewer_tickets a.slots.uses j k (Evicting j p) Vacant is (one_same j j refl) refl in (
      now,
      well_by a b j ends_leaving (λ n. n - 1) changes_left was (subst IsSound (sym now) sound) less occupant_entries limits (ap (λ (z : Pool). length z.frames) pool)
          (λ g at_it. (let n = was.counted j g at_it in rw slots (omega arith))) (λ i other. rw slots (other_tickets a.slots.uses i k (Evicting j p) Vacant is (one_other i j other))),
    )

-- ---- a page that begins to leave

pub departed_now : (a b : Inside) (j p k : ℕ) (others : List ℕ) (new : Page) (t : Occupant) → IsWell a → IsSound (departing (space_of a) j p k others new) → slice_get a.slots.uses k ≡ Some Vacant → occupant_at (space_of a) j t
    → b.occupant_entries.items ≡ slice_set a.occupant_entries.items j (begins_leaving k (get_or a.occupant_entries.items j None))
    → b.slots ≡ record a.slots { uses = slice_set a.slots.uses k (Evicting j p); vacant = others }
    → b.tables.pages ≡ put a.tables.pages j p new → b.tables.marks ≡ a.tables.marks → fixed_in b.tables ≡ fixed_in a.tables
    → b.pool ≡ a.pool → b.content ≡ a.content → b.pins ≡ a.pins → b.tax ≡ a.tax
    → (space_of b ≡ departing (space_of a) j p k others new) × IsWell b
departed_now a b j p k others new t was sound is there occupant_entries slots pages marks limits pool content pins tax =
    let s : Space = space_of a in
    let less = guest_within a j t there in
    let occupants = changed (begins_leaving k) (λ o. leaving_by o (Some k)) (seen_leaving k) a.occupant_entries.items b.occupant_entries.items j occupant_entries in
    let now : space_of b ≡ departing s j p k others new = rw (occupants, slots, pages, marks, pool, content, pins, tax) refl in
    let more = more_tickets a.slots.uses j k Vacant (Evicting j p) is refl (one_same j j refl) in (
      now,
      well_by a b j (begins_leaving k) (λ n. n + 1) (changes_leaving k) was (subst IsSound (sym now) sound) less occupant_entries limits (ap (λ (z : Pool). length z.frames) pool)
          (λ g at_it. (let n = was.counted j g at_it in rw slots (omega arith))) (λ i other. rw slots (other_tickets a.slots.uses i k Vacant (Evicting j p) is (sym (one_other i j other)))),
    )

-- ---- fetches

pub record IsAwaited (s : Space) (k i p f : ℕ) : Type 0 where
  pub slot : k < length s.slots.uses
  pub taken : tally (one_if k) s.slots.vacant ≡ 0
  pub page : page_at s.tables i p ≡ Some (Coming k)
  pub row : i < length s.tables

pub is_awaited : (s : Space) (k i p f : ℕ) → IsSound s → slice_get s.slots.uses k ≡ Some (Fetching i p f) → IsAwaited s k i p f
is_awaited s k i p f sound is = search (rules, there_of, is_page)

pub record IsVoidFetch (s : Space) (k i f : ℕ) : Type 0 where
  pub slot : k < length s.slots.uses
  pub taken : tally (one_if k) s.slots.vacant ≡ 0
  pub occupant : Occupant
  pub there : occupant_at s i occupant

pub is_void_fetch : (s : Space) (k i f : ℕ) → IsSound s → slice_get s.slots.uses k ≡ Some (FetchVoid i f) → IsVoidFetch s k i f
is_void_fetch s k i f sound is = search (rules, there_of)

-- a frame into which a fetch goes is taken
pub fetched_into : (s : Space) (k f : ℕ) (x : Slot) → IsSound s → slice_get s.slots.uses k ≡ Some x → fetches_into f x ≡ 1 → IsTaken s.pool f
fetched_into s k f x sound is one =
    let some = get_tally (fetches_into f) s.slots.uses k x is in
    elim (cases_lt f (length s.pool.frames)) [
      | inl less ↦ (let all = sound.frames.one f less in (less, omega arith))
      | inr past ↦ absurd (let none = sound.frames.none f past in omega arith)
    ]

pub ended_void_fetch : (a b : Inside) (mid : List (Option OccupantEntry)) (k i f : ℕ) → IsWell a → IsSound (settled (with_free (without_slot (space_of a) k) f) i) → slice_get a.slots.uses k ≡ Some (FetchVoid i f)
    → mid ≡ slice_set a.occupant_entries.items i (ends_coming (get_or a.occupant_entries.items i None)) → b.occupant_entries.items ≡ slice_set mid i (settles (get_or mid i None))
    → b.slots ≡ record a.slots { uses = slice_set a.slots.uses k Vacant; vacant = a.slots.vacant ++ k ∷ [] } → b.tables ≡ a.tables → b.pool ≡ record a.pool { free = a.pool.free ++ f ∷ [] } → b.content ≡ a.content → b.pins ≡ a.pins → b.tax ≡ a.tax
    → (space_of b ≡ settled (with_free (without_slot (space_of a) k) f) i) × IsWell b
ended_void_fetch a b mid k i f was sound is first second slots tables pool content pins tax =
    let s : Space = space_of a in
    let void = is_void_fetch s k i f was.sound is in
    let less = guest_within a i void.occupant void.there in
    let fewer = fewer_tickets a.slots.uses i k (FetchVoid i f) Vacant is (one_same i i refl) refl in
    let mine : (g : OccupantEntry) → slice_get a.occupant_entries.items i ≡ Some (Some g) → g.tickets - 1 ≡ tally (ticket_of i) (slice_set a.slots.uses k Vacant) = λ g at_it. (let n = was.counted i g at_it in omega arith) in
    let before = unchanged ends_coming seen_came a.occupant_entries.items mid i first in
    let after = settled_after ends_coming (λ o. o) (λ n. n - 1) seen_came changes_came a.occupant_entries.items mid b.occupant_entries.items i (tally (ticket_of i) (slice_set a.slots.uses k Vacant)) less first second mine in
    let now : space_of b ≡ settled (with_free (without_slot s k) f) i = rw (after, before, slots, tables, pool, content, pins, tax) refl in (
      now,
      well_by a b i (λ y. settles (ends_coming y)) (λ n. n - 1) (changes_settled ends_coming (λ n. n - 1) changes_came) was (subst IsSound (sym now) sound) less
          (changed_twice ends_coming settles a.occupant_entries.items mid b.occupant_entries.items i less first second) (rw tables refl) (ap (λ (z : Pool). length z.frames) pool)
          (λ g at_it. rw slots (mine g at_it)) (λ j other. rw slots (other_tickets a.slots.uses j k (FetchVoid i f) Vacant is (one_other j i other))),
    )

pub came : (a b : Inside) (k i p f : ℕ) (bytes : List ℕ) → IsWell a → IsSound (has_come (space_of a) i p f k bytes) → slice_get a.slots.uses k ≡ Some (Fetching i p f)
    → b.occupant_entries.items ≡ slice_set a.occupant_entries.items i (ends_coming (get_or a.occupant_entries.items i None))
    → b.slots ≡ record a.slots { uses = slice_set a.slots.uses k Vacant; vacant = a.slots.vacant ++ k ∷ [] }
    → b.tables.pages ≡ put a.tables.pages i p (Private f) → b.tables.marks ≡ a.tables.marks → fixed_in b.tables ≡ fixed_in a.tables
    → b.pool ≡ record a.pool { frames = slice_set a.pool.frames f bytes } → b.content ≡ a.content → b.pins ≡ a.pins → b.tax ≡ a.tax
    → (space_of b ≡ has_come (space_of a) i p f k bytes) × IsWell b
came a b k i p f bytes was sound is occupant_entries slots pages marks limits pool content pins tax =
    let s : Space = space_of a in
    let less = table_within a i was.sound (is_awaited s k i p f was.sound is).row in
    let occupants = unchanged ends_coming seen_came a.occupant_entries.items b.occupant_entries.items i occupant_entries in
    let now : space_of b ≡ has_come s i p f k bytes = rw (occupants, slots, pages, marks, pool, content, pins, tax) refl in
    let fewer = fewer_tickets a.slots.uses i k (Fetching i p f) Vacant is (one_same i i refl) refl in (
      now,
      well_by a b i ends_coming (λ n. n - 1) changes_came was (subst IsSound (sym now) sound) less occupant_entries limits (ap (λ (z : Pool). length z.frames) pool ∙ length-set a.pool.frames f bytes)
          (λ g at_it. (let n = was.counted i g at_it in rw slots (omega arith))) (λ j other. rw slots (other_tickets a.slots.uses j k (Fetching i p f) Vacant is (one_other j i other))),
    )

pub stayed_away : (a b : Inside) (k i p f : ℕ) → IsWell a → IsSound (not_come (space_of a) i p f k) → slice_get a.slots.uses k ≡ Some (Fetching i p f)
    → b.occupant_entries.items ≡ slice_set a.occupant_entries.items i (ends_coming (get_or a.occupant_entries.items i None))
    → b.slots ≡ record a.slots { uses = slice_set a.slots.uses k Taken }
    → b.tables.pages ≡ put a.tables.pages i p (Swapped k) → b.tables.marks ≡ a.tables.marks → fixed_in b.tables ≡ fixed_in a.tables
    → b.pool ≡ record a.pool { free = a.pool.free ++ f ∷ [] } → b.content ≡ a.content → b.pins ≡ a.pins → b.tax ≡ a.tax
    → (space_of b ≡ not_come (space_of a) i p f k) × IsWell b
stayed_away a b k i p f was sound is occupant_entries slots pages marks limits pool content pins tax =
    let s : Space = space_of a in
    let less = table_within a i was.sound (is_awaited s k i p f was.sound is).row in
    let occupants = unchanged ends_coming seen_came a.occupant_entries.items b.occupant_entries.items i occupant_entries in
    let now : space_of b ≡ not_come s i p f k = rw (occupants, slots, pages, marks, pool, content, pins, tax) refl in
    let fewer = fewer_tickets a.slots.uses i k (Fetching i p f) Taken is (one_same i i refl) refl in (
      now,
      well_by a b i ends_coming (λ n. n - 1) changes_came was (subst IsSound (sym now) sound) less occupant_entries limits (ap (λ (z : Pool). length z.frames) pool)
          (λ g at_it. (let n = was.counted i g at_it in rw slots (omega arith))) (λ j other. rw slots (other_tickets a.slots.uses j k (Fetching i p f) Taken is (one_other j i other))),
    )

-- a page begins to come
pub sent : (a b : Inside) (k i p f : ℕ) (others : List ℕ) → IsWell a → IsSound (sent_for (space_of a) i p f k others) → slice_get a.slots.uses k ≡ Some Taken → i < length a.occupant_entries.items
    → b.occupant_entries.items ≡ slice_set a.occupant_entries.items i (begins_coming (get_or a.occupant_entries.items i None))
    → b.slots ≡ record a.slots { uses = slice_set a.slots.uses k (Fetching i p f) }
    → b.tables.pages ≡ put a.tables.pages i p (Coming k) → b.tables.marks ≡ a.tables.marks → fixed_in b.tables ≡ fixed_in a.tables
    → b.pool ≡ a.pool → b.content ≡ a.content → pins_of b.pins ≡ Some (record { place = i; pages = pinned_by (pins_of a.pins) i; frames = others }) → b.tax ≡ a.tax
    → (space_of b ≡ sent_for (space_of a) i p f k others) × IsWell b
sent a b k i p f others was sound is less occupant_entries slots pages marks limits pool content pins tax =
    let s : Space = space_of a in
    let occupants = unchanged begins_coming seen_coming a.occupant_entries.items b.occupant_entries.items i occupant_entries in
    let now : space_of b ≡ sent_for s i p f k others = rw (occupants, slots, pages, marks, pool, content, pins, tax) refl in
    let more = more_tickets a.slots.uses i k Taken (Fetching i p f) is refl (one_same i i refl) in (
      now,
      well_by a b i begins_coming (λ n. n + 1) changes_coming was (subst IsSound (sym now) sound) less occupant_entries limits (ap (λ (z : Pool). length z.frames) pool)
          (λ g at_it. (let n = was.counted i g at_it in rw slots (omega arith))) (λ j other. rw slots (other_tickets a.slots.uses j k Taken (Fetching i p f) is (sym (one_other j i other)))),
    )

-- ---- the one page that is there, and what it was before it began to leave

pub one_page : (tables : List (List Page)) (i p : ℕ) (x y : Page) → page_at tables i p ≡ Some x → page_at tables i p ≡ Some y → x ≡ y
one_page tables i p x y here there = let both : Some x ≡ Some y = sym here ∙ there in cc

pub before_leaving : (x : Page) → leaving x ≡ 1 → as_before x (back_again x)
before_leaving Untouched one = absurd (omega arith)
before_leaving (Private f) one = absurd (omega arith)
before_leaving (Shared f) one = absurd (omega arith)
before_leaving (Leaving f) one = refl
before_leaving (LeavingShared f) one = refl
before_leaving (Coming k) one = absurd (omega arith)
before_leaving (Swapped k) one = absurd (omega arith)

-- ---- a page that can leave

pub can_depart : (x : Page) → stays x ≡ 1 → (new : Page) × as_leaving x new
can_depart Untouched one = absurd (omega arith)
can_depart (Private f) one = (Leaving f, refl)
can_depart (Shared f) one = (LeavingShared f, refl)
can_depart (Leaving f) one = absurd (omega arith)
can_depart (LeavingShared f) one = absurd (omega arith)
can_depart (Coming k) one = absurd (omega arith)
can_depart (Swapped k) one = absurd (omega arith)

pub page_stays : (tables : List (List Page)) (i p : ℕ) (x : Page) → page_at tables i p ≡ Some x → at stays (page_at tables i p) ≡ 1 → stays x ≡ 1
page_stays tables i p x is one = sym (ap (at stays) is) ∙ one

pub taken_slot : (old new : Slots) (k : ℕ) (x : Slot) → new.uses ≡ slice_set old.uses k x → new.held ≡ old.held → new ≡ record old { uses = slice_set old.uses k x; vacant = new.vacant }
taken_slot old new k x uses held = rw (← uses, ← held) refl

-- what is asked, and what is left, when it begins
pub record MayDepart (a : Inside) (j p : ℕ) : Type 0 where
  pub page : Page
  pub at_it : page_at (space_of a).tables j p ≡ Some page
  pub stays : stays page ≡ 1
  pub occupant : Occupant
  pub there : occupant_at (space_of a) j occupant
  pub less : j < length a.occupant_entries.items

pub may_depart : (a : Inside) (j p : ℕ) → CanLeave (space_of a) j p → MayDepart a j p
may_depart a j p can = search (rules, guest_within)

-- ---- a page that is in its slot

-- an entry with one sharer fewer, for a frame that several share
pub fewer_is : (s : Space) (f : ℕ) → FramesAreSound s → f < length s.marks
    → cond (nat_lt 1 (sharers s f)) (fewer_sharers 1 (get_or s.marks f Plain)) Plain ≡ cond (nat_lt 1 (sharers s f)) (one_fewer (slice_get s.marks f)) Plain
fewer_is s f sound within = elim (cases_lt 1 (sharers s f)) [
  | inl more ↦
      (let entry = shared_entry s f sound within (omega arith) in
      let mark = get_or_is s.marks f (counting entry.0 (sharers s f)) Plain entry.1 in
      let one : fewer_sharers 1 (get_or s.marks f Plain) ≡ counting entry.0 (sharers s f - 1) = ap (fewer_sharers 1) mark ∙ some_left 1 (sharers s f) entry.0 more in
      let two : one_fewer (slice_get s.marks f) ≡ counting entry.0 (sharers s f - 1) = ap one_fewer entry.1 ∙ one_less entry.0 (sharers s f) in
      ap (λ (m : Mark). cond (nat_lt 1 (sharers s f)) m Plain) (one ∙ sym two))
  | inr few ↦ few_same (sharers s f) (fewer_sharers 1 (get_or s.marks f Plain)) (one_fewer (slice_get s.marks f)) few
] where
  one_less : (hash : Option ℕ) (n : ℕ) → one_fewer (Some (counting hash n)) ≡ counting hash (n - 1)
  one_less None n = refl
  one_less (Some hash) n = refl

  few_same : (n : ℕ) (a b : Mark) → n ≤ 1 → cond (nat_lt 1 n) a Plain ≡ cond (nat_lt 1 n) b Plain
  few_same n a b few = grind (arith, nat_tests)

pub left_now : (a b : Inside) (k j p f : ℕ) (page : Page) → IsWell a → slice_get a.slots.uses k ≡ Some (Evicting j p) → page_at (space_of a).tables j p ≡ Some page → frame_of page ≡ Some f
    → get_or a.slots.held k [] ≡ frame_bytes (space_of a) f → f < length a.content
    → b.occupant_entries.items ≡ slice_set a.occupant_entries.items j (ends_leaving (get_or a.occupant_entries.items j None))
    → b.slots ≡ record a.slots { uses = slice_set a.slots.uses k Taken }
    → b.tables.pages ≡ put a.tables.pages j p (Swapped k) → b.tables.marks ≡ put a.tables.marks j p false → fixed_in b.tables ≡ fixed_in a.tables
    → b.content ≡ slice_set a.content f (cond (nat_lt 1 (sharers (space_of a) f)) (fewer_sharers 1 (get_or a.content f Plain)) Plain)
    → b.pool ≡ record a.pool { free = cond (nat_lt 1 (sharers (space_of a) f)) a.pool.free (a.pool.free ++ f ∷ []) }
    → pins_of b.pins ≡ unpinned_page (pins_of a.pins) j p → b.tax ≡ a.tax
    → (space_of b ≡ sent_off (space_of a) j p f k) × IsWell b
left_now a b k j p f page was is there on held within occupant_entries slots pages marks limits content pool pins tax =
    let s : Space = space_of a in
    let out = is_out s k j p was.sound is in
    let less = guest_within a j out.occupant out.there in
    let occupants = changed ends_leaving (λ o. leaving_by o None) seen_left a.occupant_entries.items b.occupant_entries.items j occupant_entries in
    let entries : b.content ≡ slice_set a.content f (cond (nat_lt 1 (sharers s f)) (one_fewer (slice_get a.content f)) Plain) = content ∙ ap (slice_set a.content f) (fewer_is s f was.sound.frames within) in
    let now : space_of b ≡ sent_off s j p f k = rw (occupants, slots, pages, marks, pool, entries, pins, tax) refl in
    let sound = is_sound_sent s j p f k page was.sound is there on held in
    let fewer = fewer_tickets a.slots.uses j k (Evicting j p) Taken is (one_same j j refl) refl in (
      now,
      well_by a b j ends_leaving (λ n. n - 1) changes_left was (subst IsSound (sym now) sound) less occupant_entries limits (ap (λ (z : Pool). length z.frames) pool)
          (λ g at_it. (let n = was.counted j g at_it in rw slots (omega arith))) (λ i other. rw slots (other_tickets a.slots.uses i k (Evicting j p) Taken is (one_other i j other))),
    )

-- what the ticket of a page says of the frame on which it stands
pub record IsLeft (s : Space) (k j p f : ℕ) : Type 0 where
  pub slot : k < length s.slots.uses
  pub occupant : Occupant
  pub there : occupant_at s j occupant
  pub page : Page
  pub at_it : page_at s.tables j p ≡ Some page
  pub on : frame_of page ≡ Some f
  pub taken : IsTaken s.pool f
  pub entry : f < length s.marks

pub is_left : (s : Space) (k j p f : ℕ) → IsSound s → slice_get s.slots.uses k ≡ Some (Evicting j p) → IfSome (page_at s.tables j p) (λ was. frame_of was ≡ Some f) → IsLeft s k j p f
is_left s k j p f sound is stands =
    let out = is_out s k j p sound is in
    let on : frame_of out.page ≡ Some f = subst (λ (o : Option Page). IfSome o (λ was. frame_of was ≡ Some f)) out.at_it stands in
    let taken = taken_under s j p out.page f sound.frames out.at_it on in
    record { slot = out.slot; occupant = out.occupant; there = out.there; page = out.page; at_it = out.at_it; on = on; taken = taken; entry = omega (arith, sound.frames.marks, taken.0) }

-- ---- how the ticket of a page comes back

frame_leaving : (x : Page) → leaving x ≡ 1 → (f : ℕ) × (frame_of x ≡ Some f)
frame_leaving Untouched one = absurd (omega arith)
frame_leaving (Private f) one = absurd (omega arith)
frame_leaving (Shared f) one = absurd (omega arith)
frame_leaving (Leaving f) one = (f, refl)
frame_leaving (LeavingShared f) one = (f, refl)
frame_leaving (Coming k) one = absurd (omega arith)
frame_leaving (Swapped k) one = absurd (omega arith)

pub ends_failed : (s : Space) (k j p : ℕ) (wrote : Bool) (bytes : List ℕ) (s2 : Space) → IsSound s → slice_get s.slots.uses k ≡ Some (Evicting j p) → wrote ≡ false
    → IfSome (page_at s.tables j p) (λ was. s2 ≡ not_sent s j p k (back_again was)) → CommitsEvict s k wrote bytes Failed s2
ends_failed s k j p wrote bytes s2 sound is failed same_page = search (rules, is_out, frame_leaving, before_leaving)

pub ends_void : (s : Space) (k j p f : ℕ) (page : Page) (wrote : Bool) (bytes : List ℕ) (s2 : Space) → IsSound s → slice_get s.slots.uses k ≡ Some (Evicting j p) → wrote ≡ true
    → page_at s.tables j p ≡ Some page → frame_of page ≡ Some f → bytes ≢ frame_bytes s f
    → IfSome (page_at s.tables j p) (λ was. s2 ≡ not_sent s j p k (back_again was)) → CommitsEvict s k wrote bytes Void s2
ends_void s k j p f page wrote bytes s2 sound is ok there on differ same_page = search rules

pub ends_evicted : (s : Space) (k j p f : ℕ) (page : Page) (wrote : Bool) (bytes : List ℕ) (s2 : Space) → slice_get s.slots.uses k ≡ Some (Evicting j p) → wrote ≡ true
    → page_at s.tables j p ≡ Some page → frame_of page ≡ Some f → bytes ≡ frame_bytes s f → s2 ≡ sent_off s j p f k → CommitsEvict s k wrote bytes Evicted s2
ends_evicted s k j p f page wrote bytes s2 is ok there on same now = inr (j, p, f, is, page, there, on, inl (ok, same, refl, now))
