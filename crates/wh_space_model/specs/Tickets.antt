-- Pages in transit: what begins, and what ends, with a device call between that nobody waits for.
use Rattle.std.specs.Prelude.{ℕ, ◌≡◌, ◌≢◌, ◌==◌, ◌<◌, ◌≤◌, ◌++◌, ◌⊎◌, cond, min, Bool, true, false, List, [], ◌∷◌, Option, Some, None, length, get_or, slice_get, slice_set}
use Rattle.wh_model.specs.declared.memory.Need.{Need}
use Rattle.wh_space_model.specs.Frames.{tally}
use Rattle.wh_space_model.specs.declared.states.Page.{Page}
use Rattle.wh_space_model.specs.declared.states.Page.TheVariants.{Private, Shared, Leaving, LeavingShared, Coming, Swapped}
use Rattle.wh_space_model.specs.declared.states.Slot.{Slot}
use Rattle.wh_space_model.specs.declared.states.Slot.TheVariants.{Vacant, Taken, Evicting, EvictVoid, Fetching, FetchVoid}
use Rattle.wh_space_model.specs.declared.states.EvictEnd.{EvictEnd}
use Rattle.wh_space_model.specs.declared.states.EvictEnd.TheVariants.{Evicted, Void, Failed}
use Rattle.wh_space_model.specs.declared.states.FetchEnd.{FetchEnd}
use Rattle.wh_space_model.specs.declared.states.FetchEnd.TheVariants.{Fetched, Void as FetchIsVoid, Failed as FetchHasFailed}
use Rattle.wh_space_model.specs.States.{page_at, put}
use Rattle.wh_space_model.specs.Parts.{Space, Occupant, Pins, occupant_at, kept_by, pinned_by, frame_bytes}
use Rattle.wh_space_model.specs.Errands.{ticket_of}
use Rattle.wh_space_model.specs.Ready.{frames_in_all, may_take}
use Rattle.wh_space_model.specs.Claims.{MustLeave, NoneMustLeave}
use Rattle.wh_space_model.specs.Moves.{pinned, Earmarks, IsFirstSwapped, departed, frame_of}

-- the instance is there, and waits for a frame at these bytes
abbrev pub WaitsForBytes : Space → ℕ → Need → Type 0
WaitsForBytes s i need = (t : Occupant) × occupant_at s i t × (t.live ≡ true) × (t.stands ≡ Some need)

-- The step's resident pages are pinned for the instance, and frames earmarked: as many as it wants, or all that are
-- free. Another's pins and earmarks, and its own earlier ones, have ended.
abbrev pub Reserves : Space → ℕ → Need → Space → Type 0
Reserves s i need s2 =
    Earmarks (pinned s i need) i (min (length (pinned s i need).pool.free) (frames_in_all s i need)) s2

-- a slot is used for this; it is vacant
abbrev pub with_slot : Space → ℕ → Slot → Space
with_slot s k used = record s { slots = record s.slots { uses = slice_set s.slots.uses k used } }

abbrev pub without_slot : Space → ℕ → Space
without_slot s k =
    record s { slots = record s.slots { uses = slice_set s.slots.uses k Vacant; vacant = s.slots.vacant ++ k ∷ [] } }

-- by this slot a page of the instance leaves, or none
abbrev pub leaving_by : Option Occupant → Option ℕ → Option Occupant
leaving_by None slot = None
leaving_by (Some t) slot = Some (record t { leaves = slot })

abbrev pub with_leaving : Space → ℕ → Option ℕ → Space
with_leaving s j slot = record s { occupants = slice_set s.occupants j (leaving_by (get_or s.occupants j None) slot) }

-- the page as it leaves: it maps to the same frame
abbrev pub as_leaving : Page → Page → Type 0
as_leaving (Private f) page = page ≡ Leaving f
as_leaving (Shared f) page = page ≡ LeavingShared f
as_leaving other page = ⊥

-- page p of the instance at place j is leaving by slot k, as this page
abbrev pub departing : Space → ℕ → ℕ → ℕ → List ℕ → Page → Space
departing s j p k others page = record (with_leaving (with_slot s k (Evicting j p)) j (Some k)) {
  tables = put s.tables j p page;
  slots = record s.slots { uses = slice_set s.slots.uses k (Evicting j p); vacant = others };
}

-- An eviction begins for the instance at place i: a ticket for a slot, with the bytes that are to be written; or none,
-- where it doesn't wait for a frame, lacks none, no slot is vacant, or there is no page to take.
abbrev pub BeginsEvict : Space → ℕ → Option ℕ → List ℕ → Space → Type 0
BeginsEvict s i None bytes s2 =
    (((need : Need) → ¬ WaitsForBytes s i need) × (s2 ≡ s))
    ⊎ ((need : Need) × WaitsForBytes s i need × Reserves s i need s2
    × ((frames_in_all s2 i need ≤ may_take s2 i) ⊎ ((s2.slots.vacant ≡ []) ⊎ NoneMustLeave s2 i need)))
BeginsEvict s i (Some k) bytes s2 =
    (need : Need) × WaitsForBytes s i need × (s1 : Space) × Reserves s i need s1
    × (may_take s1 i < frames_in_all s1 i need)
    × (j p f : ℕ) × MustLeave s1 i need j p × (old new : Page) × (page_at s1.tables j p ≡ Some old)
    × (frame_of old ≡ Some f)
    × as_leaving old new × (bytes ≡ frame_bytes s1 f)
    × (others : List ℕ) × (s1.slots.vacant ≡ others ++ k ∷ [])
    × (s2 ≡ departing s1 j p k others new)

-- The device has been called for an eviction's slot. It holds what was written now, or nothing that is known where
-- that failed. Nothing else changes what a slot holds.
abbrev pub with_held : Space → ℕ → List ℕ → Space
with_held s k bytes = record s { slots = record s.slots { held = slice_set s.slots.held k bytes } }

abbrev pub IsEvicting : Space → ℕ → Type 0
IsEvicting s k =
    ((j p : ℕ) × (slice_get s.slots.uses k ≡ Some (Evicting j p)))
    ⊎ ((j : ℕ) × (slice_get s.slots.uses k ≡ Some (EvictVoid j)))

abbrev pub IsWritten : Space → ℕ → List ℕ → Bool → Space → Type 0
IsWritten s k bytes wrote s2 = IsEvicting s k × (s2 ≡ with_held s k (cond wrote bytes []))

-- the place of an instance that was released is free when its last ticket has come back
abbrev pub stays_occupant : Option Occupant → ℕ → Option Occupant
stays_occupant None n = None
stays_occupant (Some t) n = cond t.live (Some t) (cond (n == 0) None (Some t))

abbrev pub settled : Space → ℕ → Space
settled s i =
    record s {
      occupants = slice_set s.occupants i
          (stays_occupant (get_or s.occupants i None) (tally (ticket_of i) s.slots.uses));
    }

-- the page as it was before it began to leave
abbrev pub as_before : Page → Page → Type 0
as_before (Leaving f) page = page ≡ Private f
as_before (LeavingShared f) page = page ≡ Shared f
as_before other page = ⊥

-- a page that leaves is pinned no more: it may have been, by a provision that found it resident
abbrev pub without : ℕ → List ℕ → List ℕ
without p [] = []
without p (q ∷ qs) = cond (p == q) (without p qs) (q ∷ without p qs)

abbrev pub unpinned_page : Option Pins → ℕ → ℕ → Option Pins
unpinned_page None j p = None
unpinned_page (Some pins) j p = Some (record pins { pages = cond (pins.place == j) (without p pins.pages) pins.pages })

-- page p of the instance at place j, which was leaving frame f by slot k, is in the slot
abbrev pub sent_off : Space → ℕ → ℕ → ℕ → ℕ → Space
sent_off s j p f k = let a : Space = with_leaving (with_slot (departed s f) k Taken) j None in record a {
  tables = put a.tables j p (Swapped k);
  touched = put a.touched j p false;
  pins = unpinned_page a.pins j p;
}

-- it isn't, and is this page as before
abbrev pub not_sent : Space → ℕ → ℕ → ℕ → Page → Space
not_sent s j p k old =
    let a : Space = with_leaving (without_slot s k) j None in record a { tables = put a.tables j p old }

-- The ticket of slot k comes back, with whether the device wrote it and with the bytes that it was given to write. It
-- is void where the page was written or its instance released. Else the page is in the slot where the device wrote it
-- and its frame has these bytes still; and else it is as before.
abbrev pub CommitsEvict : Space → ℕ → Bool → List ℕ → EvictEnd → Space → Type 0
CommitsEvict s k wrote bytes end s2 =
    ((j : ℕ) × (slice_get s.slots.uses k ≡ Some (EvictVoid j)) × (end ≡ Void)
    × (s2 ≡ settled (with_leaving (without_slot s k) j None) j))
    ⊎ ((j p f : ℕ) × (slice_get s.slots.uses k ≡ Some (Evicting j p)) × (page : Page)
    × (page_at s.tables j p ≡ Some page) × (frame_of page ≡ Some f)
    × (((wrote ≡ true) × (bytes ≡ frame_bytes s f) × (end ≡ Evicted) × (s2 ≡ sent_off s j p f k))
    ⊎ ((((wrote ≡ true) × (bytes ≢ frame_bytes s f) × (end ≡ Void)) ⊎ ((wrote ≡ false) × (end ≡ Failed)))
    × (old : Page) × as_before page old × (s2 ≡ not_sent s j p k old))))

-- page p of the instance at place i comes from slot k, into a frame that was earmarked; these stay so
abbrev pub sent_for : Space → ℕ → ℕ → ℕ → ℕ → List ℕ → Space
sent_for s i p f k others = let a : Space = with_slot s k (Fetching i p f) in record a {
  tables = put a.tables i p (Coming k);
  pins = Some (record { place = i; pages = pinned_by s.pins i; frames = others });
}

-- A fetch begins for the instance at place i: a ticket for the slot of its step's first swapped page; or none, where
-- it doesn't wait for a frame, has no such page, or has no frame to take.
abbrev pub BeginsFetch : Space → ℕ → Option ℕ → Space → Type 0
BeginsFetch s i None s2 =
    (((need : Need) → ¬ WaitsForBytes s i need) × (s2 ≡ s))
    ⊎ ((need : Need) × WaitsForBytes s i need × Reserves s i need s2
    × (((p : ℕ) → ¬ IsFirstSwapped s2 i need p) ⊎ (may_take s2 i ≡ 0)))
BeginsFetch s i (Some k) s2 =
    (need : Need) × WaitsForBytes s i need × (s1 : Space) × Reserves s i need s1
    × (p f : ℕ) × IsFirstSwapped s1 i need p × (page_at s1.tables i p ≡ Some (Swapped k))
    × (others : List ℕ) × (kept_by s1.pins i ≡ others ++ f ∷ [])
    × (s2 ≡ sent_for s1 i p f k others)

-- a frame that a ticket held is free
abbrev pub with_free : Space → ℕ → Space
with_free s f = record s { pool = record s.pool { free = s.pool.free ++ f ∷ [] } }

-- the page has come, with these bytes; it is back in its slot
abbrev pub has_come : Space → ℕ → ℕ → ℕ → ℕ → List ℕ → Space
has_come s i p f k bytes = let a : Space = without_slot s k in record a {
  tables = put a.tables i p (Private f);
  pool = record a.pool { frames = slice_set a.pool.frames f bytes };
}

abbrev pub not_come : Space → ℕ → ℕ → ℕ → ℕ → Space
not_come s i p f k =
    let a : Space = with_slot (with_free s f) k Taken in record a { tables = put a.tables i p (Swapped k) }

-- The ticket of slot k comes back, with whether the device read it and with the bytes that were read. It is void where
-- the instance was released.
abbrev pub CommitsFetch : Space → ℕ → Bool → List ℕ → FetchEnd → Space → Type 0
CommitsFetch s k read bytes end s2 =
    ((i f : ℕ) × (slice_get s.slots.uses k ≡ Some (FetchVoid i f)) × (end ≡ FetchIsVoid)
    × (s2 ≡ settled (with_free (without_slot s k) f) i))
    ⊎ ((i p f : ℕ) × (slice_get s.slots.uses k ≡ Some (Fetching i p f))
    × (((read ≡ true) × (length bytes ≡ 4096) × (end ≡ Fetched) × (s2 ≡ has_come s i p f k bytes))
    ⊎ ((read ≡ false) × (end ≡ FetchHasFailed) × (s2 ≡ not_come s i p f k))))
