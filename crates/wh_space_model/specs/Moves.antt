-- What one move leaves: a page that goes to a slot, one that comes from a slot, and frames and pages that are kept for
-- a step.
use Rattle.std.specs.Prelude.{ℕ, ◌≡◌, ◌-◌, ◌<◌, ◌≤◌, ◌++◌, ◌⊎◌, ◌==◌, cond, nat_lt, nat_eq, Bool, false, List, [], ◌∷◌, Option, Some, None, length, slice_get, slice_set}
use Rattle.wh_model.specs.declared.memory.Need.{Need}
use Rattle.wh_space_model.specs.Frames.{tally, one_if}
use Rattle.wh_space_model.specs.declared.states.Page.{Page}
use Rattle.wh_space_model.specs.declared.states.Page.TheVariants.{Untouched, Private, Shared, Leaving, LeavingShared, Coming, Swapped}
use Rattle.wh_space_model.specs.declared.states.Mark.{Mark}
use Rattle.wh_space_model.specs.declared.states.Mark.TheVariants.{Plain, Hint, Sharers, Unlisted}
use Rattle.wh_space_model.specs.declared.states.Slot.TheVariants.{Vacant, Taken}
use Rattle.wh_space_model.specs.States.{at, page_at, put, resident, swapped}
use Rattle.wh_space_model.specs.Parts.{Space, Pins, sharers, kept, pinned_by, frame_bytes}
use Rattle.wh_space_model.specs.Ready.{pages_of_need}

-- an entry whose reference count is one lower
abbrev pub one_fewer : Option Mark → Mark
one_fewer (Some (Sharers hash n)) = Sharers hash (n - 1)
one_fewer (Some (Unlisted n)) = Unlisted (n - 1)
one_fewer (Some (Hint hash i p)) = Plain
one_fewer (Some Plain) = Plain
one_fewer None = Plain

-- A page has left frame f. If others share the frame, they are one fewer; else it is free, and its entry is forgotten.
abbrev pub departed : Space → ℕ → Space
departed s f = record s {
  marks = slice_set s.marks f (cond (nat_lt 1 (sharers s f)) (one_fewer (slice_get s.marks f)) Plain);
  pool = record s.pool { free = cond (nat_lt 1 (sharers s f)) s.pool.free (s.pool.free ++ f ∷ []) };
}

-- the frame on which a page stands
abbrev pub frame_of : Page → Option ℕ
frame_of Untouched = None
frame_of (Private f) = Some f
frame_of (Shared f) = Some f
frame_of (Leaving f) = Some f
frame_of (LeavingShared f) = Some f
frame_of (Coming k) = None
frame_of (Swapped k) = None

-- Page p of the instance at place j, on frame f, is in slot k now, which holds its bytes. It is not touched any more.
abbrev pub evicted : Space → ℕ → ℕ → ℕ → ℕ → List ℕ → Space
evicted s j p f k vacant = record (departed s f) {
  tables = put s.tables j p (Swapped k);
  touched = put s.touched j p false;
  slots =
      record {
        uses = slice_set s.slots.uses k Taken;
        vacant = vacant;
        held = slice_set s.slots.held k (frame_bytes s f);
      };
}

-- A page that was resident is in a slot, which was vacant.
pub record Evicts (s : Space) (j p : ℕ) (s2 : Space) : Type 0 where
  pub frame : ℕ
  pub slot : ℕ
  pub others : List ℕ
  pub vacant : s.slots.vacant ≡ others ++ slot ∷ []
  pub page : (page_at s.tables j p ≡ Some (Private frame)) ⊎ (page_at s.tables j p ≡ Some (Shared frame))
  pub leaves : s2 ≡ evicted s j p frame slot others

-- page p of the instance at place i, which was in slot k, maps to frame f, with these bytes, and is pinned
abbrev pub fetched : Space → ℕ → ℕ → ℕ → ℕ → List ℕ → List ℕ → Space
fetched s i p f k others bytes = record s {
  tables = put s.tables i p (Private f);
  pool = record { frames = slice_set s.pool.frames f bytes; free = others };
  slots = record s.slots { uses = slice_set s.slots.uses k Vacant; vacant = s.slots.vacant ++ k ∷ [] };
  pins = Some (record { place = i; pages = p ∷ pinned_by s.pins i; frames = kept s.pins });
}

-- A page that was in a slot has a frame of its own, which was free and has the bytes that were read. What is read is what the
-- slot holds, where the device keeps what is written to it: nothing here says so.
pub record Fetches (s : Space) (i p : ℕ) (bytes : List ℕ) (s2 : Space) : Type 0 where
  pub frame : ℕ
  pub slot : ℕ
  pub others : List ℕ
  pub free : s.pool.free ≡ others ++ frame ∷ []
  pub page : page_at s.tables i p ≡ Some (Swapped slot)
  pub whole : length bytes ≡ 4096
  pub leaves : s2 ≡ fetched s i p frame slot others bytes

-- of these pages of the instance, the resident ones
abbrev pub residents : Space → ℕ → List ℕ → List ℕ
residents s i [] = []
residents s i (p ∷ ps) = cond (nat_eq (at resident (page_at s.tables i p)) 1) (p ∷ residents s i ps) (residents s i ps)

-- all earmarked frames are free again, and nothing is pinned
abbrev pub unpinned : Space → Space
unpinned s = record s { pins = None; pool = record s.pool { free = s.pool.free ++ kept s.pins } }

-- pins and earmarks of the instance at place i end; another's stay
abbrev pub has_pins : Option Pins → ℕ → Bool
has_pins None i = false
has_pins (Some pins) i = pins.place == i

abbrev pub unpinned_of : Space → ℕ → Space
unpinned_of s i = cond (has_pins s.pins i) (unpinned s) s

-- the step's resident pages are pinned for the instance, and nothing else, and no frame is earmarked
abbrev pub pinned : Space → ℕ → Need → Space
pinned s i need =
    record (unpinned s) { pins = Some (record { place = i; pages = residents s i (pages_of_need need); frames = [] }) }

-- n free frames are earmarked besides
pub record Earmarks (s : Space) (i n : ℕ) (s2 : Space) : Type 0 where
  pub frames : List ℕ
  pub others : List ℕ
  pub many : length frames ≡ n
  pub free : s.pool.free ≡ others ++ frames
  pub leaves : s2 ≡ record s {
    pool = record s.pool { free = others };
    pins = Some (record { place = i; pages = pinned_by s.pins i; frames = kept s.pins ++ frames });
  }

-- the first swapped page of the step
abbrev pub IsFirstSwapped : Space → ℕ → Need → ℕ → Type 0
IsFirstSwapped s i need p =
    (1 ≤ tally (one_if p) (pages_of_need need)) × (at swapped (page_at s.tables i p) ≡ 1)
    × ((q : ℕ) → q < p → 1 ≤ tally (one_if q) (pages_of_need need) → at swapped (page_at s.tables i q) ≡ 0)
