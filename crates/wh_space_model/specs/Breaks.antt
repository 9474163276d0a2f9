-- What a store does to each page that it writes: the page has a frame of its own then, which may be written (copy-on-write).
use Rattle.std.specs.Prelude.{ℕ, ◌≡◌, ◌-◌, ◌≤◌, ◌++◌, ◌⊎◌, cond, nat_lt, map, true, List, [], ◌∷◌, Some, slice_set, get_or}
use Rattle.wh_space_model.specs.Pages.{zero_page}
use Rattle.wh_space_model.specs.Frames.{tally, one_if}
use Rattle.wh_space_model.specs.declared.states.Page.{Page}
use Rattle.wh_space_model.specs.declared.states.Page.TheVariants.{Untouched, Private, Shared, Leaving, LeavingShared, Coming, Swapped}
use Rattle.wh_space_model.specs.declared.states.Mark.{Mark}
use Rattle.wh_space_model.specs.declared.states.Mark.TheVariants.{Plain, Hint, Sharers, Unlisted}
use Rattle.wh_space_model.specs.declared.states.Slot.{Slot}
use Rattle.wh_space_model.specs.declared.states.Slot.TheVariants.{Vacant, Taken, Evicting, EvictVoid, Fetching, FetchVoid}
use Rattle.wh_space_model.specs.States.{page_at, put}
use Rattle.wh_space_model.specs.Parts.{Space, sharers, kept_by, pinned_by, frame_bytes}

-- a ticket with which a page leaves that was written is void
abbrev pub voided : ℕ → List ℕ → Slot → Slot
voided i pages Vacant = Vacant
voided i pages Taken = Taken
voided i pages (Evicting j p) =
    cond (nat_lt 0 (one_if i j)) (cond (nat_lt 0 (tally (one_if p) pages)) (EvictVoid j) (Evicting j p)) (Evicting j p)
voided i pages (EvictVoid j) = EvictVoid j
voided i pages (Fetching j p f) = Fetching j p f
voided i pages (FetchVoid j f) = FetchVoid j f

-- t sharers of the frame have left it: with the last one its entry goes. A hint outlives a write to its page
abbrev pub fewer_sharers : ℕ → Mark → Mark
fewer_sharers t Plain = Plain
fewer_sharers t (Hint hash i p) = Hint hash i p
fewer_sharers t (Sharers hash n) = cond (nat_lt t n) (Sharers hash (n - t)) Plain
fewer_sharers t (Unlisted n) = cond (nat_lt t n) (Unlisted (n - t)) Plain

-- one of these frames is taken, wherever it stands, and the rest is left
abbrev pub IsTakenOf : List ℕ → ℕ → List ℕ → Type 0
IsTakenOf frames g rest =
    (before : List ℕ) × (behind : List ℕ) × (frames ≡ before ++ g ∷ behind) × (rest ≡ before ++ behind)

-- Frame g is taken, one of the free ones or one that is earmarked for the instance at place i, and has these bytes now.
abbrev pub TakesFrame : Space → ℕ → ℕ → List ℕ → Space → Type 0
TakesFrame s i g bytes s2 =
    ((rest : List ℕ) × IsTakenOf s.pool.free g rest
    × (s2 ≡ record s { pool = record { frames = slice_set s.pool.frames g bytes; free = rest } }))
    ⊎ ((rest : List ℕ) × IsTakenOf (kept_by s.pins i) g rest
    × (s2 ≡ record s {
      pool = record s.pool { frames = slice_set s.pool.frames g bytes };
      pins = Some (record { place = i; pages = pinned_by s.pins i; frames = rest });
    }))

-- the reference count of frame f is one lower
abbrev pub with_fewer : Space → ℕ → Space
with_fewer s f = record s { marks = slice_set s.marks f (fewer_sharers 1 (get_or s.marks f Plain)) }

-- A page leaves the sharers of frame f for frame g: as the last one it keeps the frame, and else it takes one, to which
-- the bytes are copied.
abbrev pub LeavesSharers : Space → ℕ → ℕ → ℕ → Space → Type 0
LeavesSharers s i f g s2 =
    ((sharers s f ≡ 1) × (g ≡ f) × (s2 ≡ with_fewer s f))
    ⊎ ((2 ≤ sharers s f) × TakesFrame (with_fewer s f) i g (frame_bytes s f) s2)

-- A page of the instance at place i has frame g to be written: its own, or it leaves the sharers of the one on which it
-- is; where it is untouched one of zeros is taken. A page that isn't at hand has none.
abbrev pub GetsFrame : Space → ℕ → Page → ℕ → Space → Type 0
GetsFrame s i Untouched g s2 = TakesFrame s i g zero_page s2
GetsFrame s i (Private f) g s2 = (g ≡ f) × (s2 ≡ s)
GetsFrame s i (Leaving f) g s2 = (g ≡ f) × (s2 ≡ s)
GetsFrame s i (Shared f) g s2 = LeavesSharers s i f g s2
GetsFrame s i (LeavingShared f) g s2 = LeavesSharers s i f g s2
GetsFrame s i (Coming k) g s2 = ⊥
GetsFrame s i (Swapped k) g s2 = ⊥

-- page p is alone on frame g, and touched; a ticket with which it was leaving is void
abbrev pub standing_alone : Space → ℕ → ℕ → ℕ → Space
standing_alone s i p g = record s {
  tables = put s.tables i p (Private g);
  touched = put s.touched i p true;
  slots = record s.slots { uses = map (voided i (p ∷ [])) s.slots.uses };
}

-- page p of the instance at place i is given a frame of its own
pub record Breaks (s : Space) (i p : ℕ) (s2 : Space) : Type 0 where
  pub page : Page
  pub was : page_at s.tables i p ≡ Some page
  pub frame : ℕ
  pub mid : Space
  pub gets : GetsFrame s i page frame mid
  pub after : s2 ≡ standing_alone mid i p frame

-- and these pages are, one after the other
abbrev pub BreaksEach : Space → ℕ → List ℕ → Space → Type 0
BreaksEach s i [] s2 = s2 ≡ s
BreaksEach s i (p ∷ ps) s2 = (mid : Space) × Breaks s i p mid × BreaksEach mid i ps s2
