-- The memory of all instances: their pages on one pool of frames, and the slots of one swap device.
use Rattle.std.specs.Prelude.{ℕ, ◌≡◌, ◌+◌, ◌-◌, ◌==◌, ◌&&◌, cond, Bool, false, List, [], ◌∷◌, Option, Some, None, length, replicate, get_or, slice_get, zero, suc}
use Rattle.wh_model.specs.declared.memory.Need.{Need}
use Rattle.wh_space_model.specs.Pages.{zero_page}
use Rattle.wh_space_model.specs.Frames.{Pool, tally}
use Rattle.wh_space_model.specs.declared.Tax.{Tax}
use Rattle.wh_space_model.specs.declared.states.Page.{Page}
use Rattle.wh_space_model.specs.declared.states.Mark.{Mark}
use Rattle.wh_space_model.specs.declared.states.Mark.TheVariants.{Plain}
use Rattle.wh_space_model.specs.declared.states.Slot.{Slot}
use Rattle.wh_space_model.specs.declared.states.Slot.TheVariants.{Vacant}
use Rattle.wh_space_model.specs.States.{Backing, contents, joined, count, shares, resident, count_of}

-- What each slot is used for, the numbers of the vacant ones, and what each slot holds. What it holds is known to the
-- definitions alone: the bytes of the last write to it, and none where that failed or there was none.
pub record Slots : Type 0 where
  pub uses : List Slot
  pub vacant : List ℕ
  pub held : List (List ℕ)

-- Who has a place. An instance that is released keeps the place, its minimum and its maximum while a ticket of it is
-- out.
pub record Occupant : Type 0 where
  pub number : ℕ
  pub live : Bool
  pub shares : ℕ
  pub min : ℕ
  pub max : ℕ
  -- the bytes of the step for which it stands, where it waits for a frame
  pub stands : Option Need
  -- the slot of the ticket with which a page of it leaves, void or not
  pub leaves : Option ℕ

-- pages of one instance that may neither leave nor be merged, and frames that are earmarked for its next step
pub record Pins : Type 0 where
  pub place : ℕ
  pub pages : List ℕ
  pub frames : List ℕ

-- By place: the occupants (none where the place is free), their page tables, and which pages were touched in this
-- epoch. By frame: the bytes, and what the content table has. By slot: what it is used for, and what it holds.
pub record Space : Type 0 where
  pub occupants : List (Option Occupant)
  pub tables : List (List Page)
  pub touched : List (List Bool)
  pub pool : Pool
  pub marks : List Mark
  pub slots : Slots
  pub pins : Option Pins
  pub tax : Tax

-- where the bytes of pages lie
abbrev pub backing : Space → Backing
backing s = record { frames = s.pool.frames; held = s.slots.held }

-- the bytes of each page of each instance
abbrev pub all_bytes : Space → List (List (List ℕ))
all_bytes s = contents (backing s) s.tables

-- what the instance at a place sees: the bytes of its pages in order, one flat list
abbrev pub view : Space → ℕ → List ℕ
view s i = joined (get_or (all_bytes s) i [])

-- the bytes in frame f
abbrev pub frame_bytes : Space → ℕ → List ℕ
frame_bytes s f = get_or s.pool.frames f []

-- who has a place
abbrev pub occupant_at : Space → ℕ → Occupant → Type 0
occupant_at s i t = slice_get s.occupants i ≡ Some (Some t)

-- what the owner of an instance was promised for it
pub record Claimed : Type 0 where
  pub number : ℕ
  pub shares : ℕ
  pub min : ℕ
  pub max : ℕ

abbrev pub claim_of : Option Occupant → Option Claimed
claim_of None = None
claim_of (Some t) = cond t.live (Some (record { number = t.number; shares = t.shares; min = t.min; max = t.max })) None

-- what was promised to the live instance at a place
abbrev pub claim : Space → ℕ → Option Claimed
claim s i = claim_of (get_or s.occupants i None)

-- what stays promised to an instance that is released, while a ticket of it is out
pub record Promised : Type 0 where
  pub number : ℕ
  pub min : ℕ
  pub max : ℕ

abbrev pub promised_to : Option Occupant → Option Promised
promised_to None = None
promised_to (Some t) = Some (record { number = t.number; min = t.min; max = t.max })

-- number, minimum and maximum of who has a place, live or released
abbrev pub promise_at : Space → ℕ → Option Promised
promise_at s i = promised_to (get_or s.occupants i None)

abbrev pub need_of : Option Occupant → Option Need
need_of None = None
need_of (Some t) = cond t.live t.stands None

-- the bytes of the step for which the live instance at a place stands, if it waits for a frame
abbrev pub wants : Space → ℕ → Option Need
wants s i = need_of (get_or s.occupants i None)

-- the place where the instance of this number lives, if it is this one; else one that nobody has
abbrev pub has_number : Option Occupant → ℕ → Bool
has_number None n = false
has_number (Some t) n = t.live && (t.number == n)

abbrev pub found_at : Space → ℕ → ℕ → ℕ
found_at s place number = cond (has_number (get_or s.occupants place None) number) place (length s.occupants)

-- how many pages share frame f
abbrev pub sharers : Space → ℕ → ℕ
sharers s f = count (shares f) s.tables

-- how many pages of the instance at a place are resident: on a shared frame each sharer counts
abbrev pub pages_of : Space → ℕ → ℕ
pages_of s i = count_of resident s.tables i

-- the frames that are earmarked for the instance at a place, and those that are earmarked at all
abbrev pub kept_by : Option Pins → ℕ → List ℕ
kept_by None i = []
kept_by (Some pins) i = cond (pins.place == i) pins.frames []

abbrev pub kept : Option Pins → List ℕ
kept None = []
kept (Some pins) = pins.frames

-- the pages of the instance at a place that are pinned
abbrev pub pinned_by : Option Pins → ℕ → List ℕ
pinned_by None i = []
pinned_by (Some pins) i = cond (pins.place == i) pins.pages []

-- what w gives for who has a place, and 0 where nobody does
abbrev pub of_occupant : (Occupant → ℕ) → Option Occupant → ℕ
of_occupant w None = 0
of_occupant w (Some t) = w t

-- the sum of the minima, and that of max - min + 1, over live instances and released ones with a ticket out
abbrev pub minima : Space → ℕ
minima s = tally (of_occupant (λ t. t.min)) s.occupants

abbrev pub spreads : Space → ℕ
spreads s = tally (of_occupant (λ t. (t.max - t.min) + 1)) s.occupants

-- the numbers below n, the greatest first
abbrev pub numbers_below : ℕ → List ℕ
numbers_below zero = []
numbers_below (suc n) = n ∷ numbers_below n

-- the frames and slots, and nobody there
abbrev pub empty_space : ℕ → ℕ → Tax → Space
empty_space frames slots tax = record {
  occupants = [];
  tables = [];
  touched = [];
  pool = record { frames = replicate frames zero_page; free = numbers_below frames };
  marks = replicate frames Plain;
  slots = record { uses = replicate slots Vacant; vacant = numbers_below slots; held = replicate slots [] };
  pins = None;
  tax = tax;
}
