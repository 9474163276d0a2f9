-- How an instance comes to see what another one sees: the frames of its pages are shared, and no byte is copied.
use Rattle.std.specs.Prelude.{ℕ, ◌≡◌, ◌≢◌, ◌↔◌, ◌+◌, ◌*◌, ◌<◌, [], Some, length, get_or, slice_set, zero, suc}
use Rattle.wh_model.specs.declared.memory.Need.{Need}
use Rattle.wh_space_model.specs.declared.states.Page.{Page}
use Rattle.wh_space_model.specs.declared.states.Page.TheVariants.{Untouched, Private, Shared, Leaving, LeavingShared, Coming, Swapped}
use Rattle.wh_space_model.specs.declared.states.Mark.{Mark}
use Rattle.wh_space_model.specs.declared.states.Mark.TheVariants.{Plain, Hint, Sharers, Unlisted}
use Rattle.wh_space_model.specs.States.{page_at, page_bytes, put, untouched}
use Rattle.wh_space_model.specs.Parts.{Claimed, Occupant, Space, all_bytes, backing, occupant_at, view}
use Rattle.wh_space_model.specs.Ready.{Ready}
use Rattle.wh_space_model.specs.Charges.{active_of, charged_of}
use Rattle.wh_space_model.specs.Claims.{IsPayer, weight_of, stays}
use Rattle.wh_space_model.specs.Places.{Enters}
use Rattle.wh_space_model.specs.Sound.{IsSound}

-- an entry whose reference count is one higher
abbrev pub one_more : Mark → Mark
one_more Plain = Plain
one_more (Hint hash i p) = Hint hash i p
one_more (Sharers hash n) = Sharers hash (n + 1)
one_more (Unlisted n) = Unlisted (n + 1)

-- Where page p of the instance at place i is this one, that of the one at place j, which was untouched, is the same one now:
-- nothing; or the frame that was its own, or that it shares. A frame that was a page's own has no hint any more, since its hash
-- isn't known. A page that isn't at hand, or is leaving, has nothing to lend.
abbrev pub LendsPage : Space → ℕ → ℕ → ℕ → Page → Space → Type 0
LendsPage s i j p Untouched s2 = s2 ≡ s
LendsPage s i j p (Private f) s2 = s2 ≡ record s {
  tables = put (put s.tables i p (Shared f)) j p (Shared f);
  marks = slice_set s.marks f (Unlisted 2);
}
LendsPage s i j p (Shared f) s2 = s2 ≡ record s {
  tables = put s.tables j p (Shared f);
  marks = slice_set s.marks f (one_more (get_or s.marks f Plain));
}
LendsPage s i j p (Leaving f) s2 = ⊥
LendsPage s i j p (LeavingShared f) s2 = ⊥
LendsPage s i j p (Coming k) s2 = ⊥
LendsPage s i j p (Swapped k) s2 = ⊥

pub record Lends (s : Space) (i j p : ℕ) (s2 : Space) : Type 0 where
  pub page : Page
  pub was : page_at s.tables i p ≡ Some page
  pub onto : page_at s.tables j p ≡ Some Untouched
  pub lends : LendsPage s i j p page s2

-- the first n pages are lent, one after the other
abbrev pub LendsFirst : Space → ℕ → ℕ → ℕ → Space → Type 0
LendsFirst s i j zero s2 = s2 ≡ s
LendsFirst s i j (suc n) s2 = (mid : Space) × LendsFirst s i j n mid × Lends mid i j n s2

-- A copy of the instance at place i comes to a free place, with a claim that there is room for: as many pages, all of
-- them lent.
pub record Copies (s : Space) (i j : ℕ) (c : Claimed) (s2 : Space) : Type 0 where
  pub apart : j ≢ i
  pub size : ℕ
  pub pages : length (get_or s.tables i []) ≡ 16 * size
  pub mid : Space
  pub enters : Enters s j c size mid
  pub lends : LendsFirst mid i j (16 * size) s2

-- ---- laws

-- a page that is lent leaves all sound
abbrev pub LendsSoundly : Type 0
LendsSoundly = (s : Space) (i j p : ℕ) (s2 : Space) → IsSound s → Lends s i j p s2 → IsSound s2

-- and is the only one that has other bytes
abbrev pub LendsAlone : Type 0
LendsAlone =
    (s : Space) (i j p : ℕ) (s2 : Space) (lends : Lends s i j p s2)
    → all_bytes s2 ≡ put (all_bytes s) j p (page_bytes (backing s) lends.page)

-- A copy sees what the other one sees, and nobody else sees anything new. No frame is taken or given back, no byte
-- written, and no slot touched.
pub record IsCopied (s : Space) (i j : ℕ) (s2 : Space) : Type 0 where
  pub sound : IsSound s2
  pub sees : view s2 j ≡ view s i
  pub others : (k : ℕ) → k ≢ j → view s2 k ≡ view s k
  pub pool : s2.pool ≡ s.pool
  pub slots : s2.slots ≡ s.slots
  pub pins : s2.pins ≡ s.pins

abbrev pub CopiesAreRight : Type 0
CopiesAreRight = (s : Space) (i j : ℕ) (c : Claimed) (s2 : Space) → IsSound s → Copies s i j c s2 → IsCopied s i j s2

-- A copy that comes last is charged nothing, since somebody else's page is the first on each of its frames; and to
-- nobody else other frames are charged than before, nor are more or fewer of them active, nor do they weigh more or less.
abbrev pub CopiesAreFree : Type 0
CopiesAreFree =
    (s : Space) (i j : ℕ) (c : Claimed) (s2 : Space) → IsSound s → Copies s i j c s2
    → ((k : ℕ) (t : Occupant) → occupant_at s k t → t.number < c.number)
    → (charged_of s2 j ≡ 0)
    × ((k : ℕ) → k ≢ j
    → (charged_of s2 k ≡ charged_of s k) × (weight_of s2 k ≡ weight_of s k) × (active_of s2 k ≡ active_of s k))

-- whoever would have to pay still would, and nobody else
abbrev pub CopiesLeavePayer : Type 0
CopiesLeavePayer =
    (s : Space) (i j : ℕ) (c : Claimed) (s2 : Space) → IsSound s → Copies s i j c s2
    → ((k : ℕ) (t : Occupant) → occupant_at s k t → t.number < c.number)
    → (k : ℕ) → IsPayer s2 k ↔ IsPayer s k

-- what was ready for somebody else is ready still, and nothing else is
abbrev pub CopiesLeaveReady : Type 0
CopiesLeaveReady =
    (s : Space) (i j : ℕ) (c : Claimed) (s2 : Space) → IsSound s → Copies s i j c s2
    → (k : ℕ) (need : Need) → k ≢ j → k ≢ i → Ready s2 k need ↔ Ready s k need

-- a page that isn't in memory, or is on its way: it is neither untouched nor on a frame that it isn't leaving
abbrev pub IsAway : Space → ℕ → Type 0
IsAway s i = (p : ℕ) × (page : Page) × (page_at s.tables i p ≡ Some page) × (untouched page + stays page ≡ 0)
