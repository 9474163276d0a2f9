-- One move nearer to a step.
use Rattle.std.specs.Prelude.{ℕ, ◌≡◌, ◌⊎◌, List, [], Some, slice_get}
use Rattle.wh_model.specs.declared.memory.Need.{Need}
use Rattle.wh_space_model.specs.declared.states.Slot.TheVariants.{Vacant}
use Rattle.wh_space_model.specs.Claims.{MustLeave}
use Rattle.wh_space_model.specs.Frames.{tally}
use Rattle.wh_space_model.specs.Moves.{Earmarks, Evicts}
use Rattle.wh_space_model.specs.Parts.{Space}
use Rattle.wh_space_model.specs.Ready.{frames_to_write}
use Rattle.wh_space_model.specs.Provide.{GivesUp, IsServed, IsTrueTo, Move, MovesOn, Serves, comes, goes, leaves}
use Rattle.wh_space_model.specs.Tickets.{with_held}
use Rattle.wh_reclaim.specs.declared.ready.MoveOutcome.{MoveOutcome}
use Rattle.wh_reclaim.specs.declared.ready.MoveOutcome.TheVariants.{Done, Came, Left}

-- a device call failed: nothing changed, or nothing is known any more of what a vacant slot holds
abbrev pub LosesSlot : Space → Space → Type 0
LosesSlot s s2 = (s2 ≡ s) ⊎ ((k : ℕ) × (slice_get s.slots.uses k ≡ Some Vacant) × (s2 ≡ with_held s k []))

-- a page has left that had to
abbrev pub Revokes : Space → ℕ → Need → Space → Type 0
Revokes s i need s2 = (j p : ℕ) × MustLeave s i need j p × Evicts s j p s2

-- what was made of it: nothing was lacking, a page has come, or one has left. What came is what its slot held, where
-- the device was honest.
abbrev pub GoesOn : Type 0 → Space → ℕ → Need → MoveOutcome → Space → Type 0
GoesOn honest s i need Done s2 = IsServed s i need × (s2 ≡ s)
GoesOn honest s i need Came s2 =
    (bytes : List ℕ) × MovesOn s i need (comes bytes) s2 × (honest → IsTrueTo s i need (comes bytes))
GoesOn honest s i need Left s2 = MovesOn s i need goes s2

-- 1 where a page has left
abbrev pub left_by : MoveOutcome → ℕ
left_by Done = 0
left_by Came = 0
left_by Left = 1

-- 1 where a page came
abbrev pub arrives : Move → ℕ
arrives (comes bytes) = 1
arrives goes = 0

-- A step was pinned, and so many pages have left and so many have come for it since; then as many frames were earmarked as its writes
-- want, or the device has failed.
abbrev pub HasMovedPages : Space → ℕ → Need → (left came : ℕ) → Space → Type 0
HasMovedPages s i need left came s2 =
    (moves : List Move) × (mid : Space) × Serves s i need moves mid × (tally leaves moves ≡ left) × (tally arrives moves ≡ came)
    × ((IsServed mid i need × Earmarks mid i (frames_to_write mid i need) s2) ⊎ GivesUp mid s2)
