-- What the steps of an instance leave: loads, stores and growth, and where it stands and no longer waits for a frame.
-- And what a new epoch leaves.
use Rattle.std.specs.Prelude.{ℕ, ◌≡◌, ◌*◌, ◌++◌, map, replicate, Bool, true, false, List, [], ◌∷◌, Option, Some, None, length, get_or, slice_set}
use Rattle.wh_model.specs.declared.memory.Need.{Need}
use Rattle.wh_model.specs.Execution.Store.{written}
use Rattle.wh_model.specs.Execution.Memory.{reading, writing}
use Rattle.wh_space_model.specs.declared.states.Page.TheVariants.{Untouched}
use Rattle.wh_space_model.specs.States.{owns, put}
use Rattle.wh_space_model.specs.Parts.{Space, Occupant, view, frame_bytes}
use Rattle.wh_space_model.specs.Ready.{pages_of_need, among}
use Rattle.wh_space_model.specs.Breaks.{BreaksEach}
use Rattle.wh_space_model.specs.Moves.{unpinned_of}

-- these pages of the instance at a place are touched
abbrev pub touching : List (List Bool) → ℕ → List ℕ → List (List Bool)
touching touched i [] = touched
touching touched i (p ∷ ps) = put (touching touched i ps) i p true

-- The instance at place i read n bytes: the pages are touched, untouched ones too, and all else is as it was.
abbrev pub Touches : Space → ℕ → ℕ → ℕ → Space → Type 0
Touches s i at n s2 = s2 ≡ record s { touched = touching s.touched i (pages_of_need (reading at n)) }

-- The instance at place i, whose pages here are alone on their frames, writes these bytes to them: it sees them. All
-- other frames, and all else, are as they were.
pub record Fills (s : Space) (i at : ℕ) (given : List ℕ) (s2 : Space) : Type 0 where
  pub frames : List (List ℕ)
  pub sees : view s2 i ≡ written (view s i) at given
  pub many : length frames ≡ length s.pool.frames
  pub whole : (f : ℕ) → length (get_or frames f []) ≡ length (frame_bytes s f)
  pub others : (f : ℕ) → among (owns f) s i (pages_of_need (writing at (length given))) ≡ 0
      → get_or frames f [] ≡ frame_bytes s f
  pub after : s2 ≡ record s { pool = record s.pool { frames = frames } }

-- The instance at place i wrote these bytes: each page that is written is given a frame of its own, the lower one first, and then
-- has them.
pub record Overwrites (s : Space) (i at : ℕ) (given : List ℕ) (s2 : Space) : Type 0 where
  pub mid : Space
  pub breaks : BreaksEach s i (pages_of_need (writing at (length given))) mid
  pub fills : Fills mid i at given s2

-- The instance at place i grew by n pages of WebAssembly, sixteen of these pages each: they are untouched, also in this epoch.
abbrev pub Grew : Space → ℕ → ℕ → Space → Type 0
Grew s i n s2 = s2 ≡ record s {
  tables = slice_set s.tables i (get_or s.tables i [] ++ replicate (16 * n) Untouched);
  touched = slice_set s.touched i (get_or s.touched i [] ++ replicate (16 * n) false);
}

-- a new epoch: no page was touched in it
abbrev pub Epochs : Space → Space → Type 0
Epochs s s2 = s2 ≡ record s { touched = map (map (λ mark. false)) s.touched }

-- the instance waits for a frame at these bytes, or isn't blocked on one
abbrev pub awaiting : Option Occupant → Option Need → Option Occupant
awaiting None need = None
awaiting (Some t) need = Some (record t { stands = need })

abbrev pub stood : Space → ℕ → Option Need → Space
stood s i need = record s { occupants = slice_set s.occupants i (awaiting (get_or s.occupants i None) need) }

-- The step for which it stood was taken, or its call cancelled: its pins and earmarks end with it.
abbrev pub ended : Space → ℕ → Space
ended s i = unpinned_of (stood s i None) i
