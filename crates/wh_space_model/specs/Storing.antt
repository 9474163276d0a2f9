-- What holds of stores to the memory on which all instances lie.
use Rattle.std.specs.Prelude.{ℕ, ◌≡◌, ◌≢◌, ◌+◌, ◌*◌, ◌≤◌, map, List, [], Some, length, get_or, slice_get}
use Rattle.wh_model.specs.Execution.Store.{written}
use Rattle.wh_model.specs.Execution.Memory.{writing}
use Rattle.wh_space_model.specs.Frames.{tally, one_if}
use Rattle.wh_space_model.specs.declared.states.Mark.{Mark}
use Rattle.wh_space_model.specs.declared.states.Page.TheVariants.{Private}
use Rattle.wh_space_model.specs.States.{page_at, shares}
use Rattle.wh_space_model.specs.Parts.{Space, all_bytes, view, pinned_by, kept_by}
use Rattle.wh_space_model.specs.Sound.{IsSound}
use Rattle.wh_space_model.specs.Ready.{Ready, pages_of_need, among}
use Rattle.wh_space_model.specs.Breaks.{Breaks, fewer_sharers, voided}
use Rattle.wh_space_model.specs.Stores.{Overwrites, touching}

-- a page that is given a frame of its own leaves all sound, and all bytes as they were
abbrev pub BreaksSoundly : Type 0
BreaksSoundly =
    (s : Space) (i p : ℕ) (s2 : Space) → IsSound s → Breaks s i p s2 → IsSound s2 × (all_bytes s2 ≡ all_bytes s)

-- a store leaves all sound
abbrev pub StoresSoundly : Type 0
StoresSoundly =
    (s : Space) (i at : ℕ) (given : List ℕ) (s2 : Space) → IsSound s → Overwrites s i at given s2 → IsSound s2

-- Only the instance sees what it wrote. The pages that were written have frames of their own, and are touched; a ticket
-- with which one of them was leaving is void. All other pages stand where they stood. Frames were taken from the free
-- ones and from those that were earmarked for the instance, and none was given back.
pub record IsOverwritten (s : Space) (i at : ℕ) (given pages : List ℕ) (s2 : Space) : Type 0 where
  pub sees : view s2 i ≡ written (view s i) at given
  pub others : (j : ℕ) → j ≢ i → view s2 j ≡ view s j
  pub own : (p : ℕ) → 1 ≤ tally (one_if p) pages → (f : ℕ) × (page_at s2.tables i p ≡ Some (Private f))
  pub rest : (p : ℕ) → tally (one_if p) pages ≡ 0 → page_at s2.tables i p ≡ page_at s.tables i p
  pub tables : length s2.tables ≡ length s.tables
  pub table : length (get_or s2.tables i []) ≡ length (get_or s.tables i [])
  pub other_tables : (j : ℕ) → j ≢ i → get_or s2.tables j [] ≡ get_or s.tables j []
  pub slots : s2.slots ≡ record s.slots { uses = map (voided i pages) s.slots.uses }
  pub occupants : s2.occupants ≡ s.occupants
  pub tax : s2.tax ≡ s.tax
  pub touched : s2.touched ≡ touching s.touched i pages
  pub marks : (f : ℕ) (m : Mark) → slice_get s.marks f ≡ Some m
      → slice_get s2.marks f ≡ Some (fewer_sharers (among (shares f) s i pages) m)
  pub frames : length s2.pool.frames ≡ length s.pool.frames
  pub free : (f : ℕ) → tally (one_if f) s2.pool.free ≤ tally (one_if f) s.pool.free
  pub pinned : (j : ℕ) → pinned_by s2.pins j ≡ pinned_by s.pins j
  pub kept : (j : ℕ) → j ≢ i → kept_by s2.pins j ≡ kept_by s.pins j
  pub fewer : (f : ℕ) → tally (one_if f) (kept_by s2.pins i) ≤ tally (one_if f) (kept_by s.pins i)

abbrev pub StoresAreRight : Type 0
StoresAreRight =
    (s : Space) (i at : ℕ) (given : List ℕ) (s2 : Space) → IsSound s → Overwrites s i at given s2
    → IsOverwritten s i at given (pages_of_need (writing at (length given))) s2

-- where the bytes are in the table and ready, there is such a store
abbrev pub SomeStore : Type 0
SomeStore =
    (s : Space) (i at : ℕ) (given : List ℕ) → IsSound s → Ready s i (writing at (length given))
    → at + length given ≤ 4096 * length (get_or s.tables i []) → length given ≤ 4096
    → (s2 : Space) × Overwrites s i at given s2
