-- The memory of all once what an instance has written in its overlay is written back, and the outcome of its turn there.
use Rattle.std.specs.Prelude.{◌≡◌, ◌≢◌, ℕ, ◌*◌, ◌+◌, ◌<◌, ◌≤◌, List, [], Some, length, get_or, slice_get}
use Rattle.wh_model.specs.Execution.Store.{Instance}
use Rattle.wh_model.specs.Execution.Replay.{Call}
use Rattle.wh_host_model.specs.Host.Spaces.{StepsAlone}
use Rattle.wh_host_model.specs.Host.Turns.{Upshot, to_end, out_of_fuel, to_wait, to_go_on, Proceeds}
use Rattle.wh_host_model.specs.Host.Worlds.{Rest, Doing}
use Rattle.wh_space_model.specs.Charges.{IsTouched}
use Rattle.wh_space_model.specs.Parts.{Space, claim, view}
use Rattle.wh_space_model.specs.Ready.{IsAtHand, Ready}
use Rattle.wh_space_model.specs.States.{page_at}
use Rattle.wh_space.specs.StepViews.{KeepsRest}
use Rattle.wh_overlay.specs.declared.overlay_pages.WrittenPage.{WrittenPage}
use Rattle.wh_overlay.specs.LaidPages.{IsNoted, OverlayPagesState, with_upper}
use Rattle.wh_overlay.specs.Over.{IsOnItsOwn, IsWholeOver, OverlayState, frames_lacking}

-- For the instance at this place one memory is as good as another: it has the same pages there, sees the same, and was promised the
-- same.
pub record LooksSame (i : ℕ) (s s2 : Space) : Type 0 where
  pub table : get_or s2.tables i [] ≡ get_or s.tables i []
  pub sees : view s2 i ≡ view s i
  pub claim : claim s2 i ≡ claim s i

-- By steps of its own alone the instance at this place has come to see these bytes, has grown by `grown` pages of 65536 bytes,
-- has read pages of these numbers, each of which is marked as touched, and has written these pages: each has a frame of its own,
-- and is marked as touched, too. No more free frames were taken than pages lacked one. What was resident or untouched is, and so
-- are the pages by which it has grown; pages that had a frame of their own have, and marks stay. So do others' pages.
pub record HasLaid (s : Space) (i grown : ℕ) (reads : List ℕ) (bytes : List ℕ) (pages : List WrittenPage) (s2 : Space) : Type 0 where
  pub sees : view s2 i ≡ bytes
  pub keeps : KeepsRest i s s2
  pub read : (p : ℕ) → IsNoted reads p → IsTouched s2 i p
  pub own : (k : ℕ) (x : WrittenPage) → slice_get pages k ≡ Some x → IsOnItsOwn s2 i x.number × IsTouched s2 i x.number
  pub free : length s.pool.free ≤ length s2.pool.free + frames_lacking s i pages
  pub at_hand : (p : ℕ) → IsAtHand (page_at s.tables i p) → IsAtHand (page_at s2.tables i p)
  pub come : (p : ℕ) → length (get_or s.tables i []) ≤ p → p < length (get_or s.tables i []) + 16 * grown
      → IsAtHand (page_at s2.tables i p)
  pub alone : (p : ℕ) → IsOnItsOwn s i p → IsOnItsOwn s2 i p
  pub touched : (p : ℕ) → IsTouched s i p → IsTouched s2 i p
  pub others : (j : ℕ) → j ≢ i → get_or s2.tables j [] ≡ get_or s.tables j []

-- what was written in the overlay is written back
abbrev pub IsLaid : Space → ℕ → OverlayPagesState → Space → Type 0
IsLaid s i u s2 = HasLaid s i u.grown u.reads (with_upper (view s i) u) u.pages s2

-- the memory of an instance is that of this place of this memory, at most `frames` frames are lent, and what is written in the
-- overlay can be written back
pub record LiesOver (s : Space) (i frames : ℕ) (o : OverlayState) : Type 0 where
  pub lower : o.lower ≡ s
  pub place : o.place ≡ i
  pub lent : o.upper.lent ≤ frames
  pub whole : IsWholeOver s i o.upper

-- in a turn of q charges the present call comes so far, over the memory of all
abbrev pub ProceedsThere : ℕ → Instance → ℕ → Call → Space → Rest → Doing → Upshot → ℕ → ℕ → Space → Rest → Doing → Type 0
ProceedsThere i inst q call s r d to k n s2 r2 d2 =
    Proceeds (λ x. view x i) (λ x. Ready x i) (StepsAlone i) inst q call s r d to k n s2 r2 d2

-- The outcome there of a turn of q charges that had this outcome over the overlay. Bytes that weren't ready over it may be once
-- all is written back: then it was a turn of as many charges as it took.
abbrev pub ComesThere : ℕ → Instance → ℕ → Call → Space → Rest → Doing → Upshot → ℕ → ℕ → Space → Rest → Doing → Type 0
ComesThere i inst q call s r d (to_wait need) k n s2 r2 d2 =
    (Ready s2 i need → ProceedsThere i inst n call s r d to_go_on k n s2 r2 d2)
    × (¬ (Ready s2 i need) → ProceedsThere i inst q call s r d (to_wait need) k n s2 r2 d2)
ComesThere i inst q call s r d (to_end o) k n s2 r2 d2 = ProceedsThere i inst q call s r d (to_end o) k n s2 r2 d2
ComesThere i inst q call s r d out_of_fuel k n s2 r2 d2 = ProceedsThere i inst q call s r d out_of_fuel k n s2 r2 d2
ComesThere i inst q call s r d to_go_on k n s2 r2 d2 = ProceedsThere i inst q call s r d to_go_on k n s2 r2 d2
