-- The page table of one instance.
use Rattle.std.specs.Prelude.{ℕ, ◌≡◌, List, Bool, cond, Option, Some, None}
use Rattle.wh_space_model.specs.declared.states.Page.{Page}
use Rattle.wh_space_model.specs.declared.states.Page.TheVariants.{Coming, Leaving, LeavingShared, Private, Shared, Swapped, Untouched}

-- its pages in order, which of them were touched in this epoch, and how many it may have
pub record PageTableState : Type 0 where
  pub pages : List Page
  pub touched : List Bool
  pub max : ℕ

-- the frame of its own of a page that isn't leaving it
abbrev pub own_frame_of : Page → Option ℕ
own_frame_of (Private f) = Some f
own_frame_of Untouched = None
own_frame_of (Shared f) = None
own_frame_of (Leaving f) = None
own_frame_of (LeavingShared f) = None
own_frame_of (Coming k) = None
own_frame_of (Swapped k) = None

-- of a page that is there, with its mark, this is found where it was touched, else none
pub record IsFrameIfTouched (find : Page → Option ℕ) (at : Option Page) (mark_at : Option Bool) (found : Option ℕ) : Type 0 where
  pub page : Page
  pub mark : Bool
  pub there : at ≡ Some page
  pub marked : mark_at ≡ Some mark
  pub is : found ≡ cond mark (find page) None
