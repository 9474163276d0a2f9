-- Pages on frames that were touched in this epoch.
use Rattle.std.proofs.Common.{◌≡◌, ℕ, Bool, Option, Some, true, rules}
use Rattle.wh_space_model.specs.declared.states.Page.{Page}
use Rattle.wh_space_model.specs.{frame_of}
use Rattle.wh_space_model.specs.declared.states.Page.TheVariants.{Coming, Leaving, LeavingShared, Private, Shared, Swapped, Untouched}
use Rattle.wh_pages.specs.Table.{IsFrameIfTouched, own_frame_of}

-- what was found was found on a page that was touched
found_touched : (find : Page → Option ℕ) (at : Option Page) (mark_at : Option Bool) (frame : ℕ) → IsFrameIfTouched find at mark_at (Some frame)
    → (page : Page) × (at ≡ Some page) × (mark_at ≡ Some true) × (find page ≡ Some frame)
found_touched find at mark_at frame t = search rules

pub frame_touched : (at : Option Page) (mark_at : Option Bool) (frame : ℕ) → IsFrameIfTouched frame_of at mark_at (Some frame)
    → (page : Page) × (at ≡ Some page) × (mark_at ≡ Some true) × (frame_of page ≡ Some frame)
frame_touched at mark_at frame t = found_touched frame_of at mark_at frame t

owned : (page : Page) (frame : ℕ) → own_frame_of page ≡ Some frame → page ≡ Private frame
owned (Private f) frame e = cc e
owned Untouched frame e = absurd (cc e)
owned (Shared f) frame e = absurd (cc e)
owned (Leaving f) frame e = absurd (cc e)
owned (LeavingShared f) frame e = absurd (cc e)
owned (Coming k) frame e = absurd (cc e)
owned (Swapped k) frame e = absurd (cc e)

pub own_touched : (at : Option Page) (mark_at : Option Bool) (frame : ℕ) → IsFrameIfTouched own_frame_of at mark_at (Some frame)
    → (at ≡ Some (Private frame)) × (mark_at ≡ Some true)
own_touched at mark_at frame t = search rules
