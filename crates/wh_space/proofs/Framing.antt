-- Frames of which the page tables know.
use Rattle.std.proofs.Common.{◌≡◌, ℕ, ◌<◌, inl, inr, Some, IfSome, length, refl, sym, ap, arith, rules}
use Rattle.wh_space_model.specs.{one_if, frame_of, owns, page_at, as_leaving}
use Rattle.wh_space_model.proofs.Tally.{one_other}
use Rattle.wh_space_model.specs.declared.states.Page.{Page}
use Rattle.wh_space_model.specs.declared.states.Page.TheVariants.{Untouched, Private, Shared, Leaving, LeavingShared, Coming, Swapped}
use Rattle.wh_space_model.proofs.Putting.{here_or}
use Rattle.wh_space_model.proofs.Reading.{taken_under}
use Rattle.wh_space.specs.declared.memory.Memory.TheInside.{Inside}
use Rattle.wh_space.specs.Parts.{IsWell, space_of}
use Rattle.wh_space.specs.Transits.{back_again}

-- a frame that is there
pub known : (a : Inside) (f : ℕ) → IsWell a → f < length a.pool.frames → f < a.tables.frames
known a f was within = let e = was.frames in omega arith

-- of a page, of one that some page owns, and of a mark
pub known_under : (a : Inside) (i p f : ℕ) (page : Page) → IsWell a → page_at a.tables.pages i p ≡ Some page → frame_of page ≡ Some f → f < a.tables.frames
known_under a i p f page was there on = known a f was (taken_under (space_of a) i p page f was.sound.frames there on).0

pub known_of : (a : Inside) (i p : ℕ) (page : Page) → IsWell a → page_at a.tables.pages i p ≡ Some page → IfSome (frame_of page) (λ f. f < a.tables.frames)
known_of a i p page was there = search (rules, ℕ, known_under)

one_is : (f g : ℕ) → one_if f g ≡ 1 → f ≡ g
one_is f g is = elim (here_or g f) [ inl same ↦ same | inr other ↦ absurd (let o = one_other f g other in omega arith) ]

pub owner_frame : (f : ℕ) (page : Page) → owns f page ≡ 1 → frame_of page ≡ Some f
owner_frame f Untouched own = absurd (omega arith)
owner_frame f (Private g) own = ap Some (sym (one_is f g own))
owner_frame f (Shared g) own = absurd (omega arith)
owner_frame f (Leaving g) own = ap Some (sym (one_is f g own))
owner_frame f (LeavingShared g) own = absurd (omega arith)
owner_frame f (Coming k) own = absurd (omega arith)
owner_frame f (Swapped k) own = absurd (omega arith)

pub back_frame : (page : Page) → frame_of (back_again page) ≡ frame_of page
back_frame Untouched = refl
back_frame (Private f) = refl
back_frame (Shared f) = refl
back_frame (Leaving f) = refl
back_frame (LeavingShared f) = refl
back_frame (Coming k) = refl
back_frame (Swapped k) = refl

pub leaving_frame : (page new : Page) → as_leaving page new → frame_of new ≡ frame_of page
leaving_frame Untouched new is = absurd is
leaving_frame (Private f) new is = ap frame_of is
leaving_frame (Shared f) new is = ap frame_of is
leaving_frame (Leaving f) new is = absurd is
leaving_frame (LeavingShared f) new is = absurd is
leaving_frame (Coming k) new is = absurd is
leaving_frame (Swapped k) new is = absurd is
