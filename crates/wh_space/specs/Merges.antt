-- What an offer of a page may leave.
use Rattle.std.specs.Prelude.{ℕ, ◌≡◌, ◌+◌, ◌<◌, ◌^◌, false, Some, length, slice_set}
use Rattle.wh_space_model.specs.declared.states.Mark.TheVariants.{Plain}
use Rattle.wh_space_model.specs.declared.states.Page.TheVariants.{Private, Untouched}
use Rattle.wh_space_model.specs.Offers.{gives_up, hinted}
use Rattle.wh_space_model.specs.Parts.{Space}
use Rattle.wh_space_model.specs.States.{page_at, put}

-- page p of the instance at place i, which was on frame g, is untouched
abbrev pub emptied : Space → ℕ → ℕ → ℕ → Space
emptied s i p g = let s1 : Space = gives_up s i p g Untouched in record s1 { touched = put s1.touched i p false }

-- it is the hint of its hash in place of the page on frame f
abbrev pub rehinted : Space → ℕ → ℕ → ℕ → ℕ → ℕ → Space
rehinted s i p g f hash = hinted (record s { marks = slice_set s.marks f Plain }) i p g hash

-- there are so few frames and slots that the reference count of a frame fits in 32 bits
abbrev pub HasFewPages : Space → Type 0
HasFewPages s = length s.pool.frames + length s.slots.uses < 2 ^ 32

-- no page there has a frame of its own
abbrev pub IsNotPrivate : Space → ℕ → ℕ → Type 0
IsNotPrivate s i p = (g : ℕ) → ¬ (page_at s.tables i p ≡ Some (Private g))
