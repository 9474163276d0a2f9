-- What becomes of a page on a frame that is shared and has no entry.
use Rattle.std.specs.Prelude.{ℕ, ◌≡◌, false, Some, slice_get}
use Rattle.wh_space_model.specs.declared.states.Mark.TheVariants.{Unlisted}
use Rattle.wh_space_model.specs.declared.states.Page.TheVariants.{Shared, Untouched}
use Rattle.wh_space_model.specs.Offers.{gone_from}
use Rattle.wh_space_model.specs.Parts.{Space}
use Rattle.wh_space_model.specs.States.{page_at, put}

-- no page shares such a frame there, without leaving it
abbrev pub IsNotUnlisted : Space → ℕ → ℕ → Type 0
IsNotUnlisted s i p = (f n : ℕ) → page_at s.tables i p ≡ Some (Shared f) → ¬ (slice_get s.marks f ≡ Some (Unlisted n))

-- page p of the instance at place i, which shared frame f, is untouched
abbrev pub zeros_left : Space → ℕ → ℕ → ℕ → Space
zeros_left s i p f = let s1 : Space = gone_from s i p f Untouched in record s1 { touched = put s1.touched i p false }
