-- Pages that stand alone.
use Rattle.std.proofs.Common.{◌≡◌, ◌∙◌, ℕ, ◌+◌, [], ◌∷◌, Some, refl, arith}
use Rattle.wh_space_model.specs.declared.states.Page.TheVariants.{Private}
use Rattle.wh_space_model.specs.{Space, frames_for, IsSound, page_at, untouched}
use Rattle.wh_space_model.proofs.Counting.{frames_one_page, shared_frame, single}
use Rattle.wh_space.specs.Steps.{CanBreak}

-- a page that stands alone can be written at once
pub can_break : (s : Space) (i p f : ℕ) → IsSound s → page_at s.tables i p ≡ Some (Private f) → CanBreak s i p
unfolding shared_frame single
can_break s i p f sound there =
    let zero : untouched (Private f) + single s (shared_frame (Private f)) ≡ 0 = refl in
    let none : frames_for s i (p ∷ []) ≡ 0 = frames_one_page s i p (Private f) sound.frames there ∙ zero in
    (rw there refl, omega (arith, none))
