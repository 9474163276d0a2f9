use Rattle.std.proofs.Common.{ℕ, ◌<◌, get_or}
use Rattle.wh_syntax.specs.declared.module.Element.{Element}
use Rattle.wh_bodies.specs.View.{view_context}
use Rattle.wh_validate.specs.Parts.{IsValidElement}
use Rattle.wh_validate.proofs.segments.check_elements.Given as goal

abbrev pub invariant-loop-element : goal.invariant-loop-element
invariant-loop-element l = (k : ℕ) (d : Element) → k < l.element-index → IsValidElement (view_context l.context) (get_or l.elements k d)
