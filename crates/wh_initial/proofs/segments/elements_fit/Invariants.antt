use Rattle.std.proofs.Common.{ℕ, ◌+◌, ◌<◌, ◌≤◌, length, get_or}
use Rattle.wh_syntax.specs.declared.module.Element.{Element}
use Rattle.wh_initial.specs.ConstantWords.{word_in}
use Rattle.wh_initial.specs.InBasis.{words_of_basis}
use Rattle.wh_initial.proofs.segments.elements_fit.Given as goal

abbrev pub invariant-loop-element : goal.invariant-loop-element
invariant-loop-element l = (k : ℕ) (d : Element) → k < l.element-index
    → word_in (words_of_basis l.basis) (get_or l.basis.module.now.elements.items k d).offset
    + length (get_or l.basis.module.now.elements.items k d).init.items ≤ l.size
