use Rattle.std.proofs.Common.{ℕ, ◌+◌, ◌<◌, ◌≤◌, length, get_or}
use Rattle.wh_syntax.specs.declared.module.Data.{Data}
use Rattle.wh_initial.specs.ConstantWords.{word_in}
use Rattle.wh_initial.specs.InBasis.{words_of_basis}
use Rattle.wh_initial.proofs.segments.segments_fit.Given as goal

abbrev pub invariant-loop-segment : goal.invariant-loop-segment
invariant-loop-segment l = (k : ℕ) (d : Data) → k < l.segment-index
    → word_in (words_of_basis l.basis) (get_or l.basis.module.now.segments.items k d).offset
    + length (get_or l.basis.module.now.segments.items k d).init.items ≤ l.size
