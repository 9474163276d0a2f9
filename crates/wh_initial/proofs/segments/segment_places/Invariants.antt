use Rattle.std.proofs.Common.{◌≡◌, map, take}
use Rattle.wh_initial.specs.ConstantWords.{word_in}
use Rattle.wh_initial.specs.InBasis.{words_of_basis}
use Rattle.wh_initial.proofs.segments.segment_places.Given as goal

abbrev pub invariant-loop-segment : goal.invariant-loop-segment
invariant-loop-segment l = l.places.items ≡ map (λ s. word_in (words_of_basis l.basis) s.offset)
    (take l.segment-index l.basis.module.now.segments.items)
