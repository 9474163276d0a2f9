use Rattle.std.proofs.Common.{ℕ, ◌<◌, get_or}
use Rattle.wh_syntax.specs.declared.module.Data.{Data}
use Rattle.wh_bodies.specs.View.{view_context}
use Rattle.wh_validate.specs.Parts.{IsSegment}
use Rattle.wh_validate.proofs.segments.check_segments.Given as goal

abbrev pub invariant-loop-segment : goal.invariant-loop-segment
invariant-loop-segment l = (k : ℕ) (d : Data) → k < l.segment-index → IsSegment (view_context l.context) (get_or l.segments k d)
