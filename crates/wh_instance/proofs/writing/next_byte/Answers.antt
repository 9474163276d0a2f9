use Rattle.std.proofs.Common.{◌<◌, ◌≤◌, length, min, sym, ap, ◌∙◌, arith, rules}
use Rattle.wh_instance.proofs.Cutting.{behind_whole, behind_all, there}
use Rattle.wh_instance.proofs.writing.next_byte.Goals as goal

pub returns-then-at-bytes-clause-some : goal.returns-then-at-bytes-clause-some
returns-then-at-bytes-clause-some c =
    let d = c.segment_at.result.now in
    let low : c.loop-segment.at < length d.init.items = omega (arith, ap length c.bytes_of-bytes.ensures) in
    let n = there c.args.places.now c.loop-segment.segment (omega (arith, c.least-segment-end.ensures)) in
    ((d, n.0, c.segment_at.ensures, n.1, low), c.loop-segment.invariant)

pub loop-segment-preserved : goal.loop-segment-preserved
loop-segment-preserved c =
    let d = c.segment_at.result.now in
    let i = c.loop-segment.segment in
    let full : length d.init.items ≤ c.loop-segment.at = omega (arith, ap length c.bytes_of-bytes.ensures) in
    let n = there c.args.places.now i (omega (arith, c.least-segment-end.ensures)) in
    sym (behind_whole c.args.segments.now c.args.places.now i c.loop-segment.at d n.0 c.segment_at.ensures n.1 full) ∙ c.loop-segment.invariant

pub returns-clause-none : goal.returns-clause-none
returns-clause-none c = search (rules, min, behind_all)
