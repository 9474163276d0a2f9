use Rattle.std.proofs.Common.{◌+◌, ◌≤◌, length, drop, sym, ap, subst, ◌∙◌}
use Rattle.wh_model.specs.Execution.{written}
use Rattle.wh_flatmem.specs.FlatMemoryState.{FlatMemoryState}
use Rattle.wh_alone.specs.ModuleCalls.{written_over}
use Rattle.wh_alone.proofs.Pieces.{piece_fits, piece_written, length_same}
use Rattle.wh_alone.proofs.segments.write_segments.Goals as goal

pub write-requires : goal.write-requires
write-requires c =
    let r = c.requires in
    subst (λ bs. c.place_at.result + length bs ≤ length c.loop-at.memory.bytes) (sym c.as_slice.ensures.value)
    (piece_fits c.args.memory.now.bytes c.loop-at.memory.bytes r.0 c.args.places.now c.args.segments.now c.loop-at.at c.place_at.result c.segment_at-segment.result.now r.1 r.2 c.loop-at.invariant.size c.place_at.ensures c.segment_at-segment.ensures)

pub loop-at-preserved : goal.loop-at-preserved
loop-at-preserved c =
    let r = c.requires in
    let now = c.loop-at.memory.bytes in
    let place = c.place_at.result in
    let d = c.segment_at-segment.result.now in
    let fits = piece_fits c.args.memory.now.bytes now r.0 c.args.places.now c.args.segments.now c.loop-at.at place d r.1 r.2 c.loop-at.invariant.size c.place_at.ensures c.segment_at-segment.ensures in
    record {
      bytes = λ ps pieces within.
          ap (λ (m : FlatMemoryState). written_over m.bytes (drop (c.loop-at.at + 1) ps)) c.write.ensures
          ∙ ap (λ bs. written_over (written now place bs) (drop (c.loop-at.at + 1) ps)) c.as_slice.ensures.value
          ∙ piece_written now ps c.args.places.now c.args.segments.now c.loop-at.at place d pieces c.place_at.ensures c.segment_at-segment.ensures
          ∙ c.loop-at.invariant.bytes ps pieces within;
      size = ap (λ (m : FlatMemoryState). length m.bytes) c.write.ensures ∙ ap (λ bs. length (written now place bs)) c.as_slice.ensures.value ∙ length_same now place d.init.items fits ∙ c.loop-at.invariant.size;
      limit = ap (λ (m : FlatMemoryState). m.limit) c.write.ensures ∙ c.loop-at.invariant.limit;
    }
