use Rattle.std.proofs.Common.{◌≡◌, ◌∷◌, [], length, refl, sym, ap, subst, ◌∙◌}
use Rattle.wh_model.proofs.Fragments.{length-written}
use Rattle.wh_model.specs.Execution.{Piece, wrote_all}
use Rattle.wh_instance.specs.Pieces.{pieces_left}
use Rattle.wh_instance.proofs.Written.{more_written, next_within}
use Rattle.wh_instance.proofs.writing.write_pieces.Goals as goal

pub loop-next-init : goal.loop-next-init
loop-next-init g c = record { written = ([], refl, refl, wrote_all); size = refl; keeps = g.met.M.LinearMem.keeps_same c.args.memory.now }

pub write_piece-requires-clause-within : goal.write_piece-requires-clause-within
write_piece-requires-clause-within g c =
    let left = pieces_left c.args.segments.now c.args.places.now in
    let w = c.loop-next.invariant.written in
    let piece = c.fragment_at-piece.result in
    let p : Piece = record { at = piece.at; items = piece.bytes.now } in
    let next : left c.loop-next.cursor ≡ p ∷ left piece.after = sym c.in-Some.ensures.some.1 ∙ c.fragment_at-piece.ensures.next in
    rw c.loop-next.invariant.size (next_within (length (g.M.LinearMem.bytes c.args.memory.now)) (left c.args.cursor.now) w.0 (left c.loop-next.cursor) (left piece.after) p c.requires.within w.1 next)

pub loop-next-preserved : goal.loop-next-preserved
loop-next-preserved g c =
    let bytes = g.M.LinearMem.bytes in
    let left = pieces_left c.args.segments.now c.args.places.now in
    let i = c.loop-next.invariant in
    let w = i.written in
    let mid = c.loop-next.memory in
    let m2 = c.write_piece.new.memory in
    let piece = c.fragment_at-piece.result in
    let p : Piece = record { at = piece.at; items = piece.bytes.now } in
    let next : left c.loop-next.cursor ≡ p ∷ left piece.after = sym c.in-Some.ensures.some.1 ∙ c.fragment_at-piece.ensures.next in
    let now = subst (g.M.LinearMem.ready mid) c.need_of-need.ensures c.if-not-is_ready.ensures in
    let within = next_within (length (bytes c.args.memory.now)) (left c.args.cursor.now) w.0 (left c.loop-next.cursor) (left piece.after) p c.requires.within w.1 next in
    record {
      written = more_written bytes g.M.LinearMem.ready g.M.LinearMem.keeps (left c.args.cursor.now) (left c.loop-next.cursor) (left piece.after) c.args.memory.now mid m2 c.loop-next.count p w next now c.write_piece.ensures.bytes c.write_piece.ensures.keeps;
      size = ap length c.write_piece.ensures.bytes ∙ length-written (bytes mid) piece.bytes.now piece.at (rw i.size within) ∙ i.size;
      keeps = g.met.M.LinearMem.keeps_more c.args.memory.now mid m2 i.keeps c.write_piece.ensures.keeps;
    }
