-- What was read stands before the place.
use Rattle.std.proofs.Common.{◌≡◌, ◌+◌, ◌-◌, ◌++◌, rules, arith, length, take, sym, ap, ◌∙◌, subst, le_refl}
use Rattle.std.proofs.lemmas.Slice.{take-put_mid_below}
use Rattle.std.specs.Io.KnownBytes.{Consumes}
use Rattle.std.proofs.KnownBytes.{Consumes-trans, Consumes-kept}
use borrow.Rule.Slice.PartMut.{put_mid}
use Rattle.wh_multiplex.proofs.Moved.{take_split, slice_range-put_mid}
use Rattle.wh_multiplex.proofs.moving.fill.Goals.{in-Ok+else-at-buffer, in-Err+else-ne}
use Rattle.wh_multiplex.proofs.moving.fill.Goals as goal

pub loop-preserved : goal.loop-preserved
loop-preserved g c =
    let from = c.loop.at in
    let room = length c.loop.buffer - from in
    let read = c.loop.invariant.1 in
    elim c.match-read.branch [
      | in-Ok+else-at-buffer w ↦
          let n = w.in-Ok.count in
          let part = slice_range-put_mid from room n c.loop.buffer c.read.new.buf (omega arith) w.in-Ok.ensures.bound.0 in
          let joined = take_split from (from + n) c.loop.buffer (put_mid from room c.loop.buffer c.read.new.buf) (omega arith) (take-put_mid_below _ _ _ _ _ (le_refl _) (omega arith)) in
          rw w.at-is (search rules, subst (Consumes _ _) (ap (λ l. take from c.loop.buffer ++ l) (sym part) ∙ joined) (Consumes-trans _ _ _ _ _ read w.in-Ok.ensures.bytes.0))
      | in-Err+else-ne w ↦
          rw w.at-is (search rules, subst (Consumes _ _) (sym (take-put_mid_below _ _ _ _ _ (le_refl _) (omega arith))) (Consumes-kept _ _ _ _ read w.in-Err.ensures.bytes))
    ]
