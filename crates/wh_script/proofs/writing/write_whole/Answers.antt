use Rattle.std.proofs.Common.{◌++◌, ◌<◌, inl, take, sym, ap, ◌∙◌, arith}
use Rattle.wh_script.proofs.Written.{appends_keeps, watches_piece, writes_piece}
use Rattle.wh_script.proofs.writing.write_whole.Goals.{in-Ok, in-Err}
use Rattle.wh_script.proofs.writing.write_whole.Goals as goal

pub loop-tried-preserved : goal.loop-tried-preserved
loop-tried-preserved g c =
    let inv = c.loop-tried.invariant in
    let contents = g.W.Write.contents in
    elim c.match-write.branch [
      | in-Ok w ↦
          let n = w.in-Ok.count in
          let rest = c.loop-tried.rest.now in
          let none = w.in-Ok.count-test.1 in
          let some : 0 < n = omega (arith, none) in
          let p = writes_piece (contents c.args.writer.now.inner) (contents c.loop-tried.writer.inner) (contents c.write.new.self.inner) c.args.bytes.now inv.0 rest c.match-write.rest.now n inv.1 (ap (λ b. b.now) w.rest-is) inv.2 w.in-Ok.ensures.bytes in
          (inv.0 ++ take n rest, p.0, p.1, watches_piece c.loop-tried.writer.has_failed c.write.new.self.has_failed c.loop-tried._tried n inv.0 rest some w.in-Ok.ensures.bound (w.in-Ok.ensures.kept (λ failed. none failed.0)) inv.3)
      | in-Err w ↦ (inv.0, inv.1 ∙ ap (λ b. inv.0 ++ b.now) (sym w.rest-is), appends_keeps (contents c.args.writer.now.inner) (contents c.loop-tried.writer.inner) (contents c.write.new.self.inner) inv.0 inv.2 w.in-Err.ensures.bytes, inl (w.in-Err.ensures.failed tt))
    ]
