use Rattle.std.proofs.Common.{take, drop, length, sym, subst, ◌∙◌}
use Rattle.std.specs.Io.KnownBytes.{Consumes}
use Rattle.wh_script.proofs.Coming.{keeps_consumes, front_of_filled}
use Rattle.wh_script.proofs.lines.Lines.fill.Goals as goal

pub returns-in-Ok-clause-bytes : goal.returns-in-Ok-clause-bytes
returns-in-Ok-clause-bytes g c =
    let left = g.R.Read.remaining in
    let buf = c.read.new.buf in
    let l = c.loop-tried.self in
    let same = front_of_filled c.in-Ok.count l.chunk.len buf (drop (length buf) l.chunk.items) c.in-Ok.ensures.bound.0 (c.read.auto.buf ∙ c.deref_mut.ensures.len) in
    subst (λ xs. Consumes (left c.args.reader.now.inner) (left c.read.new.self.inner) xs) (sym same) (keeps_consumes (left c.args.reader.now.inner) (left c.loop-tried.reader.inner) (left c.read.new.self.inner) (take c.in-Ok.count buf) c.loop-tried.invariant.kept c.in-Ok.ensures.bytes.0)
