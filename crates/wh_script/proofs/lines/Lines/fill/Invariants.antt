use Rattle.std.proofs.Common.{◌≡◌, ◌<◌, true, vec_len}
use Rattle.std.specs.Io.KnownBytes.{Keeps}
use Rattle.wh_script.proofs.lines.Lines.fill.Given as goal

-- nothing was read, each read has failed, and the chunk keeps its room
abbrev pub invariant-loop-tried : goal.invariant-loop-tried
invariant-loop-tried g l = record {
  kept : Keeps (g.R.Read.remaining l.fn.reader.inner) (g.R.Read.remaining l.reader.inner);
  room : 0 < vec_len l.self.chunk;
  tried : 0 < l._tried → l.reader.has_failed ≡ true;
  line : (l.self.line ≡ l.fn.self.line) × (l.self.is_long ≡ l.fn.self.is_long);
}
