use Rattle.std.proofs.Common.{◌≡◌, ◌≤◌, ◌⊎◌, ℕ, true, List, ◌++◌, length}
use Rattle.std.specs.Io.KnownBytes.{Appends}
use Rattle.wh_script.proofs.writing.write_whole.Given as goal

-- what was written and what is left are the bytes; a call has failed, or each has written some
abbrev pub invariant-loop-tried : goal.invariant-loop-tried
invariant-loop-tried g l = (done : List ℕ) × (l.bytes ≡ done ++ l.rest) × Appends (g.W.Write.contents l.fn.writer.inner) (g.W.Write.contents l.writer.inner) done × ((l.writer.has_failed ≡ true) ⊎ (l._tried ≤ length done))
