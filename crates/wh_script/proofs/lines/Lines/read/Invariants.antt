use Rattle.std.proofs.Common.{◌≡◌, ◌≢◌, ℕ, ◌<◌, List, [], length, All, MatchBool}
use Rattle.std.specs.Io.KnownBytes.{Consumes}
use Rattle.wh_script.specs.Coming.{coming, IsInChunk, Holds}
use Rattle.wh_script.proofs.lines.Lines.read.Given as goal

-- this much of the line was read and is held
abbrev pub invariant-loop : goal.invariant-loop
invariant-loop g l = record {
  within : IsInChunk l.self;
  so_far : (line : List ℕ) × All (λ b. b ≢ 10) line × Holds l.self.line.items l.self.is_long line × MatchBool l.begun (0 < length line) (line ≡ [])
      × Consumes (coming l.fn.self (g.R.Read.remaining l.fn.reader.inner)) (coming l.self (g.R.Read.remaining l.reader.inner)) line;
}
