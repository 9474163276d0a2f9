use Rattle.std.proofs.Common.{◌≡◌, ◌-◌, ◌≤◌, length}
use Rattle.wh_decode.specs.ReadingModule.{skip_at}
use Rattle.wh_decode.proofs.customs.skip.Given as goal

abbrev pub invariant-loop-place : goal.invariant-loop-place
invariant-loop-place l = record {
  inside : l.place ≤ length l.bytes;
  same : skip_at l.bytes l.place ≡ skip_at l.bytes l.fn.at;
}

abbrev pub decreases-loop-place : goal.decreases-loop-place
decreases-loop-place l = length l.bytes - l.place
