use Rattle.std.proofs.Common.{◌≡◌, ◌-◌, ◌≤◌, length}
use Rattle.wh_leb.specs.Reading.{with_front}
use Rattle.wh_decode.specs.ReadingModule.{runs_at}
use Rattle.wh_decode.proofs.bodies.runs.Given as goal

abbrev pub invariant-loop-index : goal.invariant-loop-index
invariant-loop-index l = record {
  inside : l.place ≤ length l.bytes;
  few : l.declared ≤ 256;
  same : with_front l.locals.items (runs_at (l.count - l.index) l.declared l.bytes l.place) ≡ runs_at l.count 0 l.bytes l.fn.at;
}
