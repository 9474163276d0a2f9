use Rattle.std.proofs.Common.{◌≡◌, ◌-◌, ◌≤◌, length}
use Rattle.wh_model.specs.Format.{value_type}
use Rattle.wh_leb.specs.Reading.{one_at, times_at, with_front}
use Rattle.wh_decode.proofs.types.val_types.Given as goal

abbrev pub invariant-loop-index : goal.invariant-loop-index
invariant-loop-index g l = record {
  inside : l.place ≤ length l.bytes;
  same : with_front l.types.items (times_at (l.count - l.index) (one_at value_type) l.bytes l.place) ≡ times_at l.count (one_at value_type) l.bytes l.fn.at;
}
