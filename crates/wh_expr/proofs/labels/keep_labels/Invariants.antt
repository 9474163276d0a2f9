use Rattle.std.proofs.Common.{◌≡◌, ℕ, ◌+◌, ◌-◌, ◌≤◌, ◌++◌, List, length}
use Rattle.wh_leb.specs.Reading.{u32_at, times_at, with_front}
use Rattle.wh_expr.proofs.labels.keep_labels.Given as goal

abbrev pub invariant-loop-index : goal.invariant-loop-index
invariant-loop-index l = record {
  inside : l.place ≤ length l.bytes;
  paid : l.fn.at + l.index ≤ l.place;
  grows : length l.labels.items ≡ length l.fn.labels.items + l.index;
  same : (xs : List ℕ) × (l.labels.items ≡ l.fn.labels.items ++ xs) × (with_front xs (times_at (l.count - l.index) u32_at l.bytes l.place) ≡ times_at l.count u32_at l.bytes l.fn.at);
}
