use Rattle.std.proofs.Common.{◌≡◌, ◌≤◌, length}
use Rattle.wh_decode.specs.Items.{Given}
use Rattle.wh_decode.proofs.items.items.Given as goal

abbrev pub invariant-loop-index : goal.invariant-loop-index
invariant-loop-index g l = record {
  inside : l.place ≤ length l.bytes;
  all : length l.list.items ≡ l.index;
  given : Given g.T.Item.gift l.bytes l.fn.at l.list.items l.place;
}
