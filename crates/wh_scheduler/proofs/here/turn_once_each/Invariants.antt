use Rattle.std.proofs.Common.{◌≡◌, ◌≤◌, false}
use Rattle.wh_scheduler.specs.InHand.{Rests, RestsOrWaits, RunsHere}
use Rattle.wh_scheduler.proofs.OwnTurns.{EachBelow}
use Rattle.wh_scheduler.proofs.here.turn_once_each.Given as goal

abbrev pub invariant-loop-at : goal.invariant-loop-at
invariant-loop-at g l =
    (l.turns ≤ l.most)
    × RunsHere l.fn.locked.books l.fn.shares.owner l.turns l.locked.books l.shares.owner
    × (l.shares ≡ record l.fn.shares { owner = l.shares.owner })
    × (l.locked.known ≡ l.fn.locked.known)
    × (l.turns ≡ 0 → EachBelow RestsOrWaits l.locked.host l.ids l.at)
    × (l.turns ≡ 0 → l.waits ≡ false → EachBelow Rests l.locked.host l.ids l.at)
