use Rattle.std.proofs.Common.{◌≡◌}
use Rattle.wh_scheduler.proofs.round_room.RoundRoom.note_all.Given as goal

abbrev pub invariant-loop-at : goal.invariant-loop-at
invariant-loop-at l = l.self ≡ l.fn.self
