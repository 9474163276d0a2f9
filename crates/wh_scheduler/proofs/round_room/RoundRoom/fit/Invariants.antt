use Rattle.std.proofs.Common.{◌-◌}
use Rattle.wh_host.specs.Rounds.{AllAreFree}
use Rattle.wh_scheduler.proofs.round_room.RoundRoom.fit.Given as goal

abbrev pub invariant-loop-self : goal.invariant-loop-self
invariant-loop-self l = AllAreFree l.self-inside.runners.items

abbrev pub decreases-loop-self : goal.decreases-loop-self
decreases-loop-self l = l.many - l.self-inside.runners.len
