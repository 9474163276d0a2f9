use Rattle.std.proofs.Common.{sym, subst}
use Rattle.wh_host.specs.Rounds.{AllAreFree}
use Rattle.wh_scheduler.proofs.InRounds.{free_pushed}
use Rattle.wh_scheduler.proofs.round_room.RoundRoom.fit.Goals as goal

pub loop-self-preserved : goal.loop-self-preserved
loop-self-preserved c = subst AllAreFree (sym c.push_reserved.ensures.items) (free_pushed c.loop-self.self-inside.runners.items c.in-Ok.runner c.loop-self.invariant c.in-Ok.ensures.0)
