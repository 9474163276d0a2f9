use Rattle.std.proofs.Common.{sym}
use Rattle.wh_frames.proofs.Free.{length_frames}
use Rattle.wh_frames.proofs.pool.FramePool.len.Goals as goal

pub returns : goal.returns
returns c = rw (← c.self.view_is) (sym (length_frames c.self.inside c.self.invariant.within))
