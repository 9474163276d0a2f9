use Rattle.std.proofs.Common.{arith}
use Rattle.wh_frames.proofs.Free.{taken_of, slice_get-front}
use Rattle.wh_frames.proofs.pool.FramePool.bytes.Goals as goal

pub index-requires : goal.index-requires
index-requires c =
    let taken = taken_of c.self.inside c.args.frame c.self.invariant.within (rw (← c.self.view_is) at c.requires) in
    omega (arith, taken.0, c.self.inside.frames.ok.0)

pub returns : goal.returns
returns c =
    let taken = taken_of c.self.inside c.args.frame c.self.invariant.within (rw (← c.self.view_is) at c.requires) in
    rw (← c.self.view_is) (slice_get-front c.self.inside.frames.items _ c.args.frame c.index.result.now taken.0 c.index.ensures)
