use Rattle.std.proofs.Common.{refl, arith}
use Rattle.wh_frames.proofs.Free.{taken_of, slice_get-front, pool_of-write}
use Rattle.wh_frames.proofs.pool.FramePool.bytes_mut.Goals as goal

pub index_mut-requires : goal.index_mut-requires
index_mut-requires c =
    let taken = taken_of c.self.inside c.args.frame c.self.invariant.within (rw (← c.self.view_is) at c.requires) in
    omega (arith, taken.0, c.self.inside.frames.ok.0)

pub returns : goal.returns
returns c =
    let taken = taken_of c.self.inside c.args.frame c.self.invariant.within (rw (← c.self.view_is) at c.requires) in (
      (refl, λ w. rw (← c.self.view_is) (pool_of-write c.self.inside c.args.frame w taken.0)),
      record { writes = tt; value = rw (← c.self.view_is) (slice_get-front c.self.inside.frames.items _ c.args.frame c.index_mut.result.now taken.0 c.index_mut.ensures.value) },
    )
